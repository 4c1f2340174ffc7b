-- Whether a left side that is computed once is equal to some member.
use Rattle.sql_forms.proofs.Common.{◌≡◌, inl, ◌∷◌, [], ℕ, List, Some, length, map, refl, sym, ◌∙◌, slice_get, Val, boolean, gives, BoundValue, bound_value, Draft, Lifted, Operand, Grows, AllHave, IsLifted, IsOpened, chosen_of, HasMemberHas, MemberHas, some_of, Puts, PutsAll, Question}
use Rattle.sql_outcomes.specs.private.ValueForms.{Itself, OrTruth}
use Rattle.sql_forms.proofs.puts.InPathPut.{held_stays}
use Rattle.sql_forms.proofs.lets.LiftedPut.{closed}
use Rattle.sql_forms.proofs.lets.LiftedWhole.{lifted_put}
use Rattle.sql_forms.proofs.lets.OneLeft.{one_value}
use Rattle.sql_forms.proofs.puts.OperandsPut.{given_itself}

module _ (question : Question) (base : ℕ) (left first : Operand) (lifted : Lifted) (old : Draft) (is_lifted : IsLifted (left ∷ []) old.depth lifted)
    (at_first : slice_get lifted.inner.items 0 ≡ Some first) (opened body new : Draft) (is_opened : IsOpened lifted old opened)
    (values : PutsAll question (closed body (length lifted.bound.items)) new (AllHave question.filter lifted.bound.items) (length lifted.bound.items))
    (idle : lifted.bound.items ≡ [] → Grows (closed body (length lifted.bound.items)) new []) where
  pub over_members_put : Puts question opened body (HasMemberHas question.filter first base) (OrTruth Itself) → Puts question old new (MemberHas question.filter left base) Itself
  over_members_put put =
      lifted_put question (left ∷ []) lifted old is_lifted opened body new is_opened values idle (HasMemberHas question.filter first base) (MemberHas question.filter left base) (OrTruth Itself) Itself put
      (λ world o at is has.
      let held = has.0 in
      let l : Val = has.1 in
      let of_left = has.2 in
      let more : List BoundValue = map bound_value (chosen_of is_lifted.choices (gives l ∷ [])) in
      record {
        os = gives l ∷ [];
        have = (of_left.has, refl);
        inner = o;
        has = inl (
          held_stays question.filter base world more held,
          l,
          one_value question left first lifted old is_lifted at_first world (gives l) at of_left.has (λ none. (l, refl)) l refl of_left.fits,
          has.3,
          has.4,
          has.5,
        );
        goes = λ x form. given_itself o (boolean (some_of has.3)) x has.5 form ∙ sym has.5;
      })
