-- A left side alone, bound by a `Let` or left as it is: what it is in the body.
use Rattle.sql_forms.proofs.Common.{Fits, carrier_in, ◌≡◌, ◌∷◌, [], List, Some, None, length, refl, ap, subst, slice_get, Val, null, Outcome, gives, without_fault, IsFault, Draft, Lifted, Operand, AllHave, IsLifted, within_let, HasLoosely, HasValue, OperandHas, Question, World}
use Rattle.sql_outcomes.proofs.outcomes.Apart.{is_faulted, null_kind}
use Rattle.sql_outcomes.proofs.outcomes.LiftedFaults.{IsInner, lifted_values, has_at, inner_at, inner_fits}
use Rattle.sql_outcomes.proofs.outcomes.LiftedValues.{body_have}
use Rattle.sql_forms.proofs.lets.LiftedWhole.{in_body}

module _ (question : Question) (left first : Operand) (lifted : Lifted) (old : Draft) (is_lifted : IsLifted (left ∷ []) old.depth lifted) (at_first : slice_get lifted.inner.items 0 ≡ Some first) where
  at_inner : slice_get (within_let old.depth is_lifted.choices (left ∷ [])) 0 ≡ Some first
  at_inner = subst (λ (xs : List Operand). slice_get xs 0 ≡ Some first) is_lifted.inner at_first

  pub one_is : IsInner left first
  one_is = inner_at is_lifted.choices (left ∷ []) old.depth is_lifted.are 0 left first refl at_inner

  module _ (world : World) (o : Outcome) (at : old.depth ≡ length world.bound) (has : OperandHas question.filter left world o) (plain : carrier_in left ≡ None → (v : Val) × (o ≡ gives v)) where
    abbrev within : World
    within = in_body question (left ∷ []) lifted old is_lifted world (o ∷ [])

    one_has : OperandHas question.filter first within (without_fault o)
    one_has =
        has_at question.filter (within_let old.depth is_lifted.choices (left ∷ [])) (without_fault o ∷ []) within 0 first (without_fault o)
        (subst (AllHave question.filter (within_let old.depth is_lifted.choices (left ∷ [])) within) (lifted_values is_lifted.choices (left ∷ []) (o ∷ []) is_lifted.are refl (plain, tt))
        (body_have question.filter world old.depth is_lifted.choices (left ∷ []) (o ∷ []) at is_lifted.are (has, refl))) at_inner refl

    -- a value
    pub one_value : (l : Val) → o ≡ gives l → Fits left l → HasValue question.filter first within l
    one_value l is fits = record {
      has = subst (OperandHas question.filter first within) (ap without_fault is) one_has;
      fits = inner_fits left first l one_is fits;
    }

    -- and null instead of a fault
    pub one_null : IsFault o → HasLoosely question.filter first within null
    one_null fault = record { has = subst (OperandHas question.filter first within) (is_faulted o fault) one_has; kind = null_kind first.kind }
