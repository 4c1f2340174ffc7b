-- What is put for `in` before a path.
use Rattle.sql_forms.proofs.Common.{◌≡◌, ◌⊎◌, inl, inr, ◌+◌, ◌∷◌, [], ℕ, List, Bool, true, false, Option, Some, None, length, map, refl, sym, ap, subst, ◌∙◌, slice_get, Val, boolean, null, Filter, Outcome, gives, overflow, divides_by_zero, Range, code_of_truth, truth, AreMembers, BoundValue, bound_value, SqlNode, IsFault, Draft, Lifted, Operand, Source, NoTruth, Grows, AllHave, IsLifted, IsOpened, chosen_of, fault_else, faults_front, faults_of, EachMemberEquals, HasMemberHas, MemberHas, MembersAt, some_of, IsOrNull, missing_front, HasLoosely, HasValue, SourceHas, IsPathTo, AreRanges, Has, IsAskedOf, OfPlace, Puts, PutsAll, Question, World, extended, puts_as, puts_one}
use Rattle.sql_outcomes.specs.TrueWhere.{IsTrueWhere}
use Rattle.sql_outcomes.specs.private.ValueForms.{Itself, OrTruth}
use Rattle.sql_outcomes.proofs.outcomes.Apart.{stays_fault as fault_stays}
use Rattle.sql_forms.proofs.lets.OneLeft.{one_null, one_value}
use Rattle.sql_forms.proofs.puts.FaultyComparisonsPut.{OrCode, code_is, truth_code_node, or_code_value}
use Rattle.sql_outcomes.specs.NodesGo.{InPathComes}
use Rattle.sql_outcomes.proofs.outcomes.CodeTables.{Coded}
use Rattle.sql_forms.proofs.lets.LiftedPut.{Same, closed, coded_put, same_coded}
use Rattle.sql_forms.proofs.lets.LiftedWhole.{FaultsGiven, faults_put, in_body}
use Rattle.sql_outcomes.proofs.outcomes.Truths.{true_where}
use Rattle.sql_outcomes.proofs.outcomes.UnlessMissing.{CollectionThere, WholeHas, truth_unless_missing}
use Rattle.sql_forms.proofs.puts.OperandsPut.{fault_itself}

-- ---- null collections

null_is_kept : (o : Outcome) (b : Bool) → o ≡ gives null → b ≡ false → IsTrueWhere (o ≡ gives (boolean true)) (gives (boolean b))
null_is_kept o b none off = (
  Some b,
  refl,
  (λ is_so. (let t : Some true ≡ Some false = sym is_so ∙ ap (λ (f : Bool). Some f) off in absurd (cc)), λ is_so. (let t : gives null ≡ gives (boolean true) = sym none ∙ is_so in absurd (cc))),
)

no_flags : (l : Val) (members : List Val) (bs : List Bool) → members ≡ [] → EachMemberEquals l members bs → some_of bs ≡ false
no_flags l [] bs none each = ap some_of each
no_flags l (v ∷ members) bs none each = absurd (cc)

-- of null members none is equal
kept_over : (c : Val) (members : List Val) (l : Val) (bs : List Bool) (o : Outcome) → AreMembers c members → EachMemberEquals l members bs → IsOrNull c o (gives (boolean (some_of bs)))
    → IsTrueWhere (o ≡ gives (boolean true)) (gives (boolean (some_of bs)))
kept_over null members l bs o are each is = null_is_kept o (some_of bs) is (no_flags l members bs are each)
kept_over _ members l bs o are each is = true_where (Some (some_of bs)) o (sym is)

module _ (question : Question) (base : ℕ) (left : Operand) where
  abbrev pub member_parts : (world : World) (o : Outcome) → MemberHas question.filter left base world o → CollectionThere question base world
  member_parts world o has = let m = has.0 in record { c = m.c; members = m.members; has = m.has; are = m.are }

  abbrev pub marked_parts : (world : World) (o : Outcome) → HasMemberHas question.filter left base world o → CollectionThere question base world
  marked_parts world o (inl has) = let m = has.0 in record { c = m.c; members = m.members; has = m.has; are = m.are }
  marked_parts world o (inr marked) = let m = marked.1 in record { c = m.c; members = m.members; has = m.has; are = m.are }

-- ---- of a left side that is no fault

module _ (question : Question) (place base : ℕ) (left : Operand) where
  abbrev parts : (world : World) (o : Outcome) → MemberHas question.filter left base world o → CollectionThere question base world
  parts = member_parts question base left

  module _ (left_source : left.source ≡ Source.Node (place + 1)) (comes : (world : World) (o : Outcome) → IsAskedOf question world → OfPlace question.filter place world o → InPathComes question place base left world o)
      (value : (world : World) (o : Outcome) → IsAskedOf question world → OfPlace question.filter (place + 1) world o → (v : Val) × (o ≡ gives v)) where
    left_value : (world : World) (o : Outcome) → IsAskedOf question world → (come : InPathComes question place base left world o) → (l : Val) × (come.left_outcome ≡ gives l) × HasValue question.filter left world l
    left_value world o seen come =
        let v = value world come.left_outcome seen come.left_there in (
          v.0,
          v.1,
          record {
            has = subst (λ (s : Source). SourceHas question.filter s world (gives v.0)) (sym left_source) (subst (OfPlace question.filter (place + 1) world) v.1 come.left_there);
            fits = come.left_fits v.0 v.1;
          },
        )

    -- whether a member is equal, and null of null
    whole_of : (path : ℕ) (world : World) (o : Outcome) → IsAskedOf question world → OfPlace question.filter place world o
        → WholeHas question base path (MemberHas question.filter left base) parts world o
    whole_of path world o seen has =
        let come = comes world o seen has in
        let l = left_value world o seen come in
        let flags = come.of_value l.0 l.1 in
        (gives (boolean (some_of flags.0)), (come.held, l.0, l.2, flags.0, flags.1, refl), flags.2)

    pub in_path_put : (path : ℕ) (ranges : List Range) → AreRanges question ranges → (range : Range) → slice_get ranges base ≡ Some range → (old middle new : Draft) → IsPathTo question old base path
        → Grows old middle (missing_front range.may_be_null path) → Puts question middle new (MemberHas question.filter left base) Itself → Puts question old new (OfPlace question.filter place) Itself
    in_path_put path ranges are range at old middle new leads front inner =
        puts_as question old new (WholeHas question base path (MemberHas question.filter left base) parts) (OfPlace question.filter place) Itself Itself
        (truth_unless_missing question base path (MemberHas question.filter left base) parts ranges are range at old middle new leads front inner)
        (λ world o is has. (o, whole_of path world o is.seen has, λ x form. form))

    pub kept_in_path_put : (old new : Draft) → Puts question old new (MemberHas question.filter left base) Itself → Puts question old new (OfPlace question.filter place) (λ o. IsTrueWhere (o ≡ gives (boolean true)))
    kept_in_path_put old new inner =
        puts_as question old new (MemberHas question.filter left base) (OfPlace question.filter place) Itself (λ o. IsTrueWhere (o ≡ gives (boolean true))) inner
        (λ world o is has.
        let come = comes world o is.seen has in
        let l = left_value world o is.seen come in
        let flags = come.of_value l.0 l.1 in
        let m = come.held in (
          gives (boolean (some_of flags.0)),
          (m, l.0, l.2, flags.0, flags.1, refl),
          λ x form. subst (IsTrueWhere (o ≡ gives (boolean true))) (sym form) (kept_over m.c m.members l.0 flags.0 o m.are flags.1 flags.2),
        ))

-- ---- by its code

-- a truth value, null, or marked as a fault
abbrev pub IsMarked : Outcome → Type 0
IsMarked o = ((t : Option Bool) × (o ≡ truth t)) ⊎ IsFault o

truth_form : (o : Outcome) (t : Option Bool) (x : Outcome) → o ≡ truth t → OrTruth Itself o x → x ≡ truth t
truth_form (gives v) t x is form = form ∙ is
truth_form overflow (Some b) x is form = let e : overflow ≡ gives (boolean b) = is in absurd (cc)
truth_form overflow None x is form = let e : overflow ≡ gives null = is in absurd (cc)
truth_form divides_by_zero (Some b) x is form = let e : divides_by_zero ≡ gives (boolean b) = is in absurd (cc)
truth_form divides_by_zero None x is form = let e : divides_by_zero ≡ gives null = is in absurd (cc)

marked_code : (o : Outcome) (t : Option Bool) (x : Outcome) → IsFault o → x ≡ code_of_truth t → OrCode o x
marked_code (gives v) t x fault is = absurd fault
marked_code _ t x fault is = (t, is ∙ code_is t)

truth_in_code : (t : Option Bool) (o : Outcome) → o ≡ truth t → OrCode o (code_of_truth t)
truth_in_code (Some true) o is = subst (λ (p : Outcome). OrCode p (code_of_truth (Some true))) (sym is) refl
truth_in_code (Some false) o is = subst (λ (p : Outcome). OrCode p (code_of_truth (Some false))) (sym is) refl
truth_in_code None o is = subst (λ (p : Outcome). OrCode p (code_of_truth None)) (sym is) refl

pub code_of_whole : (question : Question) (Whole : Has) → ((world : World) (o : Outcome) → Whole world o → IsMarked o) → (old middle new : Draft) → Grows old middle (SqlNode.TruthCode ∷ [])
    → Puts question middle new Whole (OrTruth Itself) → Puts question old new Whole OrCode
code_of_whole question Whole marked old middle new grows inner =
    puts_one question SqlNode.TruthCode refl (λ x y. (t : Option Bool) × (x ≡ truth t) × (y ≡ code_of_truth t)) old middle new Whole Whole (OrTruth Itself) OrCode truth_code_node grows inner
    (λ world o is has. (o, has, λ x form. by o x (marked world o has) form))
  where
    by : (o x : Outcome) → IsMarked o → OrTruth Itself o x → (y : Outcome) × ((t : Option Bool) × (x ≡ truth t) × (y ≡ code_of_truth t)) × OrCode o y
    by o x (inl is) form = (code_of_truth is.0, (is.0, truth_form o is.0 x is.1 form, refl), truth_in_code is.0 o is.1)
    by o x (inr fault) form =
        let t = fault_itself o x fault form in
        (code_of_truth t.0, (t.0, t.1, refl), marked_code o t.0 (code_of_truth t.0) fault refl)

-- what comes of a collection is a truth value or null, where what comes of its members is
pub whole_marked : (question : Question) (base path : ℕ) (left : Operand) (world : World) (o : Outcome) → WholeHas question base path (HasMemberHas question.filter left base) (marked_parts question base left) world o → IsMarked o
whole_marked question base path left world o (w, over, is) = by w over is
  where
    of_null : (c : Val) (w : Outcome) → IsOrNull c o w → IsMarked w → IsMarked o
    of_null null w none marked = inl (None, none)
    of_null _ w same marked = subst IsMarked (sym same) marked

    by : (w : Outcome) (over : HasMemberHas question.filter left base world w) → IsOrNull (let p = marked_parts question base left world w over in p.c) o w → IsMarked o
    by w (inl given) is_it = let m = given.0 in of_null m.c w is_it (inl (Some (some_of given.3), given.5))
    by w (inr marked) is_it = let m = marked.1 in of_null m.c w is_it (inr marked.0)

abbrev pub held_stays : (filter : Filter) (base : ℕ) (world : World) (more : List BoundValue) → MembersAt filter base world → MembersAt filter base (extended world more)
held_stays filter base world more held =
    let has = held.has in
    record { c = held.c; has = (has.0, record { stop = has.1.stop; stands = has.1.stands }, has.2); members = held.members; are = held.are; kinds = held.kinds }

some_code : (o x : Outcome) → IsFault o → OrCode o x → (t : Option Bool) × Coded (truth t) x
some_code (gives v) x fault form = absurd fault
some_code _ x fault form = form

module _ (question : Question) (place base path : ℕ) (left first : Operand) (lifted : Lifted) (old : Draft) (is_lifted : IsLifted (left ∷ []) old.depth lifted) (no_truth : NoTruth left)
    (left_source : left.source ≡ Source.Node (place + 1)) (at_first : slice_get lifted.inner.items 0 ≡ Some first)
    (comes : (world : World) (o : Outcome) → IsAskedOf question world → OfPlace question.filter place world o → InPathComes question place base left world o) where
  abbrev Whole : Has
  Whole = WholeHas question base path (HasMemberHas question.filter first base) (marked_parts question base first)

  module _ (world : World) (o : Outcome) (at : old.depth ≡ length world.bound) (come : InPathComes question place base left world o) where
    abbrev os : List Outcome
    os = come.left_outcome ∷ []

    abbrev within : World
    within = in_body question (left ∷ []) lifted old is_lifted world os

    have : AllHave question.filter (left ∷ []) world os
    have = (subst (λ (s : Source). SourceHas question.filter s world come.left_outcome) (sym left_source) come.left_there, refl)

    abbrev held : MembersAt question.filter base within
    held = held_stays question.filter base world (map bound_value (chosen_of is_lifted.choices os)) come.held

    record Given : Type 0 where
      inner : Outcome
      has : Whole within inner
      goes : (x : Outcome) → OrCode inner x → (rest : Outcome) × Coded rest x × (o ≡ faults_of os rest)

    -- of a value
    of_value : (l : Val) → come.left_outcome ≡ gives l → Given
    of_value l is =
        let flags = come.of_value l is in
        let has_first = one_value question left first lifted old is_lifted at_first world come.left_outcome at have.0 (come.left_plain no_truth) l is (come.left_fits l is) in
        record {
          inner = o;
          has = (gives (boolean (some_of flags.0)), inl (held, l, has_first, flags.0, flags.1, refl), flags.2);
          goes = λ x form. (o, given_code come.held.c o (some_of flags.0) x flags.2 form, ap (λ (p : Outcome). fault_else p o) (sym is));
        }
      where
        given_code : (c : Val) (p : Outcome) (b : Bool) (x : Outcome) → IsOrNull c p (gives (boolean b)) → OrCode p x → Coded p x
        given_code null p b x none form = or_code_value p null x none form
        given_code _ p b x is_it form = or_code_value p (boolean b) x is_it form

    -- of a fault, instead of which null stands
    of_fault : IsFault come.left_outcome → Given
    of_fault fault = by come.held.c refl
      where
        null_first : HasLoosely question.filter first within null
        null_first = one_null question left first lifted old is_lifted at_first world come.left_outcome at have.0 (come.left_plain no_truth) fault

        stays : (rest : Outcome) → o ≡ faults_of os rest
        stays rest = come.of_fault fault ∙ sym (fault_stays come.left_outcome rest fault)

        by : (c : Val) → come.held.c ≡ c → Given
        by null is = record {
          inner = gives null;
          has = (come.left_outcome, inr (fault, held, null_first), subst (λ (v : Val). IsOrNull v (gives null) come.left_outcome) (sym is) refl);
          goes = λ x form. (gives null, form, stays (gives null));
        }
        by v is = record {
          inner = come.left_outcome;
          has = (come.left_outcome, inr (fault, held, null_first), subst (λ (w : Val). IsOrNull w come.left_outcome come.left_outcome) (sym is) refl);
          goes = λ x form. let t = some_code come.left_outcome x fault form in (truth t.0, t.1, stays (truth t.0));
        }

    given : Given
    given = by come.left_outcome refl
      where
        by : (lo : Outcome) → come.left_outcome ≡ lo → Given
        by (gives l) is = of_value l is
        by _ is = of_fault (subst IsFault (sym is) tt)

    pub in_path_given : FaultsGiven question (left ∷ []) lifted old is_lifted Whole OrCode Coded Same world o
    in_path_given = let g = given in record { os = os; have = have; plain = (come.left_plain no_truth, tt); inner = g.inner; has = g.has; goes = g.goes }

  -- its faults first, and else the code of whether a member is equal
  pub in_path_code_put : (opened fronted body new : Draft) → IsOpened lifted old opened → PutsAll question (closed body (length lifted.bound.items)) new (AllHave question.filter lifted.bound.items) (length lifted.bound.items)
      → (lifted.bound.items ≡ [] → Grows (closed body (length lifted.bound.items)) new []) → Grows opened fronted (faults_front None lifted.level lifted.bound.items) → Puts question fronted body Whole OrCode
      → Puts question old new (OfPlace question.filter place) Coded
  in_path_code_put opened fronted body new is_opened values idle front put =
      faults_put question (left ∷ []) lifted old is_lifted opened body new is_opened values idle Whole (OfPlace question.filter place) OrCode Coded Same Coded
      (coded_put question lifted.bound.items lifted.level opened fronted body Whole OrCode Same Coded same_coded front put)
      (λ world o at is has. in_path_given world o at (comes world o is.seen has))
