-- The members of a collection that is borrowed, and whether a value equals one of them.
use Rattle.std.proofs.Common.{◌≡◌, ◌∙◌, ℕ, ◌<◌, ◌≤◌, ◌+◌, List, [], ◌∷◌, Bool, true, false, Option, Some, None, length, map, slice_get, ap, refl, sym, subst, inl, inr, arith}
use Rattle.std.specs.Prelude.{IfSome, IsTrue, ◌↔◌}
use Rattle.std.specs.Option.{option_map}
use Rattle.std.proofs.lemmas.Bool.{cases_lt}
use Rattle.std.proofs.lemmas.List.{length-map}
use Rattle.std.proofs.lemmas.Option.{slice_get-get_or, slice_get-map, slice_get_within}
use Rattle.edm_values.specs.Val.{Val, boolean}
use Rattle.edm_values.specs.declared.datum.Datum.{Datum}
use Rattle.edm_values.specs.declared.value.Value.{Value, Null}
use Rattle.csdl_schema.specs.ExprType.{ExprType, SingleType, single}
use Rattle.csdl_schema.specs.SchemaModel.{Slots}
use Rattle.edm_entities.specs.Row.{items_of, val_of}
use Rattle.odata_functions.specs.Comparable.{HaveEquality}
use Rattle.odata_functions.specs.Comparison.{AreEqual}
use Rattle.odata_functions.specs.DatumVal.{Reading, datum_val}
use Rattle.odata_syntax.specs.declared.binary_operator.ComparisonOperator.{ComparisonOperator}
use Rattle.odata_syntax.specs.declared.node.Quantifier.{Quantifier}
use Rattle.odata_filter_operations.specs.CollectionGives.{members_of}
use Rattle.odata_filter_operations.specs.CompareGives.{CompareGives}
use Rattle.odata_filter_operations.specs.LambdaGives.{MemberGives, MembersGive}
use Rattle.odata_filter_operations.specs.Outcome.{gives}
use Rattle.odata_filter_operations.specs.QuantifierGives.{Passes}
use Rattle.odata_filter_operations.specs.TruthGives.{truth_val}
use Rattle.odata_filter_operations.specs.DatumView.{IsDatumOf, reading_at}
use Rattle.odata_filter_operations.specs.Collections.{AreCompared, Differs, DiffersBefore, Equals, FirstEqual, IsAmong, MayBeMember}
use Rattle.odata_filter_operations.proofs.values.Holding.{ComparedAnyhow}
use Rattle.odata_filter_operations.proofs.values.Holding.{there_found}

module _ (slots : Slots) (member : SingleType) where
  -- what is held, one value after another
  members_are : (held : List Value) → members_of (items_of slots.properties member (map val_of held)) ≡ map (λ v. val_of v slots.properties (single member)) held
  members_are [] = refl
  members_are (v ∷ more) = ap (λ (vs : List Val). val_of v slots.properties (single member) ∷ vs) (members_are more)

  pub as_many_members : (held : List Value) → length (members_of (items_of slots.properties member (map val_of held))) ≡ length held
  as_many_members held = ap (λ (vs : List Val). length vs) (members_are held) ∙ length-map held (λ v. val_of v slots.properties (single member))

  pub member_there : (held : List Value) (k : ℕ) (found : Value) → slice_get held k ≡ Some found
      → slice_get (members_of (items_of slots.properties member (map val_of held))) k ≡ Some (val_of found slots.properties (single member))
  member_there held k found at =
      ap (λ (vs : List Val). slice_get vs k) (members_are held) ∙ (slice_get-map (λ (v : Value). val_of v slots.properties (single member)) held k
      ∙ ap (option_map (λ (v : Value). val_of v slots.properties (single member))) at)

-- ---- a value among them

-- before a comparison: however the two are read, they may be compared
pub may_compare_member : ComparedAnyhow → (slots : Slots) (s t : ExprType) (left made : Datum) (found : Value) → IsDatumOf found made
    → HaveEquality (datum_val (reading_at slots s) left) (val_of found slots.properties t) → (l r : Reading) → HaveEquality (datum_val l left) (datum_val r made)
may_compare_member anyhow slots s t left made found is may l r =
    anyhow ComparisonOperator.Eq left made (reading_at slots s) (reading_at slots t) l r
    (subst (λ (v : Val). HaveEquality (datum_val (reading_at slots s) left) v) (sym (is slots t)) may)

-- and after it
pub member_equals : (left made : Datum) (found : Value) (answer : Bool) → IsDatumOf found made
    → ((l r : Reading) → IsTrue answer ↔ AreEqual (datum_val l left) (datum_val r made)) → answer ≡ true → Equals left found
member_equals left made found answer is compared so = λ slots s t.
    subst (λ (v : Val). AreEqual (datum_val (reading_at slots s) left) v) (is slots t) ((compared (reading_at slots s) (reading_at slots t)).0 so)

pub member_differs : (left made : Datum) (found : Value) (answer : Bool) → IsDatumOf found made
    → ((l r : Reading) → IsTrue answer ↔ AreEqual (datum_val l left) (datum_val r made)) → answer ≡ false → Differs left found
member_differs left made found answer is compared so = λ slots s t same.
    let e : answer ≡ true = (compared (reading_at slots s) (reading_at slots t)).1 (subst (λ (v : Val). AreEqual (datum_val (reading_at slots s) left) v) (sym (is slots t)) same) in
    absurd (cc)

-- one member more that differs
pub differs_further : (left : Datum) (held : List Value) (place : ℕ) (found : Value) → slice_get held place ≡ Some found → Differs left found
    → DiffersBefore left held place → DiffersBefore left held (place + 1)
differs_further left held place found at differs before k within other there =
    elim (cases_lt k place) [
      | inl earlier ↦ before k earlier other there
      | inr later ↦ (
          let same : k ≡ place = omega arith in
          let at_k : slice_get held k ≡ Some found = subst (λ (n : ℕ). slice_get held n ≡ Some found) (sym same) at in
          let one : Some found ≡ Some other = sym at_k ∙ there in
          let is : found ≡ other = cc in
          subst (Differs left) is differs)
    ]

-- it is the first one that is equal
pub first_equal : (left : Datum) (held : List Value) (place : ℕ) (found : Value) → slice_get held place ≡ Some found → Equals left found → DiffersBefore left held place → FirstEqual left held
first_equal left held place found at equals before = record { place = place; found = found; stands_at = at; equals = equals; earlier = before }

pub compared_to_first : (left : Datum) (held : List Value) (place : ℕ) (found : Value) → slice_get held place ≡ Some found → Equals left found → DiffersBefore left held place
    → AreCompared left held (place + 1)
compared_to_first left held place found at equals before = inl (record { place = place; found = found; stands_at = at; equals = equals; earlier = before }, refl)

-- and none is left
pub differs_all : (left : Datum) (held : List Value) (place : ℕ) → length held ≤ place → DiffersBefore left held place
    → (k : ℕ) (found : Value) → slice_get held k ≡ Some found → Differs left found
differs_all left held place all before k found at =
    let within : k < length held = slice_get_within held k found at in
    before k (omega arith) found at

-- ---- what `in` makes of this

module _ (slots : Slots) (type : ExprType) (member : SingleType) (left : Datum) (held : List Value) (may : MayBeMember slots type member left held) where
  passes : (k : ℕ) (found : Value) → slice_get held k ≡ Some found → Differs left found
      → Passes Quantifier.Any (MemberGives (CompareGives ComparisonOperator.Eq (datum_val (reading_at slots type) left)) (items_of slots.properties member (map val_of held)) k)
  passes k found at differs = (
    boolean false,
    there_found (λ (w : Val). CompareGives ComparisonOperator.Eq (datum_val (reading_at slots type) left) w (gives (boolean false))) _ (val_of found slots.properties (single member))
        (member_there slots member held k found at) (may k found at, ((λ no. absurd (cc)), (λ same. absurd (differs slots type (single member) same)))),
    tt,
  )

  passes_within : (k : ℕ) → k < length held → ((found : Value) → slice_get held k ≡ Some found → Differs left found)
      → Passes Quantifier.Any (MemberGives (CompareGives ComparisonOperator.Eq (datum_val (reading_at slots type) left)) (items_of slots.properties member (map val_of held)) k)
  passes_within k within differs =
      let at = slice_get-get_or held k Null within in
      passes k _ at (differs _ at)

  pub among_gives : (answer : Bool) → IsAmong left held answer
      → MembersGive Quantifier.Any (CompareGives ComparisonOperator.Eq (datum_val (reading_at slots type) left)) (items_of slots.properties member (map val_of held)) (gives (boolean answer))
  among_gives true first = inl (record {
    place = first.place;
    here = (
      gives (boolean true),
      (
        there_found (λ (w : Val). CompareGives ComparisonOperator.Eq (datum_val (reading_at slots type) left) w (gives (boolean true))) _ (val_of first.found slots.properties (single member))
            (member_there slots member held first.place first.found first.stands_at) (may first.place first.found first.stands_at, ((λ yes. first.equals slots type (single member)), (λ same. refl))),
        refl,
      ),
    );
    earlier = λ k before.
        let within : first.place < length held = slice_get_within held first.place first.found first.stands_at in
        passes_within k (omega arith) (first.earlier k before);
  })
  among_gives false none = inr (record {
    each = λ k within. passes_within k (subst (λ (n : ℕ). k < n) (as_many_members slots member held) within) (none k);
    is = refl;
  })

  pub truth_gives : (truth : Option Bool) → ¬ (truth ≡ None) → IfSome truth (IsAmong left held)
      → MembersGive Quantifier.Any (CompareGives ComparisonOperator.Eq (datum_val (reading_at slots type) left)) (items_of slots.properties member (map val_of held)) (gives (truth_val truth))
  truth_gives (Some answer) some among = among_gives answer among
  truth_gives None some among = absurd (some refl)
