-- What nodes with two operands evaluate to lies within the ranges that are made for them.
use Rattle.odata_ranges.proofs.Common.{◌≡◌, inl, inr, ℕ, zero, suc, ℤ, Bool, true, false, Option, Some, None, length, slice_get, refl, sym, subst, IsSomeAnd, Val, null, boolean, items, Vals, no_items, item, BinaryOperator, Quantifier, Any, All, ExprType, SingleType, single, Slots, AllHaveType, HasType, ComparesTrue, ComparisonOperator, Eq, IsEquality, expr_type, Filter, CheckedNode, OperatorGives, InType, SidesGive, GivesMember, CalculationGives, members_of, CompareGives, GivesTruth, HasGives, InGives, MemberGives, After, Outcome, gives, LogicalGives, JoinGives, joined, truth_val, AreKept, IsKept, IsValueWithin, IsWithin, Range, CoversFaults, CoversNulls, HoldsOperator}
use Rattle.edm_values.specs.Val as val
use Rattle.odata_functions.specs.Bits.{HasBits}
use Rattle.odata_syntax.specs.declared.binary_operator.LogicalOperator.{LogicalOperator}
use Rattle.odata_syntax.specs.declared.binary_operator.LogicalOperator.TheVariants.{And, Or}
use Rattle.odata_syntax.specs.declared.binary_operator.BinaryOperator.TheVariants as classes
use Rattle.odata_filter_operations.specs.QuantifierGives.{DecisionGives, QuantifierGives, undecided_val}
use Rattle.odata_ranges.proofs.CallRanges.{truth_within}
use Rattle.odata_ranges.proofs.Holding.{FaultsWithin, after_within, faults_pass}

-- ---- operators

compared_within : (result : Range) (operator : ComparisonOperator) (l r : Val) (o : Outcome) → CompareGives operator l r o → IsWithin result o
compared_within result operator l r o given = truth_within result (ComparesTrue operator l r) o given.1

truth_val_within : (result : Range) (t : Option Bool) → (t ≡ None → result.may_be_null ≡ true) → IsValueWithin result (truth_val t)
truth_val_within result (Some b) nulls = tt
truth_val_within result None nulls = nulls refl

-- two truth values are joined to null only where one of them is null
joined_null : (connective : LogicalOperator) (a b : Bool) → joined connective (Some a) (Some b) ≡ None → ⊥
joined_null And true true is = cc
joined_null And true false is = cc
joined_null And false true is = cc
joined_null And false false is = cc
joined_null Or true true is = cc
joined_null Or true false is = cc
joined_null Or false true is = cc
joined_null Or false false is = cc

join_within : (connective : LogicalOperator) (a : Bool) (right result : Range) (v : Val) (o : Outcome) → (right.may_be_null ≡ true → result.may_be_null ≡ true)
    → IsValueWithin right v → JoinGives connective (Some a) v o → IsWithin result o
join_within connective a right result null o nulls within given =
    subst (IsWithin result) (sym given) (truth_val_within result (joined connective (Some a) None) (λ is. nulls within))
join_within connective a right result (boolean b) o nulls within given =
    subst (IsWithin result) (sym given) (truth_val_within result (joined connective (Some a) (Some b)) (λ is. absurd (joined_null connective a b is)))
join_within connective a right result _ o nulls within given = absurd given

null_join_within : (connective : LogicalOperator) (result : Range) (v : Val) (o : Outcome) → result.may_be_null ≡ true → JoinGives connective None v o → IsWithin result o
null_join_within connective result null o may given = subst (IsWithin result) (sym given) (truth_val_within result (joined connective None None) (λ is. may))
null_join_within connective result (boolean b) o may given = subst (IsWithin result) (sym given) (truth_val_within result (joined connective None (Some b)) (λ is. may))
null_join_within connective result _ o may given = absurd given

connective_within : (connective : LogicalOperator) (left right result : Range) (l : Val) (Right : Outcome → Type 0) (o : Outcome)
    → CoversFaults result left right → CoversNulls result left right → IsValueWithin left l → ((x : Outcome) → Right x → IsWithin right x)
    → LogicalGives connective l Right o → IsWithin result o
connective_within And left right result (boolean false) Right o faults nulls of_l of_right given = subst (IsWithin result) (sym given) tt
connective_within And left right result (boolean true) Right o faults nulls of_l of_right given =
    after_within result Right (JoinGives And (Some true)) o (λ x is. faults_pass right result x faults.second (of_right x is))
    (λ v is goes. join_within And true right result v o nulls.second (of_right (gives v) is) goes) given
connective_within And left right result null Right o faults nulls of_l of_right given =
    after_within result Right (JoinGives And None) o (λ x is. faults_pass right result x faults.second (of_right x is))
    (λ v is goes. null_join_within And result v o (nulls.first of_l) goes) given
connective_within Or left right result (boolean true) Right o faults nulls of_l of_right given = subst (IsWithin result) (sym given) tt
connective_within Or left right result (boolean false) Right o faults nulls of_l of_right given =
    after_within result Right (JoinGives Or (Some false)) o (λ x is. faults_pass right result x faults.second (of_right x is))
    (λ v is goes. join_within Or false right result v o nulls.second (of_right (gives v) is) goes) given
connective_within Or left right result null Right o faults nulls of_l of_right given =
    after_within result Right (JoinGives Or None) o (λ x is. faults_pass right result x faults.second (of_right x is))
    (λ v is goes. null_join_within Or result v o (nulls.first of_l) goes) given
connective_within _ left right result _ Right o faults nulls of_l of_right given = absurd given

module _ (filter : Filter) (found : CheckedNode) (left right result : Range) where
  -- the left value is within its range, and each outcome of the right side within its own
  class_within : (class : BinaryOperator) (NodeTyped : ExprType → Type 0) (l : Val) (Right : Outcome → Type 0) (o : Outcome)
      → HoldsOperator class found.edm_type left right result → ((type : ExprType) → NodeTyped type → type ≡ expr_type filter.schema found.edm_type)
      → IsValueWithin left l → ((x : Outcome) → Right x → IsWithin right x) → OperatorGives class NodeTyped l Right o → IsWithin result o
  class_within (classes.Logical connective) NodeTyped l Right o holds one of_l of_right given =
      connective_within connective left right result l Right o holds.0 holds.1 of_l of_right given
  class_within (classes.Comparison comparison) NodeTyped l Right o holds one of_l of_right given =
      after_within result Right (CompareGives comparison l) o (λ x is. faults_pass right result x holds.second (of_right x is))
      (λ r is goes. compared_within result comparison l r o goes) given
  class_within (classes.Arithmetic arithmetic) NodeTyped l Right o holds one of_l of_right given =
      after_within result Right (λ r. InType NodeTyped (λ type. CalculationGives arithmetic type l r)) o
      (λ x is. faults_pass right result x holds.faults.second (of_right x is))
      (λ r is goes. holds.values filter.schema l r o of_l (of_right (gives r) is) (subst (λ (t : ExprType). CalculationGives arithmetic t l r o) (one goes.0 goes.1) goes.2))
      given

  class_faults : (class : BinaryOperator) → HoldsOperator class found.edm_type left right result → left.may_fault ≡ true → result.may_fault ≡ true
  class_faults (classes.Logical connective) holds may = holds.0.first may
  class_faults (classes.Comparison comparison) holds may = holds.first may
  class_faults (classes.Arithmetic arithmetic) holds may = holds.faults.first may

  pub sides_within : (operator : BinaryOperator) (NodeTyped : ExprType → Type 0) (Left Right : Outcome → Type 0) (o : Outcome)
      → HoldsOperator operator found.edm_type left right result → ((type : ExprType) → NodeTyped type → type ≡ expr_type filter.schema found.edm_type)
      → ((x : Outcome) → Left x → IsWithin left x) → ((x : Outcome) → Right x → IsWithin right x) → SidesGive operator NodeTyped Left Right o → IsWithin result o
  sides_within operator NodeTyped Left Right o holds one of_left of_right given =
      after_within result Left (λ l. OperatorGives operator NodeTyped l Right) o (λ x is. faults_pass left result x (class_faults operator holds) (of_left x is))
      (λ l is goes. class_within operator NodeTyped l Right o holds one (of_left (gives l) is) of_right goes) given

pub member_faults : (result : Range) (n : ℤ) (x : Outcome) → GivesMember n x → FaultsWithin result x
member_faults result n x given = subst (FaultsWithin result) (sym given) tt

-- ---- has

pub has_within : (left right result : Range) (l r : Val) (o : Outcome) → (left.may_be_null ≡ true → result.may_be_null ≡ true) → (r ≡ null → result.may_be_null ≡ true)
    → IsValueWithin left l → HasGives l r o → IsWithin result o
has_within left right result null null o nulls none of_l given = subst (IsWithin result) (sym given) (nulls of_l)
has_within left right result null (val.member b) o nulls none of_l given = subst (IsWithin result) (sym given) (nulls of_l)
has_within left right result (val.member a) null o nulls none of_l given = subst (IsWithin result) (sym given) (none refl)
has_within left right result (val.member a) (val.member b) o nulls none of_l given = truth_within result (HasBits a b) o given
has_within left right result _ _ o nulls none of_l given = absurd given

-- ---- any and all

decision_within : (result : Range) (quantifier : Quantifier) (v : Val) (o : Outcome) → DecisionGives quantifier v o → IsWithin result o
decision_within result Any (boolean true) o given = subst (IsWithin result) (sym given) tt
decision_within result All (boolean false) o given = subst (IsWithin result) (sym given) tt
decision_within result All null o given = subst (IsWithin result) (sym given) tt
decision_within result _ _ o given = absurd given

undecided_within : (result : Range) (quantifier : Quantifier) → IsValueWithin result (undecided_val quantifier)
undecided_within result Any = tt
undecided_within result All = tt

pub quantified_within : (result : Range) (quantifier : Quantifier) (count : ℕ) (At : ℕ → Outcome → Type 0) (o : Outcome)
    → ((k : ℕ) (x : Outcome) → At k x → FaultsWithin result x) → QuantifierGives quantifier count At o → IsWithin result o
quantified_within result quantifier count At o faults (inl decides) =
    after_within result (At decides.place) (DecisionGives quantifier) o (faults decides.place) (λ v is goes. decision_within result quantifier v o goes) decides.here
quantified_within result quantifier count At o faults (inr passes) = subst (IsWithin result) (sym passes.is) (undecided_within result quantifier)

pub compare_faults : (result : Range) (Fact : Type 0) (x : Outcome) → GivesTruth Fact x → FaultsWithin result x
compare_faults result Fact (gives v) given = tt
compare_faults result Fact _ given = absurd given

pub some_faults : (result : Range) (Body : Val → Outcome → Type 0) (held : Option Val) (x : Outcome) → ((v : Val) → held ≡ Some v → Body v x → FaultsWithin result x)
    → IsSomeAnd held (λ v. Body v x) → FaultsWithin result x
some_faults result Body (Some v) x faults given = faults v refl given
some_faults result Body None x faults given = absurd given

pub in_within : (result : Range) (l v : Val) (o : Outcome) → (v ≡ null → result.may_be_null ≡ true) → InGives l v o → IsWithin result o
in_within result l null o none given = subst (IsWithin result) (sym given) (none refl)
in_within result l (items vs) o none given =
    quantified_within result Any (length (members_of vs)) (MemberGives (CompareGives Eq l) vs) o
    (λ k x at. some_faults result (CompareGives Eq l) (slice_get (members_of vs) k) x (λ v same compared. compare_faults result (ComparesTrue Eq l v) x compared.1) at) given
in_within result l _ o none given = absurd given

-- a member of a collection
pub member_kept : (slots : Slots) (type : SingleType) (vs : Vals) (k : ℕ) (v : Val) → AreKept slots type vs → slice_get (members_of vs) k ≡ Some v → IsKept slots (single type) v
member_kept slots type no_items k v kept found = absurd (cc)
member_kept slots type (item w more) zero v kept found = let same : w ≡ v = cc in subst (IsKept slots (single type)) same kept.0
member_kept slots type (item w more) (suc k) v kept found = member_kept slots type more k v kept.1 found

pub member_has : (slots : Slots) (type : SingleType) (vs : Vals) (k : ℕ) (v : Val) → AllHaveType slots type vs → slice_get (members_of vs) k ≡ Some v → HasType slots (single type) v
member_has slots type no_items k v typed found = absurd (cc)
member_has slots type (item w more) zero v typed found = let same : w ≡ v = cc in subst (HasType slots (single type)) same typed.0
member_has slots type (item w more) (suc k) v typed found = member_has slots type more k v typed.1 found
