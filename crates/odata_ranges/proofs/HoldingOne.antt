-- What nodes with one operand evaluate to lies within the ranges that are made for them.
use Rattle.odata_ranges.proofs.Common.{◌≡◌, ℕ, ◌≤◌, ◌+◌, ℤ, pos, neg_ℤ, ◌≤ℤ◌, true, false, Option, Some, Result, Err, length, slice_get, refl, sym, subst, arith, FitsSigned, w64, ints, Val, null, boolean, whole, items, Vals, no_items, item, PrimitiveType, any_item, count, negation, node, ExprType, single, collection, primitive, slots_of, type_name_at, ComesWithin, NumbersGive, ArithFault, Overflow, DivideByZero, ArithmeticOperator, IsCollection, NegationTyped, expr_type, OneType, OperandTyped, Filter, CheckedNode, NodeKind, scope_of, InType, CalculationGives, NegatedGives, AnyItemGives, CountGives, members_of, Then, Outcome, gives, NotGives, IsKept, HoldsRange, MeansIn, IsValueWithin, IsWithin, Range, HoldsArithmetic}
use Rattle.filter_context.proofs.Children.{one_there}
use Rattle.odata_ranges.proofs.Counts.{number_within}
use Rattle.odata_ranges.proofs.Forms.{TypedIn, holds_by, type_there}
use Rattle.odata_ranges.proofs.Holding.{after_within, faults_pass}
use Rattle.odata_ranges.proofs.KeptPaths.{IsPathType, tree_kept}

pub collection_path : (type : ExprType) → IsCollection type → IsPathType type
collection_path (collection member) is = tt
collection_path _ is = absurd is

-- ---- collections

count_given : (result : Range) (v : Val) (o : Outcome) → (v ≡ null → result.may_be_null ≡ true)
    → ((vs : Vals) → v ≡ items vs → length (members_of vs) ≤ 4_294_967_296) → result.low ≤ℤ pos 0 → pos 4_294_967_296 ≤ℤ result.high
    → CountGives v o → IsWithin result o
count_given result null o none few low high given = subst (IsWithin result) (sym given) (none refl)
count_given result (items vs) o none few low high given =
    let members = few vs refl in
    let fits : FitsSigned w64 (pos (length (members_of vs))) = omega (arith, ints, members) in
    number_within PrimitiveType.Int64 result (pos (length (members_of vs))) o (λ of. (omega (arith, ints, low), omega (arith, ints, high, members))) (λ safe. fits) given
count_given result _ o none few low high given = absurd given

any_item_given : (result : Range) (v : Val) (o : Outcome) → (v ≡ null → result.may_be_null ≡ true) → AnyItemGives v o → IsWithin result o
any_item_given result null o none given = subst (IsWithin result) (sym given) (none refl)
any_item_given result (items no_items) o none given = subst (IsWithin result) (sym given) tt
any_item_given result (items (item v more)) o none given = subst (IsWithin result) (sym given) tt
any_item_given result _ o none given = absurd given

not_given : (range result : Range) (v : Val) (o : Outcome) → (range.may_be_null ≡ true → result.may_be_null ≡ true) → IsValueWithin range v → NotGives v o → IsWithin result o
not_given range result null o nulls within given = subst (IsWithin result) (sym given) (nulls within)
not_given range result (boolean true) o nulls within given = subst (IsWithin result) (sym given) tt
not_given range result (boolean false) o nulls within given = subst (IsWithin result) (sym given) tt
not_given range result _ o nulls within given = absurd given

few_members : (type : ExprType) (filter : Filter) (vs : Vals) → IsCollection type → IsKept (slots_of filter.schema) type (items vs)
    → length (members_of vs) ≤ 4_294_967_296
few_members (collection member) filter vs is kept = kept.0
few_members _ filter vs is kept = absurd is

-- ---- negation

pub minus_given : (type : ExprType) (w : Val) (o : Outcome) → NegatedGives type w o → CalculationGives ArithmeticOperator.Sub type (whole (pos 0)) w o
minus_given type null o given = given
minus_given (single (primitive p)) (whole a) o given = (given.0, numbers given.0 given.1, given.2)
  where
    numbers : (answer : Result (Option ℤ) ArithFault) → ComesWithin p (neg_ℤ a) answer → NumbersGive ArithmeticOperator.Sub p (pos 0) a answer
    numbers (Err DivideByZero) comes = let other : DivideByZero ≡ Overflow = comes.0 in absurd (cc)
    numbers _ comes = (neg_ℤ a, omega (arith, ints), comes)
minus_given _ _ o given = absurd given

module _ (types : OneType) (filter : Filter) (place : ℕ) (found : CheckedNode) (at : slice_get filter.list.nodes place ≡ Some found) (operand result : Range)
    (holds : HoldsRange filter (place + 1) operand) where
  pub count_holds : found.kind ≡ NodeKind.Count → (operand.may_be_null ≡ true → result.may_be_null ≡ true) → result.low ≤ℤ pos 0 → pos 4_294_967_296 ≤ℤ result.high
      → HoldsRange filter place result
  count_holds kind_is nulls low high = holds_by filter place found at result NodeKind.Count kind_is
      (λ base context is s from to o stands_there given.
      let typed = type_there filter (scope_of context.environment) place found at s (node from to (count base)) stands_there in
      let first = tree_kept filter context is base typed.operand given.0 (collection_path typed.operand typed.makes.0) typed.operand_typed given.1.0 in
      let within : IsWithin operand given.0 =
      holds context base s given.0 is (one_there filter.schema filter.filtered (scope_of context.environment) filter.list (place + 1) s base stands_there.children) given.1.0 in
      count_given result first.0 o
      (λ none. nulls (subst (λ (v : Val). IsValueWithin operand v) none (subst (IsWithin operand) first.1 within)))
      (λ vs same. few_members typed.operand filter vs typed.makes.0 (subst (λ (v : Val). IsKept (slots_of filter.schema) typed.operand v) same first.2))
      low high (subst (λ (x : Outcome). Then x CountGives o) first.1 given.1.1))

  pub any_item_holds : found.kind ≡ NodeKind.AnyItem → (operand.may_be_null ≡ true → result.may_be_null ≡ true) → HoldsRange filter place result
  any_item_holds kind_is nulls = holds_by filter place found at result NodeKind.AnyItem kind_is
      (λ base context is s from to o stands_there given.
      let typed = type_there filter (scope_of context.environment) place found at s (node from to (any_item base)) stands_there in
      let first = tree_kept filter context is base typed.operand given.0 (collection_path typed.operand typed.makes.0) typed.operand_typed given.1.0 in
      let within : IsWithin operand given.0 =
      holds context base s given.0 is (one_there filter.schema filter.filtered (scope_of context.environment) filter.list (place + 1) s base stands_there.children) given.1.0 in
      any_item_given result first.0 o
      (λ none. nulls (subst (λ (v : Val). IsValueWithin operand v) none (subst (IsWithin operand) first.1 within)))
      (subst (λ (x : Outcome). Then x AnyItemGives o) first.1 given.1.1))

  pub not_holds : found.kind ≡ NodeKind.Not → (operand.may_be_null ≡ true → result.may_be_null ≡ true) → (operand.may_fault ≡ true → result.may_fault ≡ true)
      → HoldsRange filter place result
  not_holds kind_is nulls faults = holds_by filter place found at result NodeKind.Not kind_is
      (λ inner context is s from to o stands_there given.
      let below = one_there filter.schema filter.filtered (scope_of context.environment) filter.list (place + 1) s inner stands_there.children in
      after_within result (MeansIn filter context inner) NotGives o
      (λ x means_x. faults_pass operand result x faults (holds context inner s x is below means_x))
      (λ v means_v goes. not_given operand result v o nulls (holds context inner s (gives v) is below means_v) goes)
      given)

  pub negation_holds : (zero : Range) → found.kind ≡ NodeKind.Neg → IsValueWithin zero (whole (pos 0)) → HoldsArithmetic ArithmeticOperator.Sub found.edm_type zero operand result
      → HoldsRange filter place result
  negation_holds zero kind_is holds_zero holds_difference = holds_by filter place found at result NodeKind.Neg kind_is
      (λ inner context is s from to o stands_there given.
      let scope = scope_of context.environment in
      let type = expr_type filter.schema found.edm_type in
      let typed = type_there filter scope place found at s (node from to (negation inner)) stands_there in
      let below = one_there filter.schema filter.filtered scope filter.list (place + 1) s inner stands_there.children in
      after_within result (MeansIn filter context inner) (λ v. InType (OperandTyped (TypedIn filter scope inner) NegationTyped) (λ t. NegatedGives t v)) o
      (λ x means_x. faults_pass operand result x holds_difference.faults.second (holds context inner s x is below means_x))
      (λ v means_v goes.
      let same : goes.0 ≡ type =
      types (slots_of filter.schema) (type_name_at filter.schema filter.filtered) scope (node from to (negation inner)) goes.0 type goes.1 typed in
      holds_difference.values filter.schema (whole (pos 0)) v o holds_zero (holds context inner s (gives v) is below means_v)
      (minus_given type v o (subst (λ (t : ExprType). NegatedGives t v o) same goes.2)))
      given)
