-- The nodes with two operands, by their kinds.
use Rattle.odata_ranges.proofs.Common.{◌≡◌, inl, inr, ℕ, ℤ, ◌+◌, List, true, Some, length, slice_get, refl, sym, subst, Val, null, items, Tree, binary, literal, node, LiteralKind, ComparisonOperator, BinaryOperator, Quantifier, ExprType, SingleType, single, collection, Slots, slots_of, type_name_at, IsEquality, expr_type, EdmType, OneType, with_variable, Filter, ResolvedStands, InBody, NumberStands, Stands, CheckedNode, NodeKind, Lies, TypedEndsOnce, bound_over, scope_of, Means, GivesMember, members_of, HasGives, InGives, LambdaGives, MemberGives, After, Then, Outcome, gives, IsKept, HoldsRange, IsContextOf, MeansIn, CheckContext, IsValueWithin, IsWithin, Range, CoversFaults, HoldsOperator}
use Rattle.edm_values.specs.Val as val
use Rattle.odata_signatures.specs.Reads.{OfEquality, ReadsNone, ReadsNumber}
use Rattle.odata_meaning.specs.ReadGives.{OperandGives}
use Rattle.odata_ranges.proofs.Forms.{StandsIn, TypedIn, holds_by, lies, stop_there, two_parts, type_there, value_has}
use Rattle.odata_ranges.proofs.Layouts.{stop_there as stop_lies}
use Rattle.odata_ranges.proofs.Holding.{after_within, faults_pass}
use Rattle.odata_ranges.proofs.HoldingTwo.{has_within, in_within, member_has, member_kept, quantified_within, sides_within, some_faults}
use Rattle.odata_ranges.proofs.KeptPaths.{tree_kept}
use Rattle.odata_ranges.proofs.StandingLies.{resolved_lies}

module _ (types : OneType) (filter : Filter) (place : ℕ) (found first : CheckedNode) (at : slice_get filter.list.nodes place ≡ Some found)
    (first_at : slice_get filter.list.nodes (place + 1) ≡ Some first) (left right result : Range)
    (left_holds : HoldsRange filter (place + 1) left) (right_holds : HoldsRange filter first.stop right) where
  module _ (context : CheckContext) (is : IsContextOf filter context) where
    -- what stands beside an operand lies within its range where it is not read
    side_within : (side : Range) (OtherSide : ExprType → Type 0) (i j : ℕ) (tree : Tree) → HoldsRange filter i side → ReadsNone (slots_of filter.schema) OtherSide tree
        → ResolvedStands filter.schema filter.filtered (scope_of context.environment) filter.list OtherSide tree (λ a b. StandsIn filter (scope_of context.environment) a b tree) i j
        → (x : Outcome) → MeansIn filter context tree x → IsWithin side x
    side_within side OtherSide i j tree holds none (inl read) x means = absurd (none read.0 read.1)
    side_within side OtherSide i j tree holds none (inr alone) x means = holds context tree j x is alone.1 means

    -- and so does its number where it is
    operand_within : (side : Range) (OtherSide : ExprType → Type 0) (i j : ℕ) (tree : Tree) → HoldsRange filter i side
        → ResolvedStands filter.schema filter.filtered (scope_of context.environment) filter.list OtherSide tree (λ a b. StandsIn filter (scope_of context.environment) a b tree) i j
        → (x : Outcome) → OperandGives (ReadsNumber (slots_of filter.schema) OtherSide tree) (MeansIn filter context tree) x → IsWithin side x
    operand_within side OtherSide i j tree holds stands x (inl read) = subst (IsWithin side) (sym read.2) tt
    operand_within side OtherSide i j tree holds stands x (inr alone) = side_within side OtherSide i j tree holds alone.0 stands x alone.1

    -- the right side stands where the left one stops
    right_range : (i middle : ℕ) (tree : Tree) → i ≡ place + 1 → Lies filter.schema filter.filtered (scope_of context.environment) filter.list i middle tree → HoldsRange filter middle right
    right_range i middle tree same stands =
        subst (λ (m : ℕ). HoldsRange filter m right)
        (stop_lies filter (scope_of context.environment) i first (subst (λ (k : ℕ). slice_get filter.list.nodes k ≡ Some first) (sym same) first_at) middle tree stands) right_holds

  one_node : (context : CheckContext) (s : ℕ) (tree : Tree) → StandsIn filter (scope_of context.environment) place s tree → (type : ExprType)
      → TypedIn filter (scope_of context.environment) tree type → type ≡ expr_type filter.schema found.edm_type
  one_node context s tree stands type typed =
      types (slots_of filter.schema) (type_name_at filter.schema filter.filtered) (scope_of context.environment) tree type (expr_type filter.schema found.edm_type) typed
      (type_there filter (scope_of context.environment) place found at s tree stands)

  -- each side of an operator as it stands, read or not
  operator_given : (context : CheckContext) → IsContextOf filter context → (operator : BinaryOperator) (s from to : ℕ) (l r : Tree) (o : Outcome) → found.kind ≡ NodeKind.Binary operator
      → HoldsOperator operator found.edm_type left right result → StandsIn filter (scope_of context.environment) place s (node from to (binary operator l r))
      → MeansIn filter context (node from to (binary operator l r)) o → IsWithin result o
  operator_given context is operator s from to l r o kind_is holds stands given =
      let slots = slots_of filter.schema in
      let scope = scope_of context.environment in
      let LeftBeside : ExprType → Type 0 = OfEquality operator (TypedIn filter scope r) in
      let RightBeside : ExprType → Type 0 = OfEquality operator (TypedIn filter scope l) in
      let whole = node from to (binary operator l r) in
      let two = two_parts (ResolvedStands filter.schema filter.filtered scope filter.list LeftBeside l (λ a b. StandsIn filter scope a b l))
      (ResolvedStands filter.schema filter.filtered scope filter.list RightBeside r (λ a b. StandsIn filter scope a b r)) (place + 1) s stands.children in
      let left_lies = resolved_lies filter.schema filter.filtered scope filter.list LeftBeside l (λ a b. StandsIn filter scope a b l) (place + 1) two.middle
      (lies filter scope (place + 1) two.middle l) two.left in
      let of_range : HoldsRange filter two.middle right = right_range context is (place + 1) two.middle l refl left_lies in
      sides_within filter found left right result operator (TypedIn filter scope whole)
      (OperandGives (ReadsNumber slots LeftBeside l) (MeansIn filter context l)) (OperandGives (ReadsNumber slots RightBeside r) (MeansIn filter context r)) o holds
      (one_node context s whole stands)
      (operand_within context is left LeftBeside (place + 1) two.middle l left_holds two.left)
      (operand_within context is right RightBeside two.middle s r of_range two.right) given

  pub operator_holds : (operator : BinaryOperator) → found.kind ≡ NodeKind.Binary operator → HoldsOperator operator found.edm_type left right result → HoldsRange filter place result
  operator_holds operator kind_is holds = holds_by filter place found at result (NodeKind.Binary operator) kind_is
      (λ l r context is s from to o stands given. operator_given context is operator s from to l r o kind_is holds stands given)

  pub has_holds : found.kind ≡ NodeKind.Has → CoversFaults result left right → (left.may_be_null ≡ true → result.may_be_null ≡ true) → (right.may_be_null ≡ true → result.may_be_null ≡ true)
      → HoldsRange filter place result
  has_holds kind_is faults left_nulls right_nulls = holds_by filter place found at result NodeKind.Has kind_is
      (λ l r context is s from to o stands_there given.
      let scope = scope_of context.environment in
      let two = two_parts (λ a b. StandsIn filter scope a b l)
      (ResolvedStands filter.schema filter.filtered scope filter.list (TypedIn filter scope l) r (λ a b. StandsIn filter scope a b r)) (place + 1) s stands_there.children in
      let of_left : (x : Outcome) → MeansIn filter context l x → IsWithin left x = λ x m. left_holds context l two.middle x is two.left m in
      let of_range : HoldsRange filter two.middle right = right_range context is (place + 1) two.middle l refl (lies filter scope (place + 1) two.middle l two.left) in
      let Operand : Outcome → Type 0 = OperandGives (ReadsNumber (slots_of filter.schema) (TypedIn filter scope l) r) (MeansIn filter context r) in
      let of_right : (x : Outcome) → Operand x → IsWithin right x = operand_within context is right (TypedIn filter scope l) two.middle s r of_range two.right in
      after_within result (MeansIn filter context l) (λ v. After Operand (HasGives v)) o (λ x m. faults_pass left result x faults.first (of_left x m))
      (λ v m goes. after_within result Operand (HasGives v) o (λ x k. faults_pass right result x faults.second (of_right x k))
      (λ w k more. has_within left right result v w o left_nulls (λ none_there. right_nulls (subst (λ (u : Val). IsValueWithin right u) none_there (of_right (gives w) k))) (of_left (gives v) m) more)
      goes)
      given)

  pub in_path_holds : found.kind ≡ NodeKind.InPath → CoversFaults result left right → (right.may_be_null ≡ true → result.may_be_null ≡ true) → HoldsRange filter place result
  in_path_holds kind_is faults nulls = holds_by filter place found at result NodeKind.InPath kind_is
      (λ l r context is s from to o stands_there given.
      let scope = scope_of context.environment in
      let two = two_parts (λ a b. StandsIn filter scope a b l) (λ a b. StandsIn filter scope a b r) (place + 1) s stands_there.children in
      let of_range = right_range context is (place + 1) two.middle l refl (lies filter scope (place + 1) two.middle l two.left) in
      let of_right : (x : Outcome) → MeansIn filter context r x → IsWithin right x = λ x m. of_range context r s x is two.right m in
      after_within result (MeansIn filter context l) _ o (λ x m. faults_pass left result x faults.first (left_holds context l two.middle x is two.left m))
      (λ v m goes. after_within result (MeansIn filter context r) (InGives v) o (λ x k. faults_pass right result x faults.second (of_right x k))
      (λ w k more. in_within result v w o (λ none_there. nulls (subst (λ (u : Val). IsValueWithin right u) none_there (of_right (gives w) k))) more)
      goes)
      given)

  -- the body at a member of the collection
  body_given : TypedEndsOnce → (context : CheckContext) → IsContextOf filter context → (quantifier : Quantifier) (s : ℕ) (base body : Tree) (variable : List ℕ) (member_type : SingleType)
      (v : Val) (o : Outcome) → (left.may_be_null ≡ true → result.may_be_null ≡ true) → (right.may_fault ≡ true → result.may_fault ≡ true)
      → TypedIn filter (scope_of context.environment) base (collection member_type)
      → Stands filter.schema filter.filtered (with_variable (scope_of context.environment) variable (single member_type)) filter.list first.stop s body
      → IsValueWithin left v → MeansIn filter context base (gives v) → IsKept (slots_of filter.schema) (collection member_type) v
      → LambdaGives quantifier (TypedIn filter (scope_of context.environment) base)
      (λ t w. Means (slots_of filter.schema) (type_name_at filter.schema filter.filtered) context.now context.entity (bound_over context.environment variable t w) body) v o
      → IsWithin result o
  body_given ends context is quantifier s base body variable member_type null o nulls faults typed stands within means kept given = subst (IsWithin result) (sym given) (nulls within)
  body_given ends context is quantifier s base body variable member_type (items vs) o nulls faults typed stands within means kept given =
      let slots = slots_of filter.schema in
      let root = type_name_at filter.schema filter.filtered in
      let same : member_type ≡ given.0 = cc (types slots root (scope_of context.environment) base (collection member_type) (collection given.0) typed given.1) in
      let has = value_has ends filter context is base (collection member_type) (items vs) typed means in
      let Body : Val → Outcome → Type 0 = λ w. Means slots root context.now context.entity (bound_over context.environment variable (single given.0) w) body in
      quantified_within result quantifier (length (members_of vs)) (MemberGives Body vs) o
      (λ k x at_place. some_faults result Body (slice_get (members_of vs) k) x
      (λ w found_there body_means.
      let inner : CheckContext = record { now = context.now; entity = context.entity; environment = bound_over context.environment variable (single member_type) w } in
      let inner_is : IsContextOf filter inner = record {
        moment = is.moment;
        held = is.held;
        is_record = is.is_record;
        typed = is.typed;
        kept = is.kept;
        fitting = (member_has slots member_type vs k w has found_there, is.fitting);
        variables = (member_kept slots member_type vs k w kept.1 found_there, is.variables);
      } in
      faults_pass right result x faults
      (right_holds inner body s x inner_is stands
      (subst (λ (t : SingleType). Means slots root context.now context.entity (bound_over context.environment variable (single t) w) body x) (sym same) body_means)))
      at_place)
      given.2
  body_given ends context is quantifier s base body variable member_type _ o nulls faults typed stands within means kept given = absurd given

  pub lambda_holds : TypedEndsOnce → (quantifier : Quantifier) → found.kind ≡ NodeKind.Lambda quantifier → (left.may_be_null ≡ true → result.may_be_null ≡ true)
      → (right.may_fault ≡ true → result.may_fault ≡ true) → HoldsRange filter place result
  lambda_holds ends quantifier kind_is nulls faults = holds_by filter place found at result (NodeKind.Lambda quantifier) kind_is
      (λ base variable body context is s from to o stands_there given.
      let scope = scope_of context.environment in
      let two = two_parts (λ a b. StandsIn filter scope a b base)
      (λ a b. InBody scope variable (TypedIn filter scope base) (λ at. Stands filter.schema filter.filtered at filter.list a b body)) (place + 1) s stands_there.children in
      let same : first.stop ≡ two.middle = stop_there filter scope (place + 1) first first_at two.middle base two.left in
      let inner = two.right in
      let body_stands = subst (λ (m : ℕ). Stands filter.schema filter.filtered (with_variable scope variable (single inner.member_type)) filter.list m s body) (sym same) inner.body in
      let collected = tree_kept filter context is base (collection inner.member_type) given.0 tt inner.binds.over given.1.0 in
      let within : IsWithin left given.0 = left_holds context base two.middle given.0 is two.left given.1.0 in
      body_given ends context is quantifier s base body variable inner.member_type collected.0 o nulls faults inner.binds.over body_stands
      (subst (IsWithin left) collected.1 within) (subst (λ (x : Outcome). MeansIn filter context base x) collected.1 given.1.0) collected.2
      (subst (λ (x : Outcome). Then x (LambdaGives quantifier (TypedIn filter scope base)
      (λ t w. Means (slots_of filter.schema) (type_name_at filter.schema filter.filtered) context.now context.entity (bound_over context.environment variable t w) body)) o)
      collected.1 given.1.1))
