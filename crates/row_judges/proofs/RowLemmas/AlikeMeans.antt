-- A tree that names nothing that is passed over evaluates to alike values on alike entities.
use Rattle.std.proofs.Common.{◌≡◌, ◌∙◌, inl, inr, ℕ, ◌<◌, zero, suc, ℤ, pos, List, [], ◌∷◌, Bool, true, false, cond, find, Option, Some, None, length, slice_get, nat_eq, ap, refl, subst, sym}
use Rattle.std.specs.Prelude.{IsSomeAnd}
use Rattle.std.specs.Option.{option_map}
use Rattle.std.specs.Cmp.Lexicographic.{pointwise}
use Rattle.edm_values.specs.MomentParts.{MomentParts}
use Rattle.edm_values.specs.Val.{FieldVal, Val, Vals, absent, boolean, date, fields, guid, item, items, member as member_val, moment, no_items, null, present, text, whole}
use Rattle.edm_values.specs.declared.primitive.PrimitiveType.{PrimitiveType}
use Rattle.csdl_schema.specs.ExprType.{ExprType, collection, single}
use Rattle.csdl_schema.specs.SchemaModel.{Slots}
use Rattle.odata_syntax.specs.Spans.{list_of_trees}
use Rattle.odata_syntax.specs.Tree.{Tree, Trees, any_item, binary, call, count, has, in_list, in_path, it, lambda, literal, logical_not, member, more_trees, name, negation, no_trees, node}
use Rattle.odata_syntax.specs.declared.binary_operator.BinaryOperator.{BinaryOperator}
use Rattle.odata_syntax.specs.declared.binary_operator.ComparisonOperator.{ComparisonOperator}
use Rattle.odata_syntax.specs.declared.binary_operator.LogicalOperator.{LogicalOperator}
use Rattle.odata_syntax.specs.declared.node.Quantifier.{Quantifier}
use Rattle.odata_signatures.specs.OperatorTyped.{NegationTyped, OperatorTyped}
use Rattle.odata_signatures.specs.Reads.{OfEquality, ReadsNumber}
use Rattle.odata_signatures.specs.Sides.{Between}
use Rattle.odata_signatures.specs.Typed.{OperandTyped, OperandsTyped, Scope, Typed}
use Rattle.odata_filter_operations.specs.CalculationGives.{CalculationGives, GivesNumber, NegatedGives}
use Rattle.odata_filter_operations.specs.CallGives.{CallGives}
use Rattle.odata_filter_operations.specs.CollectionGives.{AnyItemGives, CountGives, members_of}
use Rattle.odata_filter_operations.specs.CompareGives.{CompareGives}
use Rattle.odata_filter_operations.specs.HasGives.{HasGives}
use Rattle.odata_filter_operations.specs.LambdaGives.{InGives, ItemsGive, LambdaGives, MemberGives, MembersGive}
use Rattle.odata_filter_operations.specs.LeftFirst.{After, Then}
use Rattle.odata_filter_operations.specs.Outcome.{Outcome, divides_by_zero, gives, overflow}
use Rattle.odata_filter_operations.specs.QuantifierGives.{DecisionGives, IsUndecided, Passes, QuantifierGives}
use Rattle.odata_filter_operations.specs.TruthGives.{JoinGives, LogicalGives, NotGives}
use Rattle.odata_meaning.specs.Environment.{Environment, scope_of, variable_value}
use Rattle.odata_meaning.specs.Means.{ArgumentsMean, ItemMeans, Means}
use Rattle.odata_meaning.specs.NameGives.{FieldGives, FoundGives, StepGives}
use Rattle.odata_meaning.specs.OperatorGives.{InType, OperatorGives, SidesGive}
use Rattle.odata_meaning.specs.ReadGives.{OperandGives}
use Rattle.odata_meaning.proofs.meaning.AllTrees.{AllTrees}
use Rattle.edm_rows.specs.RowReading.{Names}
use Rattle.edm_rows.specs.Alike.{AllAlike, AreAlike, FieldsAlike, alike_lists, alike_records, alike_same, both_absent, both_present, no_members, one_member}
use Rattle.row_judges.proofs.RowLemmas.Faces.{ValuesAlike, all_moved, any_item_faced, calculation_faced, call_faced, compare_alike, decision_faced, has_faced, join_faced, logical_faced, moved, moved_two, negated_faced, not_faced, undecided_faced}
use Rattle.row_judges.proofs.RowLemmas.NamesAlone.{NamesNone, TreesNameNone}

module _ (Passed : Names) where
  -- values that are alike, or the same outcome
  pub data OutcomesAlike : Outcome → Outcome → Type 0 where
    alike_values : (v w : Val) → AreAlike Passed v w → OutcomesAlike (gives v) (gives w)
    same_outcome : (o : Outcome) → OutcomesAlike o o

  -- each outcome of the one goes with one of the other
  abbrev pub Follows : (Outcome → Type 0) → (Outcome → Type 0) → Type 0
  Follows M N = (o : Outcome) → M o → (p : Outcome) × (N p × OutcomesAlike o p)

  pub same_follow : (M N : Outcome → Type 0) → ((o : Outcome) → M o → N o) → Follows M N
  same_follow M N goes o is = (o, (goes o is, same_outcome o))

  value_follows : (v w : Val) → AreAlike Passed v w → (N : Outcome → Type 0) → N (gives w) → (o : Outcome) → o ≡ gives v → (p : Outcome) × (N p × OutcomesAlike o p)
  value_follows v w alike N given o is = (gives w, (given, subst (λ (x : Outcome). OutcomesAlike x (gives w)) (sym is) (alike_values v w alike)))

  -- ---- one operand after another

  same_then : (F G : Val → Outcome → Type 0) → ((v w : Val) → AreAlike Passed v w → Follows (F v) (G w)) → (first o : Outcome) → Then first F o → (p : Outcome) × (Then first G p × OutcomesAlike o p)
  same_then F G goes (gives v) o follows = goes v v (alike_same v) o follows
  same_then F G goes overflow o follows = (o, (follows, same_outcome o))
  same_then F G goes divides_by_zero o follows = (o, (follows, same_outcome o))

  then_follows : (F G : Val → Outcome → Type 0) → ((v w : Val) → AreAlike Passed v w → Follows (F v) (G w)) → (first other : Outcome) → OutcomesAlike first other → (o : Outcome) → Then first F o
      → (p : Outcome) × (Then other G p × OutcomesAlike o p)
  then_follows F G goes first other (alike_values v w alike) o follows = goes v w alike o follows
  then_follows F G goes first other (same_outcome q) o follows = same_then F G goes q o follows

  pub after_follows : (M N : Outcome → Type 0) (F G : Val → Outcome → Type 0) → Follows M N → ((v w : Val) → AreAlike Passed v w → Follows (F v) (G w)) → Follows (After M F) (After N G)
  after_follows M N F G operand goes o (first, (is, follows)) =
      let other = operand first is in
      let more = then_follows F G goes first other.0 other.1.1 o follows in
      (more.0, ((other.0, (other.1.0, more.1.0)), more.1.1))

  -- ---- operators

  pub operand_follows : (Reads : ℤ → Type 0) (M N : Outcome → Type 0) → Follows M N → Follows (OperandGives Reads M) (OperandGives Reads N)
  operand_follows Reads M N goes o (inl read) = (o, (inl read, same_outcome o))
  operand_follows Reads M N goes o (inr (none, is)) = let other = goes o is in (other.0, (inr (none, other.1.0), other.1.1))

  joined_follows : (logical : LogicalOperator) (left : Option Bool) (R S : Outcome → Type 0) → Follows R S → Follows (After R (JoinGives logical left)) (After S (JoinGives logical left))
  joined_follows logical left R S right =
      after_follows R S (JoinGives logical left) (JoinGives logical left) right
      (λ v w alike. same_follow (JoinGives logical left v) (JoinGives logical left w) (λ o given. moved Passed (λ x. JoinGives logical left x o) (join_faced logical left o) v w alike given))

  logical_follows : (logical : LogicalOperator) (v : Val) (R S : Outcome → Type 0) → Follows R S → Follows (LogicalGives logical v R) (LogicalGives logical v S)
  logical_follows LogicalOperator.And (boolean false) R S right o is = (o, (is, same_outcome o))
  logical_follows LogicalOperator.And (boolean true) R S right o is = joined_follows LogicalOperator.And (Some true) R S right o is
  logical_follows LogicalOperator.And null R S right o is = joined_follows LogicalOperator.And None R S right o is
  logical_follows LogicalOperator.Or (boolean true) R S right o is = (o, (is, same_outcome o))
  logical_follows LogicalOperator.Or (boolean false) R S right o is = joined_follows LogicalOperator.Or (Some false) R S right o is
  logical_follows LogicalOperator.Or null R S right o is = joined_follows LogicalOperator.Or None R S right o is
  logical_follows _ _ R S right o is = absurd is

  calculated : (N : ExprType → Type 0) (Gives Also : ExprType → Outcome → Type 0) → ((type : ExprType) (o : Outcome) → Gives type o → Also type o) → (o : Outcome) → InType N Gives o → InType N Also o
  calculated N Gives Also goes o (type, typed, given) = (type, typed, goes type o given)

  operator_follows : (operator : BinaryOperator) (N : ExprType → Type 0) (v w : Val) → AreAlike Passed v w → (R S : Outcome → Type 0) → Follows R S → Follows (OperatorGives operator N v R) (OperatorGives operator N w S)
  operator_follows (BinaryOperator.Logical logical) N v w alike R S right o is =
      logical_follows logical w R S right o (moved Passed (λ x. LogicalGives logical x R o) (logical_faced logical R o) v w alike is)
  operator_follows (BinaryOperator.Comparison comparison) N v w alike R S right o is =
      after_follows R S (CompareGives comparison v) (CompareGives comparison w) right
      (λ x y beside. same_follow (CompareGives comparison v x) (CompareGives comparison w y) (compare_alike Passed comparison v w x y alike beside)) o is
  operator_follows (BinaryOperator.Arithmetic arithmetic) N v w alike R S right o is =
      after_follows R S (λ x. InType N (λ type. CalculationGives arithmetic type v x)) (λ y. InType N (λ type. CalculationGives arithmetic type w y)) right
      (λ x y beside. same_follow (InType N (λ type. CalculationGives arithmetic type v x)) (InType N (λ type. CalculationGives arithmetic type w y))
      (calculated N (λ type. CalculationGives arithmetic type v x) (λ type. CalculationGives arithmetic type w y)
      (λ type p given. moved_two Passed (λ a b. CalculationGives arithmetic type a b p) (calculation_faced arithmetic type p) v w x y alike beside given))) o is

  pub sides_follow : (operator : BinaryOperator) (N : ExprType → Type 0) (L K R S : Outcome → Type 0) → Follows L K → Follows R S → Follows (SidesGive operator N L R) (SidesGive operator N K S)
  sides_follow operator N L K R S left right =
      after_follows L K (λ l. OperatorGives operator N l R) (λ l. OperatorGives operator N l S) left (λ v w alike. operator_follows operator N v w alike R S right)

  -- ---- members, and items of a list

  passes_on : (quantifier : Quantifier) (N : Outcome → Type 0) (v : Val) (p : Outcome) → OutcomesAlike (gives v) p → N p → IsUndecided quantifier v → Passes quantifier N
  passes_on quantifier N v p (alike_values x w alike) is undecided = (w, is, moved Passed (IsUndecided quantifier) (undecided_faced quantifier) v w alike undecided)
  passes_on quantifier N v p (same_outcome q) is undecided = (v, is, undecided)

  pub quantifier_follows : (quantifier : Quantifier) (many : ℕ) (At Also : ℕ → Outcome → Type 0) → ((place : ℕ) → Follows (At place) (Also place))
      → Follows (QuantifierGives quantifier many At) (QuantifierGives quantifier many Also)
  quantifier_follows quantifier many At Also each o given = by given
    where
      passes : (k : ℕ) → Passes quantifier (At k) → Passes quantifier (Also k)
      passes k (v, is, undecided) = let other = each k (gives v) is in passes_on quantifier (Also k) v other.0 other.1.1 other.1.0 undecided

      by : QuantifierGives quantifier many At o → (p : Outcome) × (QuantifierGives quantifier many Also p × OutcomesAlike o p)
      by (inl decides) =
          let other =
          after_follows (At decides.place) (Also decides.place) (DecisionGives quantifier) (DecisionGives quantifier) (each decides.place)
          (λ v w alike. same_follow (DecisionGives quantifier v) (DecisionGives quantifier w) (λ q is. moved Passed (λ x. DecisionGives quantifier x q) (decision_faced quantifier q) v w alike is))
          o decides.here in
          (other.0, (inl (record { place = decides.place; here = other.1.0; earlier = λ k below. passes k (decides.earlier k below) }), other.1.1))
      by (inr all) = (o, (inr (record { each = λ k below. passes k (all.each k below); is = all.is }), same_outcome o))

  same_count : (vs ws : Vals) → AllAlike Passed vs ws → length (members_of vs) ≡ length (members_of ws)
  same_count vs ws no_members = refl
  same_count vs ws (one_member v w more others alike all) = ap suc (same_count more others all)

  member_follows : (Body Other : Val → Outcome → Type 0) → ((v w : Val) → AreAlike Passed v w → Follows (Body v) (Other w)) → (vs ws : Vals) → AllAlike Passed vs ws → (place : ℕ)
      → Follows (MemberGives Body vs place) (MemberGives Other ws place)
  member_follows Body Other goes vs ws no_members place o is = absurd is
  member_follows Body Other goes vs ws (one_member v w more others alike all) zero o is = goes v w alike o is
  member_follows Body Other goes vs ws (one_member v w more others alike all) (suc place) o is = member_follows Body Other goes more others all place o is

  pub members_follow : (quantifier : Quantifier) (Body Other : Val → Outcome → Type 0) → ((v w : Val) → AreAlike Passed v w → Follows (Body v) (Other w)) → (vs ws : Vals) → AllAlike Passed vs ws
      → Follows (MembersGive quantifier Body vs) (MembersGive quantifier Other ws)
  members_follow quantifier Body Other goes vs ws all =
      subst (λ (n : ℕ). Follows (QuantifierGives quantifier (length (members_of vs)) (MemberGives Body vs)) (QuantifierGives quantifier n (MemberGives Other ws))) (same_count vs ws all)
      (quantifier_follows quantifier (length (members_of vs)) (MemberGives Body vs) (MemberGives Other ws) (member_follows Body Other goes vs ws all))

  pub all_same : (vs : Vals) → AllAlike Passed vs vs
  all_same no_items = no_members
  all_same (item v more) = one_member v v more more (alike_same v) (all_same more)

  pub equal_member : (l m : Val) → AreAlike Passed l m → (v w : Val) → AreAlike Passed v w → Follows (CompareGives ComparisonOperator.Eq l v) (CompareGives ComparisonOperator.Eq m w)
  equal_member l m alike v w beside = same_follow (CompareGives ComparisonOperator.Eq l v) (CompareGives ComparisonOperator.Eq m w) (compare_alike Passed ComparisonOperator.Eq l m v w alike beside)

  in_same : (l m : Val) → AreAlike Passed l m → (v : Val) → Follows (InGives l v) (InGives m v)
  in_same l m alike null o is = (o, (is, same_outcome o))
  in_same l m alike (items values) o is = members_follow Quantifier.Any (CompareGives ComparisonOperator.Eq l) (CompareGives ComparisonOperator.Eq m) (equal_member l m alike) values values (all_same values) o is
  in_same l m alike _ o is = absurd is

  in_follows : (l m : Val) → AreAlike Passed l m → (v w : Val) → AreAlike Passed v w → Follows (InGives l v) (InGives m w)
  in_follows l m alike v w (alike_same u) o is = in_same l m alike u o is
  in_follows l m alike v w (alike_records f g each) o is = absurd is
  in_follows l m alike v w (alike_lists vs ws all) o is = members_follow Quantifier.Any (CompareGives ComparisonOperator.Eq l) (CompareGives ComparisonOperator.Eq m) (equal_member l m alike) vs ws all o is

  count_follows : (v w : Val) → AreAlike Passed v w → Follows (CountGives v) (CountGives w)
  count_follows v w (alike_same u) o is = (o, (is, same_outcome o))
  count_follows v w (alike_records f g each) o is = absurd is
  count_follows v w (alike_lists vs ws all) o is = (o, (subst (λ (n : ℕ). GivesNumber PrimitiveType.Int64 (pos n) o) (same_count vs ws all) is, same_outcome o))

  module _ (quantifier : Quantifier) (BaseTyped : ExprType → Type 0) (Body Other : ExprType → Val → Outcome → Type 0)
      (goes : (type : ExprType) (v w : Val) → AreAlike Passed v w → Follows (Body type v) (Other type w)) where
    over_members : (vs ws : Vals) → AllAlike Passed vs ws → Follows (LambdaGives quantifier BaseTyped Body (items vs)) (LambdaGives quantifier BaseTyped Other (items ws))
    over_members vs ws all o (type, typed, members) =
        let other = members_follow quantifier (Body (single type)) (Other (single type)) (goes (single type)) vs ws all o members in
        (other.0, ((type, typed, other.1.0), other.1.1))

    over_same : (v : Val) → Follows (LambdaGives quantifier BaseTyped Body v) (LambdaGives quantifier BaseTyped Other v)
    over_same null o is = (o, (is, same_outcome o))
    over_same (items values) o is = over_members values values (all_same values) o is
    over_same _ o is = absurd is

    pub lambda_follows : (v w : Val) → AreAlike Passed v w → Follows (LambdaGives quantifier BaseTyped Body v) (LambdaGives quantifier BaseTyped Other w)
    lambda_follows v w (alike_same u) o is = over_same u o is
    lambda_follows v w (alike_records f g each) o is = absurd is
    lambda_follows v w (alike_lists vs ws all) o is = over_members vs ws all o is

  -- ---- names

  field_follows : (f g : FieldVal) → FieldsAlike Passed f g → Follows (FieldGives f) (FieldGives g)
  field_follows f g both_absent o is = absurd is
  field_follows f g (both_present v w alike) o is = value_follows v w alike (λ p. p ≡ gives w) refl o is

  step_follows : (word : List ℕ) → ¬ Passed word → (v w : Val) → AreAlike Passed v w → Follows (StepGives v word) (StepGives w word)
  step_follows word unnamed v w (alike_same u) o is = (o, (is, same_outcome o))
  step_follows word unnamed v w (alike_records f g each) o is = field_follows (f word) (g word) (each word unnamed) o is
  step_follows word unnamed v w (alike_lists vs ws all) o is = absurd is

  -- the same variables, with alike values
  pub data EnvironmentsAlike : Environment → Environment → Type 0 where
    no_variables : EnvironmentsAlike [] []
    one_variable :
        (called : List ℕ) (type : ExprType) (v w : Val) (outer other : Environment) → AreAlike Passed v w → EnvironmentsAlike outer other
        → EnvironmentsAlike (record { variable = record { name = called; type_of = type }; value = v } ∷ outer) (record { variable = record { name = called; type_of = type }; value = w } ∷ other)

  pub same_scope : (environment other : Environment) → EnvironmentsAlike environment other → scope_of environment ≡ scope_of other
  same_scope environment other no_variables = refl
  same_scope environment other (one_variable called type v w outer more alike all) =
      ap (λ (scope : Scope). record { name = called; type_of = type } ∷ scope) (same_scope outer more all)

  found_follows : (e f : Val) → AreAlike Passed e f → (word : List ℕ) → ¬ Passed word → (environment other : Environment) → EnvironmentsAlike environment other
      → Follows (FoundGives (variable_value environment word) e word) (FoundGives (variable_value other word) f word)
  found_follows e f entities word unnamed environment other no_variables = step_follows word unnamed e f entities
  found_follows e f entities word unnamed environment other (one_variable called type v w outer more alike all) =
      elim (pointwise nat_eq word called) as (λ is_it. Follows
      (FoundGives (option_map (λ b. b.value) (cond is_it (Some (record { variable = record { name = called; type_of = type }; value = v })) (find (λ b. pointwise nat_eq word b.variable.name) outer))) e word)
      (FoundGives (option_map (λ b. b.value) (cond is_it (Some (record { variable = record { name = called; type_of = type }; value = w })) (find (λ b. pointwise nat_eq word b.variable.name) more))) f word)) [
        | true ↦ λ o is. value_follows v w alike (λ p. p ≡ gives w) refl o is
        | false ↦ found_follows e f entities word unnamed outer more all
      ]

  -- ---- trees

  module _ (slots : Slots) (root : List ℕ) (now : MomentParts) (e f : Val) (entities : AreAlike Passed e f) where
    -- a tree, with any variables around it
    abbrev TreeFollows : Tree → Type 0
    TreeFollows tree =
        (environment other : Environment) → EnvironmentsAlike environment other → NamesNone Passed tree
        → Follows (Means slots root now e environment tree) (Means slots root now f other tree)

    item_follows : (environment other : Environment) → EnvironmentsAlike environment other → (OtherSide : ExprType → Type 0) (listed : Trees) (place : ℕ) → AllTrees TreeFollows listed
        → TreesNameNone Passed listed → Follows (ItemMeans slots root now e environment OtherSide listed place) (ItemMeans slots root now f other OtherSide listed place)
    item_follows environment other alike OtherSide no_trees place each none o is = absurd is
    item_follows environment other alike OtherSide (more_trees tree more) zero each none o is =
        operand_follows (ReadsNumber slots OtherSide tree) (Means slots root now e environment tree) (Means slots root now f other tree) (each.0 environment other alike none.0) o is
    item_follows environment other alike OtherSide (more_trees tree more) (suc place) each none o is = item_follows environment other alike OtherSide more place each.1 none.1 o is

    arguments_follow : (environment other : Environment) → EnvironmentsAlike environment other → (trees : Trees) (Goes Also : List Val → Outcome → Type 0) → AllTrees TreeFollows trees
        → TreesNameNone Passed trees → ((values others : List Val) → ValuesAlike Passed values others → Follows (Goes values) (Also others))
        → Follows (ArgumentsMean slots root now e environment trees Goes) (ArgumentsMean slots root now f other trees Also)
    arguments_follow environment other alike no_trees Goes Also each none goes o is = goes [] [] tt o is
    arguments_follow environment other alike (more_trees tree more) Goes Also each none goes o is =
        after_follows (Means slots root now e environment tree) (Means slots root now f other tree)
        (λ v. ArgumentsMean slots root now e environment more (λ values. Goes (v ∷ values))) (λ w. ArgumentsMean slots root now f other more (λ values. Also (w ∷ values)))
        (each.0 environment other alike none.0)
        (λ v w both. arguments_follow environment other alike more (λ values. Goes (v ∷ values)) (λ values. Also (w ∷ values)) each.1 none.1
        (λ values others beside. goes (v ∷ values) (w ∷ others) (both, beside))) o is

    mutual
      pub means_follow : (environment other : Environment) → EnvironmentsAlike environment other → (tree : Tree) → NamesNone Passed tree
          → Follows (Means slots root now e environment tree) (Means slots root now f other tree)
      means_follow environment other alike (node start stop (literal kind spelling)) none o is = (o, (is, same_outcome o))
      means_follow environment other alike (node start stop it) none o is = value_follows e f entities (λ p. p ≡ gives f) refl o is
      means_follow environment other alike (node start stop (name word)) none o is = found_follows e f entities word none environment other alike o is
      means_follow environment other alike (node start stop (member base word)) none o is =
          after_follows (Means slots root now e environment base) (Means slots root now f other base) (λ v. StepGives v word) (λ v. StepGives v word)
          (means_follow environment other alike base none.1) (λ v w both. step_follows word none.0 v w both) o is
      means_follow environment other alike (node start stop (count base)) none o is =
          after_follows (Means slots root now e environment base) (Means slots root now f other base) CountGives CountGives (means_follow environment other alike base none) count_follows o is
      means_follow environment other alike (node start stop (negation operand)) none o is =
          subst (λ (s : Scope). (p : Outcome)
          × (After (Means slots root now f other operand) (λ v. InType (OperandTyped (Typed slots root s operand) NegationTyped) (λ type. NegatedGives type v)) p × OutcomesAlike o p))
          (same_scope environment other alike)
          (let N : ExprType → Type 0 = OperandTyped (Typed slots root (scope_of environment) operand) NegationTyped in
          after_follows (Means slots root now e environment operand) (Means slots root now f other operand) (λ v. InType N (λ type. NegatedGives type v)) (λ v. InType N (λ type. NegatedGives type v))
          (means_follow environment other alike operand none)
          (λ v w both. same_follow (InType N (λ type. NegatedGives type v)) (InType N (λ type. NegatedGives type w))
          (calculated N (λ type. NegatedGives type v) (λ type. NegatedGives type w) (λ type p given. moved Passed (λ x. NegatedGives type x p) (negated_faced type p) v w both given)))
          o is)
      means_follow environment other alike (node start stop (logical_not operand)) none o is =
          after_follows (Means slots root now e environment operand) (Means slots root now f other operand) NotGives NotGives (means_follow environment other alike operand none)
          (λ v w both. same_follow (NotGives v) (NotGives w) (λ p given. moved Passed (λ x. NotGives x p) (not_faced p) v w both given)) o is
      means_follow environment other alike (node start stop (binary operator left right)) none o is =
          subst (λ (s : Scope). (p : Outcome)
          × (SidesGive operator (OperandsTyped (Typed slots root s left) (Typed slots root s right) (Between (OperatorTyped slots operator) left right))
          (OperandGives (ReadsNumber slots (OfEquality operator (Typed slots root s right)) left) (Means slots root now f other left))
          (OperandGives (ReadsNumber slots (OfEquality operator (Typed slots root s left)) right) (Means slots root now f other right)) p
          × OutcomesAlike o p))
          (same_scope environment other alike)
          (let L : ExprType → Type 0 = Typed slots root (scope_of environment) left in
          let R : ExprType → Type 0 = Typed slots root (scope_of environment) right in
          let ReadsLeft : ℤ → Type 0 = ReadsNumber slots (OfEquality operator R) left in
          let ReadsRight : ℤ → Type 0 = ReadsNumber slots (OfEquality operator L) right in
          sides_follow operator (OperandsTyped L R (Between (OperatorTyped slots operator) left right))
          (OperandGives ReadsLeft (Means slots root now e environment left)) (OperandGives ReadsLeft (Means slots root now f other left))
          (OperandGives ReadsRight (Means slots root now e environment right)) (OperandGives ReadsRight (Means slots root now f other right))
          (operand_follows ReadsLeft (Means slots root now e environment left) (Means slots root now f other left) (means_follow environment other alike left none.0))
          (operand_follows ReadsRight (Means slots root now e environment right) (Means slots root now f other right) (means_follow environment other alike right none.1)) o is)
      means_follow environment other alike (node start stop (has left right)) none o is =
          subst (λ (s : Scope). (p : Outcome)
          × (After (Means slots root now f other left) (λ l. After (OperandGives (ReadsNumber slots (Typed slots root s left) right) (Means slots root now f other right)) (HasGives l)) p × OutcomesAlike o p))
          (same_scope environment other alike)
          (let Reads : ℤ → Type 0 = ReadsNumber slots (Typed slots root (scope_of environment) left) right in
          let Operand : Outcome → Type 0 = OperandGives Reads (Means slots root now e environment right) in
          let Also : Outcome → Type 0 = OperandGives Reads (Means slots root now f other right) in
          after_follows (Means slots root now e environment left) (Means slots root now f other left) (λ l. After Operand (HasGives l)) (λ l. After Also (HasGives l))
          (means_follow environment other alike left none.0)
          (λ v w both. after_follows Operand Also (HasGives v) (HasGives w)
          (operand_follows Reads (Means slots root now e environment right) (Means slots root now f other right) (means_follow environment other alike right none.1))
          (λ x y beside. same_follow (HasGives v x) (HasGives w y) (λ p given. moved_two Passed (λ a b. HasGives a b p) (has_faced p) v w x y both beside given))) o is)
      means_follow environment other alike (node start stop (in_list left listed)) none o is =
          subst (λ (s : Scope). (p : Outcome)
          × (After (Means slots root now f other left) (λ l. ItemsGive l (length (list_of_trees listed)) (ItemMeans slots root now f other (Typed slots root s left) listed)) p × OutcomesAlike o p))
          (same_scope environment other alike)
          (let L : ExprType → Type 0 = Typed slots root (scope_of environment) left in
          let many : ℕ = length (list_of_trees listed) in
          after_follows (Means slots root now e environment left) (Means slots root now f other left)
          (λ l. ItemsGive l many (ItemMeans slots root now e environment L listed)) (λ l. ItemsGive l many (ItemMeans slots root now f other L listed))
          (means_follow environment other alike left none.0)
          (λ v w both. quantifier_follows Quantifier.Any many
          (λ place. After (ItemMeans slots root now e environment L listed place) (CompareGives ComparisonOperator.Eq v))
          (λ place. After (ItemMeans slots root now f other L listed place) (CompareGives ComparisonOperator.Eq w))
          (λ place. after_follows (ItemMeans slots root now e environment L listed place) (ItemMeans slots root now f other L listed place) (CompareGives ComparisonOperator.Eq v) (CompareGives ComparisonOperator.Eq w)
          (item_follows environment other alike L listed place (trees_follow listed) none.1) (equal_member v w both))) o is)
      means_follow environment other alike (node start stop (in_path left path)) none o is =
          after_follows (Means slots root now e environment left) (Means slots root now f other left) (λ l. After (Means slots root now e environment path) (InGives l))
          (λ l. After (Means slots root now f other path) (InGives l)) (means_follow environment other alike left none.0)
          (λ v w both. after_follows (Means slots root now e environment path) (Means slots root now f other path) (InGives v) (InGives w) (means_follow environment other alike path none.1)
          (in_follows v w both)) o is
      means_follow environment other alike (node start stop (call asked arguments)) none o is =
          let given =
          arguments_follow environment other alike arguments (CallGives now is.function) (CallGives now is.function) (trees_follow arguments) none
          (λ values others both. same_follow (CallGives now is.function values) (CallGives now is.function others)
          (λ p given. all_moved Passed (λ xs. CallGives now is.function xs p) (call_faced now is.function p) values others both given)) o is.given in
          (given.0, (record { function = is.function; named = is.named; given = given.1.0 }, given.1.1))
      means_follow environment other alike (node start stop (any_item base)) none o is =
          after_follows (Means slots root now e environment base) (Means slots root now f other base) AnyItemGives AnyItemGives (means_follow environment other alike base none)
          (λ v w both. same_follow (AnyItemGives v) (AnyItemGives w) (λ p given. moved Passed (λ x. AnyItemGives x p) (any_item_faced p) v w both given)) o is
      means_follow environment other alike (node start stop (lambda quantifier base variable body)) none o is =
          subst (λ (s : Scope). (p : Outcome)
          × (After (Means slots root now f other base)
          (LambdaGives quantifier (Typed slots root s base) (λ type v. Means slots root now f (record { variable = record { name = variable; type_of = type }; value = v } ∷ other) body)) p
          × OutcomesAlike o p))
          (same_scope environment other alike)
          (let B : ExprType → Type 0 = Typed slots root (scope_of environment) base in
          let Body : ExprType → Val → Outcome → Type 0 = λ type v. Means slots root now e (record { variable = record { name = variable; type_of = type }; value = v } ∷ environment) body in
          let Also : ExprType → Val → Outcome → Type 0 = λ type v. Means slots root now f (record { variable = record { name = variable; type_of = type }; value = v } ∷ other) body in
          after_follows (Means slots root now e environment base) (Means slots root now f other base) (LambdaGives quantifier B Body) (LambdaGives quantifier B Also)
          (means_follow environment other alike base none.0)
          (lambda_follows quantifier B Body Also
          (λ type v w both. means_follow (record { variable = record { name = variable; type_of = type }; value = v } ∷ environment) (record { variable = record { name = variable; type_of = type }; value = w } ∷ other)
          (one_variable variable type v w environment other both alike) body none.1)) o is)

      trees_follow : (trees : Trees) → AllTrees TreeFollows trees
      trees_follow no_trees = tt
      trees_follow (more_trees tree more) = ((λ environment other alike none. means_follow environment other alike tree none), trees_follow more)
