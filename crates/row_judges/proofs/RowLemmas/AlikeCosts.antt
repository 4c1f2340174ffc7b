-- A tree that names nothing that is passed over costs the same on alike entities.
use Rattle.std.proofs.Common.{◌≡◌, ◌∙◌, ℕ, ◌+◌, ℤ, List, [], ◌∷◌, refl, subst, sym, false, true}
use Rattle.edm_values.specs.MomentParts.{MomentParts}
use Rattle.edm_values.specs.Val.{Val, Vals, boolean, items, null}
use Rattle.csdl_schema.specs.ExprType.{ExprType, collection, single}
use Rattle.csdl_schema.specs.SchemaModel.{Slots}
use Rattle.odata_syntax.specs.Tree.{Tree, Trees, any_item, binary, call, count, has, in_list, in_path, it, lambda, literal, logical_not, member, more_trees, name, negation, no_trees, node}
use Rattle.odata_syntax.specs.declared.binary_operator.BinaryOperator.{BinaryOperator}
use Rattle.odata_syntax.specs.declared.binary_operator.ComparisonOperator.{ComparisonOperator}
use Rattle.odata_syntax.specs.declared.binary_operator.LogicalOperator.{LogicalOperator}
use Rattle.odata_syntax.specs.declared.node.Quantifier.{Quantifier}
use Rattle.odata_signatures.specs.Reads.{ReadsNumber}
use Rattle.odata_signatures.specs.Typed.{Scope, Typed}
use Rattle.odata_filter_operations.specs.CompareGives.{CompareGives}
use Rattle.odata_filter_operations.specs.Outcome.{Outcome, divides_by_zero, gives, overflow}
use Rattle.odata_filter_operations.specs.TextCosts.{CallCosts, call_cost, comparison_cost, operator_cost}
use Rattle.odata_meaning.specs.Costs.{AmongCosts, ArgumentsCost, CostAfter, CostThen, Costs, CostsExactly, CostsMore, ItemsCost, LambdaCosts, MembersCost, OthersCost, RightCosts, item_cost}
use Rattle.odata_meaning.specs.Environment.{Environment, scope_of}
use Rattle.odata_meaning.specs.Means.{Means}
use Rattle.odata_meaning.specs.OneByOne.{ItemAlone}
use Rattle.odata_meaning.proofs.meaning.AllTrees.{AllTrees}
use Rattle.edm_rows.specs.RowReading.{Names}
use Rattle.edm_rows.specs.Alike.{AllAlike, AreAlike, alike_lists, alike_records, alike_same, no_members, one_member}
use Rattle.row_judges.proofs.RowLemmas.AlikeMeans.{EnvironmentsAlike, Follows, OutcomesAlike, alike_values, all_same, equal_member, means_follow, no_variables, one_variable, operand_follows, same_outcome, same_scope}
use Rattle.row_judges.proofs.RowLemmas.Faces.{ValuesAlike, call_cost_faced, comparison_cost_faced, moved, number_moved_two, number_of_all, operator_cost_faced, others_cost_faced, right_costs_faced}
use Rattle.row_judges.proofs.RowLemmas.NamesAlone.{NamesNone, TreesNameNone}

-- each cost of the one is one of the other
abbrev pub CostsFollow : (ℕ → Type 0) → (ℕ → Type 0) → Type 0
CostsFollow C D = (n : ℕ) → C n → D n

more_cost : (first : ℕ) (C D : ℕ → Type 0) → CostsFollow C D → CostsFollow (CostsMore first C) (CostsMore first D)
more_cost first C D goes n (more, costs, sum) = (more, goes more costs, sum)

others_follow : (quantifier : Quantifier) (C D : ℕ → Type 0) → CostsFollow C D → (v : Val) → CostsFollow (OthersCost quantifier C v) (OthersCost quantifier D v)
others_follow Quantifier.Any C D goes (boolean true) n is = is
others_follow Quantifier.Any C D goes _ n is = goes n is
others_follow Quantifier.All C D goes (boolean false) n is = is
others_follow Quantifier.All C D goes null n is = is
others_follow Quantifier.All C D goes _ n is = goes n is

right_follow : (operator : BinaryOperator) (C D : ℕ → Type 0) → CostsFollow C D → (v : Val) → CostsFollow (RightCosts operator v C) (RightCosts operator v D)
right_follow (BinaryOperator.Logical LogicalOperator.And) C D goes (boolean false) n is = is
right_follow (BinaryOperator.Logical LogicalOperator.And) C D goes _ n is = goes n is
right_follow (BinaryOperator.Logical LogicalOperator.Or) C D goes (boolean true) n is = is
right_follow (BinaryOperator.Logical LogicalOperator.Or) C D goes _ n is = goes n is
right_follow (BinaryOperator.Comparison comparison) C D goes v n is = goes n is
right_follow (BinaryOperator.Arithmetic arithmetic) C D goes v n is = goes n is

module _ (Passed : Names) where
  -- ---- one operand after another

  same_then : (G H : Val → ℕ → Type 0) → ((v w : Val) → AreAlike Passed v w → CostsFollow (G v) (H w)) → (first : Outcome) → CostsFollow (CostThen first G) (CostThen first H)
  same_then G H goes (gives v) n is = goes v v (alike_same v) n is
  same_then G H goes overflow n is = is
  same_then G H goes divides_by_zero n is = is

  then_cost : (G H : Val → ℕ → Type 0) → ((v w : Val) → AreAlike Passed v w → CostsFollow (G v) (H w)) → (first other : Outcome) → OutcomesAlike Passed first other → CostsFollow (CostThen first G) (CostThen other H)
  then_cost G H goes first other (alike_values v w alike) n is = goes v w alike n is
  then_cost G H goes first other (same_outcome q) n is = same_then G H goes q n is

  after_cost : (M N : Outcome → Type 0) (C D : ℕ → Type 0) (G H : Val → ℕ → Type 0) → Follows Passed M N → CostsFollow C D → ((v w : Val) → AreAlike Passed v w → CostsFollow (G v) (H w))
      → CostsFollow (CostAfter M C G) (CostAfter N D H)
  after_cost M N C D G H operand costs goes n given =
      let other = operand given.outcome given.is in
      record {
        outcome = other.0;
        is = other.1.0;
        own = given.own;
        costs = costs given.own given.costs;
        rest = given.rest;
        follows = then_cost G H goes given.outcome other.0 other.1.1 given.rest given.follows;
        sum = given.sum;
      }

  others_cost : (quantifier : Quantifier) (C D : ℕ → Type 0) → CostsFollow C D → (v w : Val) → AreAlike Passed v w → CostsFollow (OthersCost quantifier C v) (OthersCost quantifier D w)
  others_cost quantifier C D goes v w alike n is =
      others_follow quantifier C D goes w n (moved Passed (λ x. OthersCost quantifier C x n) (others_cost_faced quantifier C n) v w alike is)

  right_cost : (operator : BinaryOperator) (C D : ℕ → Type 0) → CostsFollow C D → (v w : Val) → AreAlike Passed v w → CostsFollow (RightCosts operator v C) (RightCosts operator w D)
  right_cost operator C D goes v w alike n is = right_follow operator C D goes w n (moved Passed (λ x. RightCosts operator x C n) (right_costs_faced operator C n) v w alike is)

  compared_cost : (l m : Val) → AreAlike Passed l m → (v w : Val) → AreAlike Passed v w → CostsFollow (CostsExactly (comparison_cost l v)) (CostsExactly (comparison_cost m w))
  compared_cost l m alike v w beside n is = is ∙ number_moved_two Passed comparison_cost comparison_cost_faced l m v w alike beside

  -- ---- members

  members_cost : (each : ℕ) (quantifier : Quantifier) (Body Other : Val → Outcome → Type 0) (BodyCosts OtherCosts : Val → ℕ → Type 0)
      → ((v w : Val) → AreAlike Passed v w → Follows Passed (Body v) (Other w)) → ((v w : Val) → AreAlike Passed v w → CostsFollow (BodyCosts v) (OtherCosts w))
      → (vs ws : Vals) → AllAlike Passed vs ws → CostsFollow (MembersCost each quantifier Body BodyCosts vs) (MembersCost each quantifier Other OtherCosts ws)
  members_cost each quantifier Body Other BodyCosts OtherCosts goes costs vs ws no_members n is = is
  members_cost each quantifier Body Other BodyCosts OtherCosts goes costs vs ws (one_member v w more others alike all) n is =
      more_cost each (CostAfter (Body v) (BodyCosts v) (OthersCost quantifier (MembersCost each quantifier Body BodyCosts more)))
      (CostAfter (Other w) (OtherCosts w) (OthersCost quantifier (MembersCost each quantifier Other OtherCosts others)))
      (after_cost (Body v) (Other w) (BodyCosts v) (OtherCosts w) (OthersCost quantifier (MembersCost each quantifier Body BodyCosts more))
      (OthersCost quantifier (MembersCost each quantifier Other OtherCosts others)) (goes v w alike) (costs v w alike)
      (others_cost quantifier (MembersCost each quantifier Body BodyCosts more) (MembersCost each quantifier Other OtherCosts others)
      (members_cost each quantifier Body Other BodyCosts OtherCosts goes costs more others all))) n is

  among_members : (each : ℕ) (l m : Val) → AreAlike Passed l m → (vs ws : Vals) → AllAlike Passed vs ws → CostsFollow (AmongCosts each l (items vs)) (AmongCosts each m (items ws))
  among_members each l m alike vs ws all n is =
      members_cost each Quantifier.Any (CompareGives ComparisonOperator.Eq l) (CompareGives ComparisonOperator.Eq m) (λ v. CostsExactly (comparison_cost l v)) (λ v. CostsExactly (comparison_cost m v))
      (equal_member Passed l m alike) (compared_cost l m alike) vs ws all n is

  among_same : (each : ℕ) (l m : Val) → AreAlike Passed l m → (v : Val) → CostsFollow (AmongCosts each l v) (AmongCosts each m v)
  among_same each l m alike null n is = is
  among_same each l m alike (items values) n is = among_members each l m alike values values (all_same Passed values) n is
  among_same each l m alike _ n is = absurd is

  among_cost : (each : ℕ) (l m : Val) → AreAlike Passed l m → (v w : Val) → AreAlike Passed v w → CostsFollow (AmongCosts each l v) (AmongCosts each m w)
  among_cost each l m alike v w (alike_same u) n is = among_same each l m alike u n is
  among_cost each l m alike v w (alike_records f g names) n is = absurd is
  among_cost each l m alike v w (alike_lists vs ws all) n is = among_members each l m alike vs ws all n is

  module _ (quantifier : Quantifier) (BaseTyped : ExprType → Type 0) (Body Other : ExprType → Val → Outcome → Type 0) (BodyCosts OtherCosts : ExprType → Val → ℕ → Type 0)
      (goes : (type : ExprType) (v w : Val) → AreAlike Passed v w → Follows Passed (Body type v) (Other type w))
      (costs : (type : ExprType) (v w : Val) → AreAlike Passed v w → CostsFollow (BodyCosts type v) (OtherCosts type w)) where
    over_members : (vs ws : Vals) → AllAlike Passed vs ws → CostsFollow (LambdaCosts quantifier BaseTyped Body BodyCosts (items vs)) (LambdaCosts quantifier BaseTyped Other OtherCosts (items ws))
    over_members vs ws all n (type, typed, members) =
        (type, typed, members_cost 1 quantifier (Body (single type)) (Other (single type)) (BodyCosts (single type)) (OtherCosts (single type)) (goes (single type)) (costs (single type)) vs ws all n members)

    over_same : (v : Val) → CostsFollow (LambdaCosts quantifier BaseTyped Body BodyCosts v) (LambdaCosts quantifier BaseTyped Other OtherCosts v)
    over_same null n is = is
    over_same (items values) n is = over_members values values (all_same Passed values) n is
    over_same _ n is = absurd is

    lambda_cost : (v w : Val) → AreAlike Passed v w → CostsFollow (LambdaCosts quantifier BaseTyped Body BodyCosts v) (LambdaCosts quantifier BaseTyped Other OtherCosts w)
    lambda_cost v w (alike_same u) n is = over_same u n is
    lambda_cost v w (alike_records f g each) n is = absurd is
    lambda_cost v w (alike_lists vs ws all) n is = over_members vs ws all n is

  same_item_cost : (environment other : Environment) → EnvironmentsAlike Passed environment other → item_cost environment ≡ item_cost other
  same_item_cost environment other no_variables = refl
  same_item_cost environment other (one_variable called type v w outer more alike all) = refl

  called_cost : (asked : List ℕ) (values others : List Val) → ValuesAlike Passed values others → CostsFollow (CallCosts asked values) (CallCosts asked others)
  called_cost asked values others alike n given = record {
    function = given.function;
    named = given.named;
    is = given.is ∙ number_of_all Passed (call_cost given.function) (call_cost_faced given.function) values others alike;
  }

  -- ---- trees

  module _ (slots : Slots) (root : List ℕ) (now : MomentParts) (e f : Val) (entities : AreAlike Passed e f) where
    -- a tree, with any variables around it
    abbrev TreeCosts : Tree → Type 0
    TreeCosts tree =
        (environment other : Environment) → EnvironmentsAlike Passed environment other → NamesNone Passed tree
        → CostsFollow (Costs slots root now e environment tree) (Costs slots root now f other tree)

    items_cost : (environment other : Environment) → EnvironmentsAlike Passed environment other → (OtherSide : ExprType → Type 0) (l m : Val) → AreAlike Passed l m → (listed : Trees) → AllTrees TreeCosts listed → TreesNameNone Passed listed
        → CostsFollow (ItemsCost slots root now e environment OtherSide l listed) (ItemsCost slots root now f other OtherSide m listed)
    items_cost environment other alike OtherSide l m both no_trees each none n is = is
    items_cost environment other alike OtherSide l m both (more_trees tree more) each none n is =
        let Before : ℕ → Type 0 = ItemsCost slots root now e environment OtherSide l more in
        let After : ℕ → Type 0 = ItemsCost slots root now f other OtherSide m more in
        let Compared : Val → ℕ → Type 0 = λ v. CostAfter (CompareGives ComparisonOperator.Eq l v) (CostsExactly (comparison_cost l v)) (OthersCost Quantifier.Any Before) in
        let Also : Val → ℕ → Type 0 = λ v. CostAfter (CompareGives ComparisonOperator.Eq m v) (CostsExactly (comparison_cost m v)) (OthersCost Quantifier.Any After) in
        subst (λ (k : ℕ). CostsMore k (CostAfter (ItemAlone slots root now f other OtherSide tree) (Costs slots root now f other tree) Also) n) (same_item_cost environment other alike)
        (more_cost (item_cost environment) (CostAfter (ItemAlone slots root now e environment OtherSide tree) (Costs slots root now e environment tree) Compared)
        (CostAfter (ItemAlone slots root now f other OtherSide tree) (Costs slots root now f other tree) Also)
        (after_cost (ItemAlone slots root now e environment OtherSide tree) (ItemAlone slots root now f other OtherSide tree) (Costs slots root now e environment tree) (Costs slots root now f other tree) Compared Also
        (operand_follows Passed (ReadsNumber slots OtherSide tree) (Means slots root now e environment tree) (Means slots root now f other tree)
        (means_follow Passed slots root now e f entities environment other alike tree none.0))
        (each.0 environment other alike none.0)
        (λ v w beside. after_cost (CompareGives ComparisonOperator.Eq l v) (CompareGives ComparisonOperator.Eq m w) (CostsExactly (comparison_cost l v)) (CostsExactly (comparison_cost m w))
        (OthersCost Quantifier.Any Before) (OthersCost Quantifier.Any After) (equal_member Passed l m both v w beside) (compared_cost l m both v w beside)
        (others_cost Quantifier.Any Before After (items_cost environment other alike OtherSide l m both more each.1 none.1)))) n is)

    arguments_cost : (environment other : Environment) → EnvironmentsAlike Passed environment other → (trees : Trees) (Goes Also : List Val → ℕ → Type 0) → AllTrees TreeCosts trees → TreesNameNone Passed trees
        → ((values others : List Val) → ValuesAlike Passed values others → CostsFollow (Goes values) (Also others))
        → CostsFollow (ArgumentsCost slots root now e environment trees Goes) (ArgumentsCost slots root now f other trees Also)
    arguments_cost environment other alike no_trees Goes Also each none goes n is = goes [] [] tt n is
    arguments_cost environment other alike (more_trees tree more) Goes Also each none goes n is =
        after_cost (Means slots root now e environment tree) (Means slots root now f other tree) (Costs slots root now e environment tree) (Costs slots root now f other tree)
        (λ v. ArgumentsCost slots root now e environment more (λ values. Goes (v ∷ values))) (λ w. ArgumentsCost slots root now f other more (λ values. Also (w ∷ values)))
        (means_follow Passed slots root now e f entities environment other alike tree none.0) (each.0 environment other alike none.0)
        (λ v w both. arguments_cost environment other alike more (λ values. Goes (v ∷ values)) (λ values. Also (w ∷ values)) each.1 none.1
        (λ values others beside. goes (v ∷ values) (w ∷ others) (both, beside))) n is

    mutual
      pub costs_follow : (environment other : Environment) → EnvironmentsAlike Passed environment other → (tree : Tree) → NamesNone Passed tree
          → CostsFollow (Costs slots root now e environment tree) (Costs slots root now f other tree)
      costs_follow environment other alike (node start stop (literal kind spelling)) none n is = is
      costs_follow environment other alike (node start stop it) none n is = is
      costs_follow environment other alike (node start stop (name word)) none n is = is
      costs_follow environment other alike (node start stop (member base word)) none n is = costs_follow environment other alike base none.1 n is
      costs_follow environment other alike (node start stop (count base)) none n is = costs_follow environment other alike base none n is
      costs_follow environment other alike (node start stop (negation operand)) none n is = costs_follow environment other alike operand none n is
      costs_follow environment other alike (node start stop (logical_not operand)) none n is = costs_follow environment other alike operand none n is
      costs_follow environment other alike (node start stop (any_item base)) none n is = costs_follow environment other alike base none n is
      costs_follow environment other alike (node start stop (binary operator left right)) none n is =
          let OperatorE : Val → Val → ℕ → Type 0 = λ l r. CostsExactly (operator_cost operator l r) in
          let AfterE : Val → ℕ → Type 0 = λ l. CostAfter (Means slots root now e environment right) (Costs slots root now e environment right) (OperatorE l) in
          let AfterF : Val → ℕ → Type 0 = λ l. CostAfter (Means slots root now f other right) (Costs slots root now f other right) (OperatorE l) in
          after_cost (Means slots root now e environment left) (Means slots root now f other left) (Costs slots root now e environment left) (Costs slots root now f other left)
          (λ l. RightCosts operator l (AfterE l)) (λ l. RightCosts operator l (AfterF l)) (means_follow Passed slots root now e f entities environment other alike left none.0)
          (costs_follow environment other alike left none.0)
          (λ v w both. right_cost operator (AfterE v) (AfterF w)
          (after_cost (Means slots root now e environment right) (Means slots root now f other right) (Costs slots root now e environment right) (Costs slots root now f other right) (OperatorE v) (OperatorE w)
          (means_follow Passed slots root now e f entities environment other alike right none.1) (costs_follow environment other alike right none.1)
          (λ x y beside k same. same ∙ number_moved_two Passed (operator_cost operator) (operator_cost_faced operator) v w x y both beside))
          v w both) n is
      costs_follow environment other alike (node start stop (has left right)) none n is =
          after_cost (Means slots root now e environment left) (Means slots root now f other left) (Costs slots root now e environment left) (Costs slots root now f other left)
          (λ l. Costs slots root now e environment right) (λ l. Costs slots root now f other right) (means_follow Passed slots root now e f entities environment other alike left none.0)
          (costs_follow environment other alike left none.0) (λ v w both. costs_follow environment other alike right none.1) n is
      costs_follow environment other alike (node start stop (in_path left path)) none n is =
          subst (λ (each : ℕ). CostAfter (Means slots root now f other left) (Costs slots root now f other left)
          (λ l. CostAfter (Means slots root now f other path) (Costs slots root now f other path) (AmongCosts each l)) n)
          (same_item_cost environment other alike)
          (after_cost (Means slots root now e environment left) (Means slots root now f other left) (Costs slots root now e environment left) (Costs slots root now f other left)
          (λ l. CostAfter (Means slots root now e environment path) (Costs slots root now e environment path) (AmongCosts (item_cost environment) l))
          (λ l. CostAfter (Means slots root now f other path) (Costs slots root now f other path) (AmongCosts (item_cost environment) l))
          (means_follow Passed slots root now e f entities environment other alike left none.0) (costs_follow environment other alike left none.0)
          (λ v w both. after_cost (Means slots root now e environment path) (Means slots root now f other path) (Costs slots root now e environment path) (Costs slots root now f other path)
          (AmongCosts (item_cost environment) v) (AmongCosts (item_cost environment) w) (means_follow Passed slots root now e f entities environment other alike path none.1)
          (costs_follow environment other alike path none.1) (among_cost (item_cost environment) v w both)) n is)
      costs_follow environment other alike (node start stop (in_list left listed)) none n is =
          subst (λ (s : Scope). CostAfter (Means slots root now f other left) (Costs slots root now f other left) (λ l. ItemsCost slots root now f other (Typed slots root s left) l listed) n)
          (same_scope Passed environment other alike)
          (let L : ExprType → Type 0 = Typed slots root (scope_of environment) left in
          after_cost (Means slots root now e environment left) (Means slots root now f other left) (Costs slots root now e environment left) (Costs slots root now f other left)
          (λ l. ItemsCost slots root now e environment L l listed) (λ l. ItemsCost slots root now f other L l listed)
          (means_follow Passed slots root now e f entities environment other alike left none.0) (costs_follow environment other alike left none.0)
          (λ v w both. items_cost environment other alike L v w both listed (trees_cost listed) none.1) n is)
      costs_follow environment other alike (node start stop (call asked arguments)) none n is =
          arguments_cost environment other alike arguments (CallCosts asked) (CallCosts asked) (trees_cost arguments) none (called_cost asked) n is
      costs_follow environment other alike (node start stop (lambda quantifier base variable body)) none n is =
          subst (λ (s : Scope). CostAfter (Means slots root now f other base) (Costs slots root now f other base)
          (LambdaCosts quantifier (Typed slots root s base) (λ type v. Means slots root now f (record { variable = record { name = variable; type_of = type }; value = v } ∷ other) body)
          (λ type v. Costs slots root now f (record { variable = record { name = variable; type_of = type }; value = v } ∷ other) body)) n)
          (same_scope Passed environment other alike)
          (let B : ExprType → Type 0 = Typed slots root (scope_of environment) base in
          let Body : ExprType → Val → Outcome → Type 0 = λ type v. Means slots root now e (record { variable = record { name = variable; type_of = type }; value = v } ∷ environment) body in
          let Other : ExprType → Val → Outcome → Type 0 = λ type v. Means slots root now f (record { variable = record { name = variable; type_of = type }; value = v } ∷ other) body in
          let BodyCosts : ExprType → Val → ℕ → Type 0 = λ type v. Costs slots root now e (record { variable = record { name = variable; type_of = type }; value = v } ∷ environment) body in
          let OtherCosts : ExprType → Val → ℕ → Type 0 = λ type v. Costs slots root now f (record { variable = record { name = variable; type_of = type }; value = v } ∷ other) body in
          after_cost (Means slots root now e environment base) (Means slots root now f other base) (Costs slots root now e environment base) (Costs slots root now f other base)
          (LambdaCosts quantifier B Body BodyCosts) (LambdaCosts quantifier B Other OtherCosts)
          (means_follow Passed slots root now e f entities environment other alike base none.0) (costs_follow environment other alike base none.0)
          (lambda_cost quantifier B Body Other BodyCosts OtherCosts
          (λ type v w both. means_follow Passed slots root now e f entities (record { variable = record { name = variable; type_of = type }; value = v } ∷ environment)
          (record { variable = record { name = variable; type_of = type }; value = w } ∷ other) (one_variable variable type v w environment other both alike) body none.1)
          (λ type v w both. costs_follow (record { variable = record { name = variable; type_of = type }; value = v } ∷ environment)
          (record { variable = record { name = variable; type_of = type }; value = w } ∷ other) (one_variable variable type v w environment other both alike) body none.1)) n is)

      trees_cost : (trees : Trees) → AllTrees TreeCosts trees
      trees_cost no_trees = tt
      trees_cost (more_trees tree more) = ((λ environment other alike none. costs_follow environment other alike tree none), trees_cost more)
