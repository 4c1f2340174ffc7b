-- A tree that has a type has exactly one cost.
use Rattle.std.proofs.Common.{◌≡◌, ◌∙◌, ℕ, List, [], ◌∷◌, Some, None, ap, refl, sym, subst}
use Rattle.serde_json.specs.Data.{Data}
use Rattle.edm_values.specs.MomentParts.{IsMoment, MomentParts}
use Rattle.edm_values.specs.Val.{Val, null, items, Vals, no_items, item}
use Rattle.csdl_schema.specs.ExpansionView.{paths_in}
use Rattle.csdl_schema.specs.ExprType.{ExprType, SingleType, collection, enumeration, single, structured}
use Rattle.csdl_schema.specs.PathSet.{PathSet}
use Rattle.csdl_schema.specs.SchemaModel.{Slots, expanded, slots_of, type_name_at}
use Rattle.edm_entities.specs.Fits.{Fits}
use Rattle.edm_entities.specs.HasType.{AllHaveType, HasType}
use Rattle.edm_entities.specs.Row.{value_of}
use Rattle.odata_syntax.specs.declared.binary_operator.ComparisonOperator.{ComparisonOperator}
use Rattle.odata_syntax.specs.Tree.{Tree, node, literal, it, name, count, negation, logical_not, binary, in_list, in_path, call, any_item, lambda, Trees, no_trees, more_trees}
use Rattle.odata_syntax.specs.Tree as tree
use Rattle.odata_syntax.specs.declared.node.Quantifier.{Quantifier}
use Rattle.odata_signatures.specs.CallTyped.{CallTyped}
use Rattle.odata_signatures.specs.declared.function.Function.{Function}
use Rattle.odata_signatures.specs.CollectionTyped.{IsComparableWithMembers}
use Rattle.odata_signatures.specs.ExprTypes.{boolean_type}
use Rattle.odata_signatures.specs.Typed.{AreTyped, Typed}
use Rattle.odata_filter_operations.specs.CompareGives.{CompareGives}
use Rattle.odata_filter_operations.specs.Outcome.{Outcome, gives}
use Rattle.odata_meaning.specs.Costs.{AmongCosts, ArgumentsCost, CostAfter, Costs, CostsExactly, ItemsCost, LambdaCosts, MembersCost, OthersCost, RightCosts, item_cost}
use Rattle.odata_meaning.specs.CostsOnce.{CostsOnceOnEntities}
use Rattle.odata_meaning.specs.EndsOnce.{IsOutcomeOf, TypedEndsOnce}
use Rattle.odata_meaning.specs.Environment.{Environment, IsFitting, bound_over, scope_of}
use Rattle.odata_meaning.specs.Means.{Means}
use Rattle.odata_meaning.specs.OneByOne.{ItemAlone}
use Rattle.odata_filter_operations.specs.TextCosts.{CallCosts, call_cost, comparison_cost, operator_cost}
use Rattle.odata_meaning.proofs.costs.Once.{EndsAlone, Once, after_once, exactly_once, more_once, nothing_once, others_once, right_once}
use Rattle.odata_meaning.proofs.meaning.AllTrees.{AllTrees, AllTyped}
use Rattle.odata_meaning.proofs.meaning.CompareEnds.{compare_ends}
use Rattle.odata_meaning.proofs.meaning.Ends.{Ends}
use Rattle.odata_meaning.proofs.meaning.FormsEnd.{ItemEnds}
use Rattle.odata_meaning.specs.private.LawsBelow.{OneEach, SomeEach}
use Rattle.odata_meaning.proofs.meaning.OneLeaf.{CompareGives-one}
use Rattle.odata_meaning.proofs.meaning.OneMeaning.{items_one}
use Rattle.odata_meaning.proofs.meaning.OneStep.{AtMostOne}
use Rattle.odata_meaning.proofs.meaning.Progress.{ReadsHave, items_end}

-- a number that is read is of its enumeration
reads_have : (slots : Slots) → ReadsHave slots slots
reads_have slots (single (enumeration of)) (Some spelling) n number = number.within
reads_have slots (single (enumeration of)) None n number = absurd number
reads_have slots _ quoted n number = absurd number

members_once : (each : ℕ) (quantifier : Quantifier) (Body : Val → Outcome → Type 0) (BodyCosts : Val → ℕ → Type 0) (slots : Slots) (m : SingleType)
    → ((v : Val) → HasType slots (single m) v → EndsAlone (Body v)) → ((v : Val) → HasType slots (single m) v → Once (BodyCosts v))
    → (values : Vals) → AllHaveType slots m values → Once (MembersCost each quantifier Body BodyCosts values)
members_once each quantifier Body BodyCosts slots m ends once no_items all = nothing_once
members_once each quantifier Body BodyCosts slots m ends once (item v more) all =
    more_once each _
    (after_once (Body v) (BodyCosts v) (OthersCost quantifier (MembersCost each quantifier Body BodyCosts more)) (ends v all.0) (once v all.0)
    (λ w is. others_once quantifier (MembersCost each quantifier Body BodyCosts more) w (members_once each quantifier Body BodyCosts slots m ends once more all.1)))

-- members compared with a value of a type that is compared with theirs
compared_once : OneEach → SomeEach → (slots : Slots) (left : ExprType) (m : SingleType) (l v : Val) → IsComparableWithMembers left (collection m) → HasType slots left l → HasType slots (single m) v
    → EndsAlone (CompareGives ComparisonOperator.Eq l v)
compared_once one some slots left m l v alike of_l of_v =
    let end = compare_ends some slots ComparisonOperator.Eq left (single m) boolean_type l v (alike, refl) of_l of_v in
    record { outcome = end.0; is = end.1.0; only = λ other is. CompareGives-one ComparisonOperator.Eq l v other end.0 is end.1.0 }

among_once : OneEach → SomeEach → (slots : Slots) (each : ℕ) (left path : ExprType) (l v : Val) → IsComparableWithMembers left path → HasType slots left l → HasType slots path v → Once (AmongCosts each l v)
among_once one some slots each left (collection m) l null alike of_l of_v = nothing_once
among_once one some slots each left (collection m) l (items values) alike of_l of_v =
    members_once each Quantifier.Any (CompareGives ComparisonOperator.Eq l) (λ v. CostsExactly (comparison_cost l v)) slots m (λ v of_v. compared_once one some slots left m l v alike of_l of_v)
    (λ v of_v. exactly_once (comparison_cost l v)) values of_v
among_once one some slots each left (collection m) l _ alike of_l of_v = absurd of_v
among_once one some slots each left _ l v alike of_l of_v = absurd alike

-- the type of a collection's members is one
over_once : (quantifier : Quantifier) (BaseTyped : ExprType → Type 0) (Body : ExprType → Val → Outcome → Type 0) (BodyCosts : ExprType → Val → ℕ → Type 0) (slots : Slots) (m : SingleType)
    → BaseTyped (collection m) → ((s t : ExprType) → BaseTyped s → BaseTyped t → s ≡ t) → (v : Val) → HasType slots (collection m) v
    → ((values : Vals) → AllHaveType slots m values → Once (MembersCost 1 quantifier (Body (single m)) (BodyCosts (single m)) values))
    → Once (LambdaCosts quantifier BaseTyped Body BodyCosts v)
over_once quantifier BaseTyped Body BodyCosts slots m over one null has members = nothing_once
over_once quantifier BaseTyped Body BodyCosts slots m over one (items values) has members =
    let once = members values has in
    record {
      number = once.number;
      is = (m, over, once.is);
      only = λ other costs.
          let kinds : collection costs.0 ≡ collection m = one (collection costs.0) (collection m) costs.1 over in
          let same : costs.0 ≡ m = cc in
          once.only other (subst (λ (s : SingleType). MembersCost 1 quantifier (Body (single s)) (BodyCosts (single s)) values other) same costs.2);
    }
over_once quantifier BaseTyped Body BodyCosts slots m over one _ has members = absurd has

-- no two functions have one name
call_once : OneEach → (asked : List ℕ) (types : List ExprType) (type : ExprType) → CallTyped asked types type → (values : List Val) → Once (CallCosts asked values)
call_once one asked types type called values = record {
  number = call_cost called.function values;
  is = record { function = called.function; named = called.named; is = refl };
  only = λ other costs.
      let same : costs.function ≡ called.function = one.names costs.function called.function asked costs.named called.named in
      costs.is ∙ ap (λ (f : Function). call_cost f values) same;
}

module _ (one : OneEach) (some : SomeEach) (all_end : TypedEndsOnce) (slots : Slots) (root : List ℕ) (now : MomentParts) (entity : Val)
    (is_moment : IsMoment now.civil now.offset_minutes) (conforms : HasType slots (single (structured root)) entity) where
  ends : (environment : Environment) → IsFitting slots environment → (tree : Tree) (type : ExprType) → Typed slots root (scope_of environment) tree type
      → EndsAlone (Means slots root now entity environment tree)
  ends environment fitting tree type typed =
      let end = all_end slots root now entity environment tree type is_moment conforms fitting typed in
      record { outcome = end.outcome; is = end.related; only = end.only }

  -- a value that it evaluates to is of its type
  value_typed : (environment : Environment) → IsFitting slots environment → (tree : Tree) (type : ExprType) → Typed slots root (scope_of environment) tree type
      → (v : Val) → Means slots root now entity environment tree (gives v) → HasType slots type v
  value_typed environment fitting tree type typed v means =
      let end = all_end slots root now entity environment tree type is_moment conforms fitting typed in
      subst (λ (o : Outcome). IsOutcomeOf slots type o) (sym (end.only (gives v) means)) end.of_type

  -- an item, and its value compared with the left value
  item_alone : (environment : Environment) (OtherSide : ExprType → Type 0) (left : ExprType) (listed_item : Tree)
      → AtMostOne (ItemAlone slots root now entity environment OtherSide listed_item) → ItemEnds slots left (ItemAlone slots root now entity environment OtherSide listed_item)
      → EndsAlone (ItemAlone slots root now entity environment OtherSide listed_item)
  item_alone environment OtherSide left listed_item alone ends_so =
      let end = ends_so.2 in
      record { outcome = end.0; is = end.1.0; only = λ other is. alone other end.0 is end.1.0 }

  item_compared : (environment : Environment) (OtherSide : ExprType → Type 0) (left : ExprType) (l w : Val) (listed_item : Tree) → HasType slots left l
      → AtMostOne (ItemAlone slots root now entity environment OtherSide listed_item) → ItemEnds slots left (ItemAlone slots root now entity environment OtherSide listed_item)
      → ItemAlone slots root now entity environment OtherSide listed_item (gives w) → EndsAlone (CompareGives ComparisonOperator.Eq l w)
  item_compared environment OtherSide left l w listed_item of_l alone ends_so is =
      let item = ends_so.2 in
      let of_w : HasType slots ends_so.0 w = subst (λ (o : Outcome). IsOutcomeOf slots ends_so.0 o) (alone item.0 (gives w) item.1.0 is) item.1.1 in
      let end = compare_ends some slots ComparisonOperator.Eq left ends_so.0 boolean_type l w (ends_so.1, refl) of_l of_w in
      record { outcome = end.0; is = end.1.0; only = λ other compares. CompareGives-one ComparisonOperator.Eq l w other end.0 compares end.1.0 }

  items_once : (environment : Environment) (OtherSide : ExprType → Type 0) (left : ExprType) (l : Val) (listed : Trees) → HasType slots left l
      → AllTrees (λ t. AtMostOne (ItemAlone slots root now entity environment OtherSide t)) listed
      → AllTrees (λ t. ItemEnds slots left (ItemAlone slots root now entity environment OtherSide t)) listed
      → AllTrees (λ t. Once (Costs slots root now entity environment t)) listed
      → Once (ItemsCost slots root now entity environment OtherSide l listed)
  items_once environment OtherSide left l no_trees of_l alone ends_so once = nothing_once
  items_once environment OtherSide left l (more_trees listed_item more) of_l alone ends_so once =
      let Others : ℕ → Type 0 = ItemsCost slots root now entity environment OtherSide l more in
      more_once (item_cost environment) _
      (after_once (ItemAlone slots root now entity environment OtherSide listed_item) (Costs slots root now entity environment listed_item)
      (λ v. CostAfter (CompareGives ComparisonOperator.Eq l v) (CostsExactly (comparison_cost l v)) (OthersCost Quantifier.Any Others))
      (item_alone environment OtherSide left listed_item alone.0 ends_so.0) once.0
      (λ w is.
      after_once (CompareGives ComparisonOperator.Eq l w) (CostsExactly (comparison_cost l w)) (OthersCost Quantifier.Any Others)
      (item_compared environment OtherSide left l w listed_item of_l alone.0 ends_so.0 is) (exactly_once (comparison_cost l w))
      (λ truth told. others_once Quantifier.Any Others truth (items_once environment OtherSide left l more of_l alone.1 ends_so.1 once.1))))

  all_end_so : (environment : Environment) → IsFitting slots environment → (trees : Trees) (types : List ExprType) → AreTyped slots root (scope_of environment) trees types
      → AllTyped (λ t type. Ends slots type (Means slots root now entity environment t)) trees types
  all_end_so environment fitting no_trees [] typed = tt
  all_end_so environment fitting (more_trees tree more) (type ∷ types) typed =
      let end = all_end slots root now entity environment tree type is_moment conforms fitting typed.0 in
      ((end.outcome, (end.related, end.of_type)), all_end_so environment fitting more types typed.1)
  all_end_so environment fitting _ _ typed = absurd typed

  -- arguments one after another, and what follows their values
  arguments_once : (environment : Environment) → IsFitting slots environment → (trees : Trees) (types : List ExprType) → AreTyped slots root (scope_of environment) trees types
      → AllTrees (λ t. Once (Costs slots root now entity environment t)) trees → (Goes : List Val → ℕ → Type 0) → ((values : List Val) → Once (Goes values))
      → Once (ArgumentsCost slots root now entity environment trees Goes)
  arguments_once environment fitting no_trees [] typed each Goes once = once []
  arguments_once environment fitting (more_trees tree more) (type ∷ types) typed each Goes once =
      after_once (Means slots root now entity environment tree) (Costs slots root now entity environment tree)
      (λ v. ArgumentsCost slots root now entity environment more (λ values. Goes (v ∷ values)))
      (ends environment fitting tree type typed.0) each.0
      (λ v is. arguments_once environment fitting more types typed.1 each.1 (λ values. Goes (v ∷ values)) (λ values. once (v ∷ values)))
  arguments_once environment fitting _ _ typed each Goes once = absurd typed

  mutual
    pub tree_once : (environment : Environment) → IsFitting slots environment → (tree : Tree) (type : ExprType) → Typed slots root (scope_of environment) tree type
        → Once (Costs slots root now entity environment tree)
    tree_once environment fitting (node start stop (literal kind spelling)) type typed = nothing_once
    tree_once environment fitting (node start stop it) type typed = nothing_once
    tree_once environment fitting (node start stop (name asked)) type typed = nothing_once
    tree_once environment fitting (node start stop (tree.member base asked)) type typed = tree_once environment fitting base typed.operand typed.operand_typed
    tree_once environment fitting (node start stop (count base)) type typed = tree_once environment fitting base typed.operand typed.operand_typed
    tree_once environment fitting (node start stop (negation operand)) type typed = tree_once environment fitting operand typed.operand typed.operand_typed
    tree_once environment fitting (node start stop (logical_not operand)) type typed = tree_once environment fitting operand typed.operand typed.operand_typed
    tree_once environment fitting (node start stop (any_item base)) type typed = tree_once environment fitting base typed.operand typed.operand_typed
    tree_once environment fitting (node start stop (binary operator left right)) type typed =
        after_once (Means slots root now entity environment left) (Costs slots root now entity environment left)
        (λ l. RightCosts operator l (CostAfter (Means slots root now entity environment right) (Costs slots root now entity environment right) (λ r. CostsExactly (operator_cost operator l r))))
        (ends environment fitting left typed.left typed.left_typed) (tree_once environment fitting left typed.left typed.left_typed)
        (λ l is. right_once operator l (CostAfter (Means slots root now entity environment right) (Costs slots root now entity environment right) (λ r. CostsExactly (operator_cost operator l r)))
        (after_once (Means slots root now entity environment right) (Costs slots root now entity environment right) (λ r. CostsExactly (operator_cost operator l r))
        (ends environment fitting right typed.right typed.right_typed) (tree_once environment fitting right typed.right typed.right_typed)
        (λ r of_right. exactly_once (operator_cost operator l r))))
    tree_once environment fitting (node start stop (tree.has left right)) type typed =
        after_once (Means slots root now entity environment left) (Costs slots root now entity environment left) (λ l. Costs slots root now entity environment right)
        (ends environment fitting left typed.left typed.left_typed) (tree_once environment fitting left typed.left typed.left_typed)
        (λ l is. tree_once environment fitting right typed.right typed.right_typed)
    tree_once environment fitting (node start stop (in_path left path)) type typed =
        after_once (Means slots root now entity environment left) (Costs slots root now entity environment left)
        (λ l. CostAfter (Means slots root now entity environment path) (Costs slots root now entity environment path) (AmongCosts (item_cost environment) l))
        (ends environment fitting left typed.left typed.left_typed) (tree_once environment fitting left typed.left typed.left_typed)
        (λ l is.
        after_once (Means slots root now entity environment path) (Costs slots root now entity environment path) (AmongCosts (item_cost environment) l)
        (ends environment fitting path typed.right typed.right_typed) (tree_once environment fitting path typed.right typed.right_typed)
        (λ v of_path. among_once one some slots (item_cost environment) typed.left typed.right l v typed.makes.0 (value_typed environment fitting left typed.left typed.left_typed l is)
        (value_typed environment fitting path typed.right typed.right_typed v of_path)))
    tree_once environment fitting (node start stop (in_list left listed)) type typed =
        let OtherSide : ExprType → Type 0 = Typed slots root (scope_of environment) left in
        after_once (Means slots root now entity environment left) (Costs slots root now entity environment left)
        (λ l. ItemsCost slots root now entity environment OtherSide l listed)
        (ends environment fitting left typed.left typed.left_typed) (tree_once environment fitting left typed.left typed.left_typed)
        (λ l is. items_once environment OtherSide typed.left l listed (value_typed environment fitting left typed.left typed.left_typed l is)
        (items_one one slots root now entity environment left listed)
        (items_end some slots slots (reads_have slots) root now entity environment left typed.left typed.left_typed listed typed.items typed.items_typed typed.makes.1
        (all_end_so environment fitting listed typed.items typed.items_typed))
        (trees_once environment fitting listed typed.items typed.items_typed))
    tree_once environment fitting (node start stop (call asked arguments)) type typed =
        arguments_once environment fitting arguments typed.types typed.arguments_typed (trees_once environment fitting arguments typed.types typed.arguments_typed) (CallCosts asked)
        (call_once one asked typed.types type typed.call_typed)
    tree_once environment fitting (node start stop (lambda quantifier base variable body)) type typed =
        let BaseTyped : ExprType → Type 0 = Typed slots root (scope_of environment) base in
        let Body : ExprType → Val → Outcome → Type 0 = λ t v. Means slots root now entity (bound_over environment variable t v) body in
        let BodyCosts : ExprType → Val → ℕ → Type 0 = λ t v. Costs slots root now entity (bound_over environment variable t v) body in
        let m = typed.member_type in
        after_once (Means slots root now entity environment base) (Costs slots root now entity environment base) (LambdaCosts quantifier BaseTyped Body BodyCosts)
        (ends environment fitting base (collection m) typed.binds.over) (tree_once environment fitting base (collection m) typed.binds.over)
        (λ v is. over_once quantifier BaseTyped Body BodyCosts slots m typed.binds.over (λ s t p q. one.types slots root (scope_of environment) base s t p q) v
        (value_typed environment fitting base (collection m) typed.binds.over v is)
        (λ values all. members_once 1 quantifier (Body (single m)) (BodyCosts (single m)) slots m
        (λ w of_w. ends (bound_over environment variable (single m) w) (of_w, fitting) body typed.body typed.body_typed)
        (λ w of_w. tree_once (bound_over environment variable (single m) w) (of_w, fitting) body typed.body typed.body_typed) values all))

    trees_once : (environment : Environment) → IsFitting slots environment → (trees : Trees) (types : List ExprType) → AreTyped slots root (scope_of environment) trees types
        → AllTrees (λ t. Once (Costs slots root now entity environment t)) trees
    trees_once environment fitting no_trees [] typed = tt
    trees_once environment fitting (more_trees tree more) (type ∷ types) typed = (tree_once environment fitting tree type typed.0, trees_once environment fitting more types typed.1)
    trees_once environment fitting _ _ typed = absurd typed

-- so on entities
pub costs_once_on_entities : OneEach → SomeEach → TypedEndsOnce
    → ((slots : Slots) (expansion : PathSet) (type_name : List ℕ) (json : Data) (v : Val) → Fits (expanded slots expansion) type_name json v → HasType slots (single (structured type_name)) v)
    → CostsOnceOnEntities
costs_once_on_entities one some all_end fits row now environment tree type is_moment entity fitting typed =
    let root = type_name_at row.schema row.type_id in
    let once = tree_once one some all_end (slots_of row.schema) root now (value_of row) is_moment
    (fits (slots_of row.schema) (paths_in row.expansion) root entity.conforms.0 (value_of row) entity.conforms.1) environment fitting tree type typed in
    record { cost = once.number; related = once.is; only = once.only }
