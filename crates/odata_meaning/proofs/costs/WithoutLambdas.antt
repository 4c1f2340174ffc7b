-- A tree without lambda operators costs nothing on texts below a KiB.
use Rattle.std.proofs.Common.{◌≡◌, ◌<◌, ◌+◌, ◌*◌, ◌/◌, ◌∙◌, ℕ, suc, List, [], ◌∷◌, inl, inr, max, refl, arith}
use Rattle.std.specs.Prelude.{Contains}
use Rattle.edm_values.specs.MomentParts.{MomentParts}
use Rattle.edm_values.specs.Val as val
use Rattle.edm_values.specs.Val.{Val, null, items, Vals, no_items, item, text}
use Rattle.csdl_schema.specs.SchemaModel.{Slots}
use Rattle.odata_syntax.specs.declared.binary_operator.ComparisonOperator.{ComparisonOperator}
use Rattle.odata_syntax.specs.Spans.{children_of, in_child, is_root, list_of_trees}
use Rattle.odata_syntax.specs.declared.binary_operator.BinaryOperator.{BinaryOperator}
use Rattle.csdl_schema.specs.ExprType.{ExprType}
use Rattle.odata_syntax.specs.Tree.{Tree, shape_of, node, literal, it, name, count, negation, logical_not, binary, in_list, in_path, call, any_item, lambda, Trees, no_trees, more_trees}
use Rattle.odata_syntax.specs.Tree as tree
use Rattle.odata_syntax.specs.declared.node.Quantifier.{Quantifier}
use Rattle.odata_checked_filter.specs.LambdaDepth.{lambda_depth, lambda_depth_among}
use Rattle.odata_signatures.specs.Typed.{Typed}
use Rattle.odata_filter_operations.specs.CompareGives.{CompareGives}
use Rattle.odata_filter_operations.specs.Outcome.{gives}
use Rattle.odata_meaning.specs.Costs.{AmongCosts, ArgumentsCost, CostAfter, Costs, CostsExactly, ItemsCost, MembersCost, OthersCost, RightCosts}
use Rattle.odata_meaning.specs.CostsOnce.{AreValues, CostsNothingWithoutLambdas, HasShortTexts}
use Rattle.odata_meaning.specs.Means.{Means}
use Rattle.odata_meaning.specs.OneByOne.{ItemAlone}
use Rattle.odata_filter_operations.specs.TextCosts.{AreShort, CallCosts, IsShort, comparison_cost, made_length, operator_cost, text_cost, texts_cost}
use Rattle.odata_meaning.proofs.meaning.AllTrees.{AllTrees}
use Rattle.odata_meaning.proofs.costs.Zero.{IsFree, after_free, after_nothing, exactly_nothing, others_free, right_free}

left_none : (a b : ℕ) → max a b ≡ 0 → a ≡ 0
left_none a b is = grind (arith, is)

right_none : (a b : ℕ) → max a b ≡ 0 → b ≡ 0
right_none a b is = grind (arith, is)

one_more : (a : ℕ) → a + 1 ≡ 0 → ⊥
one_more a is = omega (arith, is)

gives_one : (v w : Val) → gives v ≡ gives w → v ≡ w
gives_one v w same = cc

-- comparisons of values without long texts
short_text : (v : Val) → IsShort v → text_cost v ≡ 0
short_text (items values) short = refl
short_text _ short = short

sum_none : (a b : ℕ) → a ≡ 0 → b ≡ 0 → a + b ≡ 0
sum_none a b first second = omega (arith, first, second)

compared_none : (l v : Val) → text_cost l ≡ 0 → text_cost v ≡ 0 → comparison_cost l v ≡ 0
compared_none (text s) (text t) none also = sum_none (text_cost (text s)) (text_cost (text t)) none also
compared_none (text s) _ none also = refl
compared_none _ _ none also = refl

operator_none : (operator : BinaryOperator) (l r : Val) → text_cost l ≡ 0 → text_cost r ≡ 0 → operator_cost operator l r ≡ 0
operator_none (BinaryOperator.Comparison comparison) l r none also = compared_none l r none also
operator_none (BinaryOperator.Logical logical) l r none also = refl
operator_none (BinaryOperator.Arithmetic arithmetic) l r none also = refl

whole_none : (n : ℕ) → n < 1024 → n / 1024 ≡ 0
whole_none n below = omega (arith, below)

made_none : (taken whole : ℕ) → taken ≡ 0 → whole ≡ 0 → 8 * taken + 16 * whole ≡ 0
made_none taken whole first second = omega (arith, first, second)

-- members that are compared outside of bodies
members_free : (l : Val) (values : Vals) → text_cost l ≡ 0 → AreShort values
    → IsFree (MembersCost 0 Quantifier.Any (CompareGives ComparisonOperator.Eq l) (λ v. CostsExactly (comparison_cost l v)) values)
members_free l no_items short all = λ n is. is
members_free l (item v more) short all = λ n is.
    let Others : ℕ → Type 0 = MembersCost 0 Quantifier.Any (CompareGives ComparisonOperator.Eq l) (λ v. CostsExactly (comparison_cost l v)) more in
    let first : is.0 ≡ 0 = after_free (CompareGives ComparisonOperator.Eq l v) (CostsExactly (comparison_cost l v)) (OthersCost Quantifier.Any Others)
    (exactly_nothing (comparison_cost l v) (compared_none l v short all.0)) (λ w. others_free Quantifier.Any Others w (members_free l more short all.1)) is.0 is.1 in
    let sum : n ≡ 0 + is.0 = is.2 in
    omega (arith, sum, first)

pub among_free : (l v : Val) → text_cost l ≡ 0 → IsShort v → IsFree (AmongCosts 0 l v)
among_free l null short all = λ n is. is
among_free l (items values) short all = members_free l values short all
among_free l _ short all = λ n is. absurd is

-- a child among children
one_there : (tree : Tree) (more : List Tree) → Contains (tree ∷ more) tree
one_there tree more = (0, omega arith, refl)

other_there : (first tree : Tree) (more : List Tree) → Contains more tree → Contains (first ∷ more) tree
other_there first tree more there = (suc there.0, (let within = there.1 in omega (arith, within)), there.2)

module _ (slots : Slots) (root : List ℕ) (now : MomentParts) (entity : Val) where
  abbrev Short : Tree → Type 0
  Short = HasShortTexts slots root now entity

  -- all of these are short
  abbrev AllShort : Trees → Type 0
  AllShort trees = (tree : Tree) → Contains (list_of_trees trees) tree → Short tree

  below : (tree child : Tree) → Contains (children_of (shape_of tree)) child → Short tree → Short child
  below tree child there short = λ part within. short part (in_child there within)

  itself : (tree : Tree) → Short tree → (v : Val) → Means slots root now entity [] tree (gives v) → text_cost v ≡ 0
  itself tree short v means = short_text v ((short tree is_root).0 v means)

  values_none : (arguments : Trees) (values : List Val) → AreValues slots root now entity arguments values → AllShort arguments → texts_cost values ≡ 0
  values_none no_trees [] are short = refl
  values_none (more_trees tree more) (v ∷ values) are short =
      sum_none (text_cost v) (texts_cost values) (itself tree (short tree (one_there tree (list_of_trees more))) v are.0)
      (values_none more values are.1 (λ other there. short other (other_there tree other (list_of_trees more) there)))
  values_none no_trees (v ∷ values) are short = absurd are
  values_none (more_trees tree more) [] are short = absurd are

  call_none : (start stop : ℕ) (asked : List ℕ) (arguments : Trees) → Short (node start stop (call asked arguments)) → (values : List Val) → AreValues slots root now entity arguments values
      → IsFree (CallCosts asked values)
  call_none start stop asked arguments short values are n costs =
      let whole = node start stop (call asked arguments) in
      let made = (short whole is_root).1 costs.function values costs.named are in
      costs.is ∙ made_none (texts_cost values) (made_length costs.function values / 1024)
      (values_none arguments values are (λ tree there. below whole tree there short))
      (whole_none (made_length costs.function values) made)

  -- the value of an item
  item_none : (OtherSide : ExprType → Type 0) (tree : Tree) → Short tree → (v : Val) → ItemAlone slots root now entity [] OtherSide tree (gives v) → text_cost v ≡ 0
  item_none OtherSide tree short v (inl read) = let is : v ≡ val.member read.0 = gives_one v (val.member read.0) read.2 in rw is refl
  item_none OtherSide tree short v (inr alone) = itself tree short v alone.1

  -- arguments one after another, and what follows their values
  arguments_free : (arguments : Trees) → AllTrees (λ t. IsFree (Costs slots root now entity [] t)) arguments → (Goes : List Val → ℕ → Type 0)
      → ((values : List Val) → AreValues slots root now entity arguments values → IsFree (Goes values)) → IsFree (ArgumentsCost slots root now entity [] arguments Goes)
  arguments_free no_trees each Goes goes = goes [] tt
  arguments_free (more_trees tree more) each Goes goes =
      after_nothing (Means slots root now entity [] tree) (Costs slots root now entity [] tree)
      (λ v. ArgumentsCost slots root now entity [] more (λ values. Goes (v ∷ values))) each.0
      (λ v is. arguments_free more each.1 (λ values. Goes (v ∷ values)) (λ values are. goes (v ∷ values) (is, are)))

  mutual
    pub free_without : (tree : Tree) → lambda_depth tree ≡ 0 → Short tree → IsFree (Costs slots root now entity [] tree)
    free_without (node start stop (literal kind spelling)) none short = λ n is. is
    free_without (node start stop it) none short = λ n is. is
    free_without (node start stop (name asked)) none short = λ n is. is
    free_without (node start stop (tree.member base asked)) none short = free_without base none (below (node start stop (tree.member base asked)) base (one_there base []) short)
    free_without (node start stop (count base)) none short = free_without base none (below (node start stop (count base)) base (one_there base []) short)
    free_without (node start stop (negation operand)) none short = free_without operand none (below (node start stop (negation operand)) operand (one_there operand []) short)
    free_without (node start stop (logical_not operand)) none short = free_without operand none (below (node start stop (logical_not operand)) operand (one_there operand []) short)
    free_without (node start stop (any_item base)) none short = free_without base none (below (node start stop (any_item base)) base (one_there base []) short)
    free_without (node start stop (binary operator left right)) none short =
        let of_left = below (node start stop (binary operator left right)) left (one_there left (right ∷ [])) short in
        let of_right = below (node start stop (binary operator left right)) right (other_there left right (right ∷ []) (one_there right [])) short in
        let Right : Val → ℕ → Type 0 = λ l. CostAfter (Means slots root now entity [] right) (Costs slots root now entity [] right) (λ r. CostsExactly (operator_cost operator l r)) in
        after_nothing (Means slots root now entity [] left) (Costs slots root now entity [] left) (λ l. RightCosts operator l (Right l))
        (free_without left (left_none (lambda_depth left) (lambda_depth right) none) of_left)
        (λ l is.
        right_free operator l (Right l)
        (after_nothing (Means slots root now entity [] right) (Costs slots root now entity [] right) (λ r. CostsExactly (operator_cost operator l r))
        (free_without right (right_none (lambda_depth left) (lambda_depth right) none) of_right)
        (λ r so. exactly_nothing (operator_cost operator l r) (operator_none operator l r (itself left of_left l is) (itself right of_right r so)))))
    free_without (node start stop (tree.has left right)) none short =
        let of_left = below (node start stop (tree.has left right)) left (one_there left (right ∷ [])) short in
        let of_right = below (node start stop (tree.has left right)) right (other_there left right (right ∷ []) (one_there right [])) short in
        after_free (Means slots root now entity [] left) (Costs slots root now entity [] left) (λ l. Costs slots root now entity [] right)
        (free_without left (left_none (lambda_depth left) (lambda_depth right) none) of_left) (λ l. free_without right (right_none (lambda_depth left) (lambda_depth right) none) of_right)
    free_without (node start stop (in_path left path)) none short =
        let of_left = below (node start stop (in_path left path)) left (one_there left (path ∷ [])) short in
        let of_path = below (node start stop (in_path left path)) path (other_there left path (path ∷ []) (one_there path [])) short in
        after_nothing (Means slots root now entity [] left) (Costs slots root now entity [] left)
        (λ l. CostAfter (Means slots root now entity [] path) (Costs slots root now entity [] path) (AmongCosts 0 l))
        (free_without left (left_none (lambda_depth left) (lambda_depth path) none) of_left)
        (λ l is.
        after_nothing (Means slots root now entity [] path) (Costs slots root now entity [] path) (AmongCosts 0 l)
        (free_without path (right_none (lambda_depth left) (lambda_depth path) none) of_path) (λ v so. among_free l v (itself left of_left l is) ((of_path path is_root).0 v so)))
    free_without (node start stop (in_list left listed)) none short =
        let of_left = below (node start stop (in_list left listed)) left (one_there left (list_of_trees listed)) short in
        after_nothing (Means slots root now entity [] left) (Costs slots root now entity [] left) (λ l. ItemsCost slots root now entity [] (Typed slots root [] left) l listed)
        (free_without left (left_none (lambda_depth left) (lambda_depth_among listed) none) of_left)
        (λ l is.
        items_without left l listed (itself left of_left l is) (right_none (lambda_depth left) (lambda_depth_among listed) none)
        (λ tree there. below (node start stop (in_list left listed)) tree (other_there left tree (list_of_trees listed) there) short))
    free_without (node start stop (call asked arguments)) none short =
        arguments_free arguments (trees_without arguments none (λ tree there. below (node start stop (call asked arguments)) tree there short)) (CallCosts asked)
        (call_none start stop asked arguments short)
    free_without (node start stop (lambda quantifier base variable body)) none short = absurd (one_more (max (lambda_depth base) (lambda_depth body)) none)

    items_without : (left : Tree) (l : Val) (listed : Trees) → text_cost l ≡ 0 → lambda_depth_among listed ≡ 0 → AllShort listed
        → IsFree (ItemsCost slots root now entity [] (Typed slots root [] left) l listed)
    items_without left l no_trees of_l none short = λ n is. is
    items_without left l (more_trees tree more) of_l none short = λ n is.
        let Others : ℕ → Type 0 = ItemsCost slots root now entity [] (Typed slots root [] left) l more in
        let others = items_without left l more of_l (right_none (lambda_depth tree) (lambda_depth_among more) none) (λ other there. short other (other_there tree other (list_of_trees more) there)) in
        let of_tree = short tree (one_there tree (list_of_trees more)) in
        let first : is.0 ≡ 0 = after_nothing (ItemAlone slots root now entity [] (Typed slots root [] left) tree) (Costs slots root now entity [] tree)
        (λ v. CostAfter (CompareGives ComparisonOperator.Eq l v) (CostsExactly (comparison_cost l v)) (OthersCost Quantifier.Any Others))
        (free_without tree (left_none (lambda_depth tree) (lambda_depth_among more) none) of_tree)
        (λ v so.
        after_free (CompareGives ComparisonOperator.Eq l v) (CostsExactly (comparison_cost l v)) (OthersCost Quantifier.Any Others)
        (exactly_nothing (comparison_cost l v) (compared_none l v of_l (item_none (Typed slots root [] left) tree of_tree v so))) (λ truth. others_free Quantifier.Any Others truth others))
        is.0 is.1 in
        let sum : n ≡ 0 + is.0 = is.2 in
        omega (arith, sum, first)

    trees_without : (trees : Trees) → lambda_depth_among trees ≡ 0 → AllShort trees → AllTrees (λ t. IsFree (Costs slots root now entity [] t)) trees
    trees_without no_trees none short = tt
    trees_without (more_trees tree more) none short = (
      free_without tree (left_none (lambda_depth tree) (lambda_depth_among more) none) (short tree (one_there tree (list_of_trees more))),
      trees_without more (right_none (lambda_depth tree) (lambda_depth_among more) none) (λ other there. short other (other_there tree other (list_of_trees more) there)),
    )

pub nothing_without : CostsNothingWithoutLambdas
nothing_without slots root now entity tree n none short costs = free_without slots root now entity tree none short n costs
