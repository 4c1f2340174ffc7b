-- The children of a node are the last trees before it.
use Rattle.odata_typing.proofs.Common.{◌≡◌, refl, ap, sym, ◌∙◌, ℕ, zero, suc, ◌+◌, ◌-◌, ◌≤◌, List, [], ◌∷◌, ◌++◌, reverse, take, drop, length, length-drop, arith, drop-drop, reverse-append, child_count, last_tree, shape_over, tree_count_back, trees_before, trees_left, children_of, list_of_trees, Tree, trees_of_list, SyntaxNode, rules, Texts, trees_back}
use Rattle.odata_syntax.specs.declared.syntax_list.SyntaxKind.{SyntaxKind}
use Rattle.odata_typing.proofs.stacks.Stacks.{roots_from}

pub listed_again : (trees : List Tree) → list_of_trees (trees_of_list trees) ≡ trees
listed_again [] = refl
listed_again (tree ∷ trees) = ap (λ (ts : List Tree). tree ∷ ts) (listed_again trees)

pub before_is : (trees : List Tree) → trees_before trees ≡ drop 1 trees
before_is [] = refl
before_is (tree ∷ trees) = refl

twice_is : (trees : List Tree) → trees_before (trees_before trees) ≡ drop 2 trees
twice_is [] = refl
twice_is (tree ∷ []) = refl
twice_is (tree ∷ (other ∷ trees)) = refl

-- the trees that are left are those before them
pub left_over : (kind : SyntaxKind) (items : ℕ) (trees : List Tree) → trees_left kind items trees ≡ drop (child_count kind items) trees
left_over (SyntaxKind.Lit kind) items trees = refl
left_over SyntaxKind.It items trees = refl
left_over SyntaxKind.Name items trees = refl
left_over (SyntaxKind.Binary operator) items trees = twice_is trees
left_over SyntaxKind.Has items trees = twice_is trees
left_over SyntaxKind.InList items trees = before_is (drop items trees) ∙ drop-drop 1 items trees
left_over SyntaxKind.InPath items trees = twice_is trees
left_over SyntaxKind.Call items trees = refl
left_over (SyntaxKind.Lambda quantifier) items trees = twice_is trees
left_over _ items trees = before_is trees

pub one_is : (trees : List Tree) → 1 ≤ length trees → last_tree trees ∷ [] ≡ reverse (take 1 trees)
one_is [] enough = absurd (omega arith)
one_is (tree ∷ trees) enough = refl

pub two_are : (trees : List Tree) → 2 ≤ length trees → last_tree (trees_before trees) ∷ last_tree trees ∷ [] ≡ reverse (take 2 trees)
two_are [] enough = absurd (omega arith)
two_are (tree ∷ []) enough = absurd (omega arith)
two_are (tree ∷ (other ∷ trees)) enough = refl

-- one more of the last trees
pub more_are : (items : ℕ) (trees : List Tree) → items + 1 ≤ length trees → take (items + 1) trees ≡ take items trees ++ last_tree (drop items trees) ∷ []
more_are items [] enough = absurd (omega arith)
more_are zero (tree ∷ trees) enough = refl
more_are (suc items) (tree ∷ trees) enough =
    let next : suc items + 1 ≡ suc (items + 1) = omega arith in
    ap (λ (k : ℕ). take k (tree ∷ trees)) next ∙ ap (λ (ts : List Tree). tree ∷ ts) (more_are items trees (omega arith))

listed_are : (items : ℕ) (trees : List Tree) → items + 1 ≤ length trees → last_tree (drop items trees) ∷ list_of_trees (trees_of_list (reverse (take items trees))) ≡ reverse (take (items + 1) trees)
listed_are items trees enough =
    ap (λ (ts : List Tree). last_tree (drop items trees) ∷ ts) (listed_again (reverse (take items trees)))
    ∙ sym (reverse-append (take items trees) (last_tree (drop items trees) ∷ []))
    ∙ ap (λ (ts : List Tree). reverse ts) (sym (more_are items trees enough))

-- the children are the last trees, in the order of the text
pub children_over : (kind : SyntaxKind) (text : List ℕ) (items : ℕ) (trees : List Tree) → child_count kind items ≤ length trees → children_of (shape_over kind text items trees) ≡ reverse (take (child_count kind items) trees)
children_over (SyntaxKind.Lit kind) text items trees enough = refl
children_over SyntaxKind.It text items trees enough = refl
children_over SyntaxKind.Name text items trees enough = refl
children_over (SyntaxKind.Binary operator) text items trees enough = two_are trees enough
children_over SyntaxKind.Has text items trees enough = two_are trees enough
children_over SyntaxKind.InList text items trees enough = listed_are items trees enough
children_over SyntaxKind.InPath text items trees enough = two_are trees enough
children_over SyntaxKind.Call text items trees enough = listed_again (reverse (take items trees))
children_over (SyntaxKind.Lambda quantifier) text items trees enough = two_are trees enough
children_over _ text items trees enough = one_is trees enough

pub trees_count : (names : Texts) (earlier : List SyntaxNode) → length (trees_back names earlier) ≡ tree_count_back earlier
trees_count names [] = refl
trees_count names (n ∷ earlier) =
    let trees = trees_back names earlier in
    let count : length trees ≡ tree_count_back earlier = trees_count names earlier in
    let left : length (trees_left n.kind n.count trees) ≡ length trees - child_count n.kind n.count =
    ap (λ (ts : List Tree). length ts) (left_over n.kind n.count trees) ∙ length-drop (child_count n.kind n.count) trees in
    omega arith

pub roots_count : (from : ℕ) (earlier : List SyntaxNode) → length (roots_from from earlier) ≡ tree_count_back earlier
roots_count from [] = refl
roots_count from (n ∷ earlier) =
    let count : length (roots_from from earlier) ≡ tree_count_back earlier = roots_count from earlier in
    let left : length (drop (child_count n.kind n.count) (roots_from from earlier)) ≡ length (roots_from from earlier) - child_count n.kind n.count =
    length-drop (child_count n.kind n.count) (roots_from from earlier) in
    omega arith
