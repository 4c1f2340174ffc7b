-- Each tree of a run is a part of the one tree that the run becomes.
use Rattle.odata_typing.proofs.Common.{◌≡◌, subst, ◌∙◌, ◌+◌, ◌-◌, ◌≤◌, List, [], ◌∷◌, ◌++◌, reverse, take, drop, length, arith, ap, sym, ℕ, zero, suc, AllByRecursion, Contains, reverse-append, reverse-reverse, take-append-drop, AreFedBack, Texts, child_count, last_tree, shape_over, tree_count_back, trees_back, trees_with, IsWithin, children_of, in_child, is_root, Tree, node, shape_of, SyntaxNode}
use Rattle.std.proofs.lemmas.List.Elements.{Contains-append_left, Contains-append_right, Contains-push}
use Rattle.odata_typing.proofs.stacks.Stacks.{onward}
use Rattle.odata_typing.proofs.stacks.Children.{children_over, left_over, trees_count}

-- a part of a part is a part
pub within_whole : {part outer whole : Tree} → IsWithin part outer → IsWithin outer whole → IsWithin part whole
within_whole inner is_root = inner
within_whole inner (in_child c outer) = in_child c (within_whole inner outer)

-- the trees are parts of the whole
abbrev pub AllWithin : Tree → List Tree → Type 0
AllWithin whole trees = AllByRecursion (λ tree. IsWithin tree whole) trees

-- what holds of each of some trees
module _ (P : Tree → Type 0) where
  pub each_on : (xs ys : List Tree) → AllByRecursion P xs → AllByRecursion P ys → AllByRecursion P (xs ++ ys)
  each_on [] ys first second = second
  each_on (x ∷ xs) ys first second = (first.0, each_on xs ys first.1 second)

  pub each_turned : (xs : List Tree) → AllByRecursion P xs → AllByRecursion P (reverse xs)
  each_turned [] each = tt
  each_turned (x ∷ xs) each =
      subst (λ (ts : List Tree). AllByRecursion P ts) (sym (reverse-append (x ∷ []) xs)) (each_on (reverse xs) (x ∷ []) (each_turned xs each.1) (each.0, tt))

  pub each_take : (n : ℕ) (xs : List Tree) → AllByRecursion P xs → AllByRecursion P (take n xs)
  each_take zero xs each = tt
  each_take (suc n) [] each = tt
  each_take (suc n) (x ∷ xs) each = (each.0, each_take n xs each.1)

  pub each_drop : (n : ℕ) (xs : List Tree) → AllByRecursion P xs → AllByRecursion P (drop n xs)
  each_drop zero xs each = each
  each_drop (suc n) [] each = tt
  each_drop (suc n) (x ∷ xs) each = each_drop n xs each.1

-- the children of a part are parts
all_children : (whole parent : Tree) (trees : List Tree) → IsWithin parent whole → ((child : Tree) → Contains trees child → Contains (children_of (shape_of parent)) child) → AllWithin whole trees
all_children whole parent [] within are = tt
all_children whole parent (tree ∷ trees) within are =
    let head : Contains (tree ∷ trees) tree = Contains-append_left (tree ∷ []) trees tree (Contains-push [] tree) in (
      within_whole (in_child (are tree head) is_root) within,
      all_children whole parent trees within (λ child c. are child (Contains-append_right (tree ∷ []) trees child c)),
    )

pub children_within : (whole parent : Tree) → IsWithin parent whole → AllWithin whole (children_of (shape_of parent))
children_within whole parent within = all_children whole parent (children_of (shape_of parent)) within (λ child c. c)

-- the trees before a node are its children and those that are left
before_within :
    (names : Texts) (whole : Tree) (n : SyntaxNode) (trees : List Tree)
    → child_count n.kind n.count ≤ length trees
    → AllWithin whole (trees_with names n trees)
    → AllWithin whole trees
before_within names whole n trees enough all =
    let count = child_count n.kind n.count in
    let children = children_within whole (node n.span.start n.span.stop (shape_over n.kind (names n.text) n.count trees)) all.0 in
    let taken : AllWithin whole (take count trees) =
    subst (λ (ts : List Tree). AllWithin whole ts) (ap reverse (children_over n.kind (names n.text) n.count trees enough) ∙ reverse-reverse (take count trees))
    (each_turned (λ tree. IsWithin tree whole) (children_of (shape_over n.kind (names n.text) n.count trees)) children) in
    let left : AllWithin whole (drop count trees) = subst (λ (ts : List Tree). AllWithin whole ts) (left_over n.kind n.count trees) all.1 in
    subst (λ (ts : List Tree). AllWithin whole ts) (take-append-drop count trees) (each_on (λ tree. IsWithin tree whole) (take count trees) (drop count trees) taken left)

-- a fed run is fed at each node
pub earlier_of : (F : List SyntaxNode → Type 0) → ((n : SyntaxNode) (ns : List SyntaxNode) → F (n ∷ ns) → F ns) → (later earlier : List SyntaxNode) → F (onward later earlier) → F earlier
earlier_of F front [] earlier all = all
earlier_of F front (n ∷ later) earlier all = front n earlier (earlier_of F front later (n ∷ earlier) all)

pub earlier_fed : (later earlier : List SyntaxNode) → AreFedBack (onward later earlier) → AreFedBack earlier
earlier_fed = earlier_of AreFedBack (λ n ns fed. fed.1)

only_tree : (trees : List Tree) → length trees ≡ 1 → AllWithin (last_tree trees) trees
only_tree [] one = tt
only_tree (tree ∷ []) one = (is_root, tt)
only_tree (tree ∷ (other ∷ trees)) one = absurd (omega arith)

-- the trees of a run are parts of the tree that it becomes
pub stays_within :
    (names : Texts) (later earlier : List SyntaxNode)
    → AreFedBack (onward later earlier)
    → tree_count_back (onward later earlier) ≡ 1
    → AllWithin (last_tree (trees_back names (onward later earlier))) (trees_back names earlier)
stays_within names [] earlier fed one = only_tree (trees_back names earlier) (trees_count names earlier ∙ one)
stays_within names (n ∷ later) earlier fed one =
    let whole = last_tree (trees_back names (onward later (n ∷ earlier))) in
    let count : length (trees_back names earlier) ≡ tree_count_back earlier = trees_count names earlier in
    let fits : child_count n.kind n.count ≤ tree_count_back earlier = (earlier_fed later (n ∷ earlier) fed).0 in
    before_within names whole n (trees_back names earlier) (omega arith) (stays_within names later (n ∷ earlier) fed one)
