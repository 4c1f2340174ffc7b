-- The nodes of a run, by their indices.
use Rattle.odata_typing.proofs.Common.{◌≡◌, refl, ap, sym, subst, ◌∙◌, ℕ, zero, suc, ◌+◌, ◌-◌, ◌<◌, ◌≤◌, List, [], ◌∷◌, ◌++◌, Some, take, drop, length, slice_get, arith, drop-append-le, take-append-le, ArePlaces, AreBefore, AreSideBySide, IsPlaced, first_at, first_over, nodes_before, number_at, roots_back, stop_at, AreFedBack, child_count, tree_count_back, Place, SyntaxNode, slice_get_within}
use Rattle.odata_typing.proofs.stacks.Children.{roots_count}
use Rattle.odata_typing.proofs.stacks.Runs.{roots_apart}
use Rattle.odata_typing.proofs.stacks.Slices.{before_joined, before_length, run_all, run_each, run_length}
use Rattle.odata_typing.proofs.stacks.Stacks.{begin_of, roots_from, run_before}

-- after a node stand its children side by side, and before it the other trees of the run
pub record IsPlacedFrom (places : List Place) (from : ℕ) (n : SyntaxNode) (earlier : List SyntaxNode) : Type 0 where
  pub children :
      AreSideBySide places (number_at places (from + length earlier) + 1) (stop_at places (from + length earlier))
      (take (child_count n.kind n.count) (roots_from from earlier))
  pub older : AreBefore places (number_at places (from + length earlier)) (drop (child_count n.kind n.count) (roots_from from earlier))

abbrev pub ArePlacedFrom : List Place → ℕ → List SyntaxNode → Type 0
ArePlacedFrom places from [] = Unit {0}
ArePlacedFrom places from (n ∷ earlier) = IsPlacedFrom places from n earlier × ArePlacedFrom places from earlier

-- the roots of all nodes
pub roots_all : (earlier : List SyntaxNode) → roots_back earlier ≡ roots_from 0 earlier
roots_all [] = refl
roots_all (n ∷ earlier) =
    let at : length earlier ≡ 0 + length earlier = omega arith in
    ap (λ (k : ℕ). k ∷ drop (child_count n.kind n.count) (roots_back earlier)) at
    ∙ ap (λ (ks : List ℕ). (0 + length earlier) ∷ drop (child_count n.kind n.count) ks) (roots_all earlier)

-- the roots of a run, and those of the nodes before it
pub roots_joined :
    (nodes : List SyntaxNode) (from index : ℕ)
    → from ≤ index
    → index ≤ length nodes
    → AreFedBack (run_before nodes from index)
    → roots_back (nodes_before nodes index) ≡ roots_from from (run_before nodes from index) ++ roots_back (nodes_before nodes from)
roots_joined nodes from index order inside fed =
    let run = run_before nodes from index in
    let before = nodes_before nodes from in
    let count : length before ≡ from = before_length nodes from (omega arith) in
    let at : 0 + length before ≡ from = omega arith in
    ap (λ (ns : List SyntaxNode). roots_back ns) (before_joined nodes from index order)
    ∙ roots_all (run ++ before)
    ∙ roots_apart 0 run before fed
    ∙ ap (λ (k : ℕ). roots_from k run ++ roots_from 0 before) at
    ∙ ap (λ (ks : List ℕ). roots_from from run ++ ks) (sym (roots_all before))

before_front : (places : List Place) (to : ℕ) (xs ys : List ℕ) → AreBefore places to (xs ++ ys) → AreBefore places to xs
before_front places to [] ys before = tt
before_front places to (x ∷ xs) ys before = (before.0, before_front places (number_at places x) xs ys before.1)

-- one node of a run
pub placed_one :
    (nodes : List SyntaxNode) (places : List Place) (from index : ℕ) (n : SyntaxNode)
    → ArePlaces nodes places
    → from ≤ index
    → index < length nodes
    → slice_get nodes index ≡ Some n
    → AreFedBack (run_before nodes from index)
    → child_count n.kind n.count ≤ tree_count_back (run_before nodes from index)
    → IsPlacedFrom places from n (run_before nodes from index)
placed_one nodes places from index n are order inside at fed fits =
    let run = run_before nodes from index in
    let count = child_count n.kind n.count in
    let roots = roots_from from run in
    let more = roots_back (nodes_before nodes from) in
    let placed : IsPlaced places n (nodes_before nodes index) = are.placed index n at in
    let joined : roots_back (nodes_before nodes index) ≡ roots ++ more = roots_joined nodes from index order (omega arith) fed in
    let enough : length roots ≡ tree_count_back run = roots_count from run in
    let own : length run ≡ index - from = run_length nodes from index order (omega arith) in
    let all : length (nodes_before nodes index) ≡ index = before_length nodes index (omega arith) in
    let here : length (nodes_before nodes index) ≡ from + length run = omega arith in
    let Children : ℕ → List ℕ → Type 0 = λ (k : ℕ) (rs : List ℕ). AreSideBySide places (number_at places k + 1) (stop_at places k) rs in
    let Older : ℕ → List ℕ → Type 0 = λ (k : ℕ) (rs : List ℕ). AreBefore places (number_at places k) rs in
    let taken : take count (roots_back (nodes_before nodes index)) ≡ take count roots =
    ap (λ (rs : List ℕ). take count rs) joined ∙ take-append-le count roots more (omega arith) in
    let left : drop count (roots_back (nodes_before nodes index)) ≡ drop count roots ++ more =
    ap (λ (rs : List ℕ). drop count rs) joined ∙ drop-append-le count roots more (omega arith) in
    record {
      children = subst (λ (k : ℕ). Children k (take count roots)) here (subst (λ (rs : List ℕ). Children (length (nodes_before nodes index)) rs) taken placed.children);
      older =
          before_front places (number_at places (from + length run)) (drop count roots) more
          (subst (λ (k : ℕ). Older k (drop count roots ++ more)) here (subst (λ (rs : List ℕ). Older (length (nodes_before nodes index)) rs) left placed.older));
    }

-- all nodes of a run
pub placed_run :
    (nodes : List SyntaxNode) (places : List Place) (from index : ℕ)
    → ArePlaces nodes places
    → from ≤ index
    → index ≤ length nodes
    → AreFedBack (run_before nodes from index)
    → ArePlacedFrom places from (run_before nodes from index)
placed_run nodes places from index are order inside =
    run_each nodes from index (λ ns. ArePlacedFrom places from ns) tt
    (λ k n after before at fed placed. (placed_one nodes places from k n are after (omega arith) at fed.1 fed.0, placed)) order inside

-- Where trees begin.

-- the tree of a node begins at it or before it, and ends among the nodes
pub node_within : (nodes : List SyntaxNode) (places : List Place) (index : ℕ) (n : SyntaxNode) → ArePlaces nodes places → slice_get nodes index ≡ Some n
    → (first_at places index ≤ index) × (stop_at places index ≤ length places)
node_within nodes places index n are at =
    let inside : index < length nodes = slice_get_within nodes index n at in
    let count : length (nodes_before nodes index) ≡ index = before_length nodes index (omega arith) in
    let placed : IsPlaced places n (nodes_before nodes index) = are.placed index n at in
    (subst (λ (k : ℕ). first_at places k ≤ k) count placed.order, subst (λ (k : ℕ). stop_at places k ≤ length places) count placed.within)

-- each of these trees begins after the root before it
abbrev pub AreTiled : List Place → List ℕ → Type 0
AreTiled places [] = Unit {0}
AreTiled places (root ∷ roots) = (first_at places root ≡ begin_of 0 (root ∷ roots)) × AreTiled places roots

begin_any : (x y : ℕ) (roots : List ℕ) → begin_of 0 (x ∷ roots) ≡ begin_of 0 (y ∷ roots)
begin_any x y [] = refl
begin_any x y (before ∷ more) = refl

-- the tree over some of them begins where the first one does
first_tiled :
    (places : List Place) (index count root : ℕ) (roots : List ℕ)
    → AreTiled places (root ∷ roots)
    → count ≤ length roots
    → first_over places index (take (suc count) (root ∷ roots)) ≡ begin_of 0 (index ∷ drop (suc count) (root ∷ roots))
first_tiled places index zero root roots tiled enough = tiled.0 ∙ begin_any root index roots
first_tiled places index (suc count) root [] tiled enough = absurd (omega arith)
first_tiled places index (suc count) root (before ∷ more) tiled enough =
    first_tiled places (first_at places root) count before more tiled.1 (omega arith)
    ∙ begin_any (first_at places root) index (drop (suc count) (before ∷ more))

-- a node without children begins its tree
first_leaf : (earlier : List SyntaxNode) → begin_of 0 (length earlier ∷ roots_back earlier) ≡ length earlier
first_leaf [] = refl
first_leaf (n ∷ earlier) = omega arith

first_node :
    (places : List Place) (earlier : List SyntaxNode) (count : ℕ) (roots : List ℕ)
    → roots ≡ roots_back earlier
    → AreTiled places roots
    → count ≤ length roots
    → first_over places (length earlier) (take count roots) ≡ begin_of 0 (length earlier ∷ drop count roots)
first_node places earlier zero roots is tiled enough =
    sym (ap (λ (rs : List ℕ). begin_of 0 (length earlier ∷ rs)) is ∙ first_leaf earlier)
first_node places earlier (suc count) [] is tiled enough = absurd (omega arith)
first_node places earlier (suc count) (root ∷ roots) is tiled enough =
    first_tiled places (length earlier) count root roots tiled (omega arith)

tiled_drop : (places : List Place) (count : ℕ) (roots : List ℕ) → AreTiled places roots → AreTiled places (drop count roots)
tiled_drop places zero roots tiled = tiled
tiled_drop places (suc count) [] tiled = tt
tiled_drop places (suc count) (root ∷ roots) tiled = tiled_drop places count roots tiled.1

back_count : (earlier : List SyntaxNode) → length (roots_back earlier) ≡ tree_count_back earlier
back_count earlier = ap (λ (rs : List ℕ). length rs) (roots_all earlier) ∙ roots_count 0 earlier

-- all trees of a list are
pub tiled :
    (nodes : List SyntaxNode) (places : List Place) (index : ℕ)
    → ArePlaces nodes places
    → index ≤ length nodes
    → AreFedBack (nodes_before nodes index)
    → AreTiled places (roots_back (nodes_before nodes index))
tiled nodes places index are inside fed =
    subst (λ (ns : List SyntaxNode). AreTiled places (roots_back ns)) (run_all nodes index)
    (run_each nodes 0 index (λ ns. AreTiled places (roots_back ns)) tt
    (λ k n after before at more rest.
    let earlier = run_before nodes 0 k in
    let placed : IsPlaced places n earlier = subst (λ (ns : List SyntaxNode). IsPlaced places n ns) (sym (run_all nodes k)) (are.placed k n at) in
    let count : length (roots_back earlier) ≡ tree_count_back earlier = back_count earlier in
    let fits : child_count n.kind n.count ≤ tree_count_back earlier = more.0 in (
      placed.begins ∙ first_node places earlier (child_count n.kind n.count) (roots_back earlier) refl rest (omega arith),
      tiled_drop places (child_count n.kind n.count) (roots_back earlier) rest,
    ))
    (omega arith) inside (subst (λ (ns : List SyntaxNode). AreFedBack ns) (sym (run_all nodes index)) fed))
