-- The trees of a run stand among the nodes of the tree that it becomes.
use Rattle.odata_typing.proofs.Common.{◌≡◌, ap, sym, subst, ◌∙◌, ℕ, ◌+◌, ◌-◌, ◌<◌, ◌≤◌, List, [], ◌∷◌, ◌++◌, Some, take, drop, length, length-drop, slice_get, arith, nil_from_length, take-append-drop, ArePlaces, AreSideBySide, number_at, stop_at, child_count, tree_count_back, Place, SyntaxNode, IsWholeTree, slice_range}
use Rattle.odata_typing.proofs.stacks.Onward.{earlier_of}
use Rattle.odata_typing.proofs.stacks.Children.{roots_count}
use Rattle.odata_typing.proofs.stacks.Placed.{ArePlacedFrom, placed_run}
use Rattle.odata_typing.proofs.stacks.Slices.{onward_run, run_length, run_more}
use Rattle.odata_typing.proofs.stacks.Stacks.{onward, roots_from, run_before}

-- the trees of these roots stand from one index up to another
abbrev pub AreWithin : List Place → ℕ → ℕ → List ℕ → Type 0
AreWithin places i j [] = Unit {0}
AreWithin places i j (root ∷ roots) = (i ≤ number_at places root) × (stop_at places root ≤ j) × AreWithin places i j roots

row_order : (places : List Place) (from to : ℕ) (roots : List ℕ) → AreSideBySide places from to roots → from ≤ to
row_order places from to [] beside = omega arith
row_order places from to (root ∷ roots) beside =
    let rest : from ≤ number_at places root = row_order places from (number_at places root) roots beside.1 in
    let stop : stop_at places root ≡ to = beside.0 in
    omega arith

row_within : (places : List Place) (i j from to : ℕ) (roots : List ℕ) → i ≤ from → to ≤ j → AreSideBySide places from to roots → AreWithin places i j roots
row_within places i j from to [] below above beside = tt
row_within places i j from to (root ∷ roots) below above beside =
    let rest : from ≤ number_at places root = row_order places from (number_at places root) roots beside.1 in
    let stop : stop_at places root ≡ to = beside.0 in
    (omega arith, omega arith, row_within places i j from (number_at places root) roots below (omega arith) beside.1)

within_on : (places : List Place) (i j : ℕ) (xs ys : List ℕ) → AreWithin places i j xs → AreWithin places i j ys → AreWithin places i j (xs ++ ys)
within_on places i j [] ys first second = second
within_on places i j (x ∷ xs) ys first second = (first.0, first.1, within_on places i j xs ys first.2 second)

stays_placed :
    (places : List Place) (from i j : ℕ) (later earlier : List SyntaxNode)
    → ArePlacedFrom places from (onward later earlier)
    → AreWithin places i j (roots_from from (onward later earlier))
    → AreWithin places i j (roots_from from earlier)
stays_placed places from i j [] earlier placed within = within
stays_placed places from i j (n ∷ later) earlier placed within =
    let count = child_count n.kind n.count in
    let roots = roots_from from earlier in
    let root = from + length earlier in
    let next : AreWithin places i j (root ∷ drop count roots) = stays_placed places from i j later (n ∷ earlier) placed within in
    let start : i ≤ number_at places root = next.0 in
    let own = (earlier_of (ArePlacedFrom places from) (λ m ns placed. placed.1) later (n ∷ earlier) placed).0 in
    let children = row_within places i j (number_at places root + 1) (stop_at places root) (take count roots) (omega arith) next.1 own.children in
    subst (λ (rs : List ℕ). AreWithin places i j rs) (take-append-drop count roots) (within_on places i j (take count roots) (drop count roots) children next.2)

-- the one root of a whole run is its last node
pub one_root : (from stop : ℕ) (run : List SyntaxNode) → from + length run ≡ stop → tree_count_back run ≡ 1 → roots_from from run ≡ (stop - 1) ∷ []
one_root from stop [] long one = absurd (omega arith)
one_root from stop (n ∷ run) long one =
    let rest = drop (child_count n.kind n.count) (roots_from from run) in
    let count : length (roots_from from run) ≡ tree_count_back run = roots_count from run in
    let left : length rest ≡ length (roots_from from run) - child_count n.kind n.count = length-drop (child_count n.kind n.count) (roots_from from run) in
    let trees : tree_count_back run - child_count n.kind n.count + 1 ≡ 1 = one in
    let none : rest ≡ [] = nil_from_length rest (omega arith) in
    let at : from + length run ≡ stop - 1 = omega arith in
    ap (λ (rs : List ℕ). (from + length run) ∷ rs) none ∙ ap (λ (k : ℕ). k ∷ []) at

pub whole_root :
    (nodes : List SyntaxNode) (from stop : ℕ)
    → from ≤ stop
    → stop ≤ length nodes
    → IsWholeTree (slice_range nodes from stop)
    → roots_from from (run_before nodes from stop) ≡ (stop - 1) ∷ []
whole_root nodes from stop order inside whole =
    let count : length (run_before nodes from stop) ≡ stop - from = run_length nodes from stop order inside in
    one_root from stop (run_before nodes from stop) (omega arith) whole.one

-- a node of the run stands among the nodes of its tree
pub record IsInRange (places : List Place) (stop index : ℕ) : Type 0 where
  pub start : number_at places (stop - 1) ≤ number_at places index
  pub end : stop_at places index ≤ stop_at places (stop - 1)

pub node_range :
    (nodes : List SyntaxNode) (places : List Place) (from stop index : ℕ) (n : SyntaxNode)
    → ArePlaces nodes places
    → from ≤ index
    → index < stop
    → stop ≤ length nodes
    → slice_get nodes index ≡ Some n
    → IsWholeTree (slice_range nodes from stop)
    → IsInRange places stop index
node_range nodes places from stop index n are order before inside at whole =
    let later = slice_range nodes (index + 1) stop in
    let earlier = run_before nodes from (index + 1) in
    let so_far : onward later earlier ≡ run_before nodes from stop = onward_run nodes from (index + 1) stop (omega arith) (omega arith) in
    let placed : ArePlacedFrom places from (onward later earlier) =
    subst (λ (ns : List SyntaxNode). ArePlacedFrom places from ns) (sym so_far) (placed_run nodes places from stop are (omega arith) inside whole.fed) in
    let root : roots_from from (onward later earlier) ≡ (stop - 1) ∷ [] =
    ap (λ (ns : List SyntaxNode). roots_from from ns) so_far ∙ whole_root nodes from stop (omega arith) inside whole in
    let all : AreWithin places (number_at places (stop - 1)) (stop_at places (stop - 1)) ((stop - 1) ∷ []) = (omega arith, omega arith, tt) in
    let so : AreWithin places (number_at places (stop - 1)) (stop_at places (stop - 1)) (roots_from from earlier) =
    stays_placed places from (number_at places (stop - 1)) (stop_at places (stop - 1)) later earlier placed
    (subst (λ (rs : List ℕ). AreWithin places (number_at places (stop - 1)) (stop_at places (stop - 1)) rs) (sym root) all) in
    let own : length (run_before nodes from index) ≡ index - from = run_length nodes from index order (omega arith) in
    let here : from + length (run_before nodes from index) ≡ index = omega arith in
    let next : AreWithin places (number_at places (stop - 1)) (stop_at places (stop - 1)) (roots_from from (n ∷ run_before nodes from index)) =
    subst (λ (ns : List SyntaxNode). AreWithin places (number_at places (stop - 1)) (stop_at places (stop - 1)) (roots_from from ns)) (run_more nodes from index n order at) so in
    record {
      start = subst (λ (k : ℕ). number_at places (stop - 1) ≤ number_at places k) here next.0;
      end = subst (λ (k : ℕ). stop_at places k ≤ stop_at places (stop - 1)) here next.1;
    }
