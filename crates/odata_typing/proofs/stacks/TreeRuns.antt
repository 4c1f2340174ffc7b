-- The nodes of one tree of a list are a whole run.
use Rattle.odata_typing.proofs.Common.{◌≡◌, refl, ap, sym, subst, ◌∙◌, ℕ, ◌+◌, ◌-◌, ◌<◌, ◌≤◌, List, [], ◌∷◌, ◌++◌, take, length, length-append, arith, take_at, ArePlaces, first_at, nodes_before, roots_back, AreFedBack, Texts, last_tree, tree_count_back, trees_back, IsWithin, Tree, Place, SyntaxNode, IsWholeTree, reverse, trees_in, slice_range}
use Rattle.odata_typing.proofs.stacks.Onward.{AllWithin, stays_within}
use Rattle.odata_typing.proofs.stacks.Placed.{AreTiled, roots_all, tiled}
use Rattle.odata_typing.proofs.stacks.Runs.{OwnRun, begins_own, own_run, trees_apart}
use Rattle.odata_typing.proofs.stacks.Slices.{before_joined, before_length, onward_run, run_joined}
use Rattle.odata_typing.proofs.stacks.Stacks.{begin_of, onward, roots_from, run_before}
use Rattle.odata_typing.proofs.stacks.Children.{trees_count}

same_front : (xs ys zs ws : List SyntaxNode) → xs ++ ys ≡ zs ++ ws → length ys ≡ length ws → xs ≡ zs
same_front xs ys zs ws same long =
    let a : length (xs ++ ys) ≡ length xs + length ys = length-append xs ys in
    let b : length (zs ++ ws) ≡ length zs + length ws = length-append zs ws in
    let c : length (xs ++ ys) ≡ length (zs ++ ws) = ap (λ (ns : List SyntaxNode). length ns) same in
    let count : length zs ≡ length xs = omega arith in
    sym (take_at xs ys (length xs) refl) ∙ ap (λ (ns : List SyntaxNode). take (length xs) ns) same ∙ take_at zs ws (length xs) count

some_trees : (nodes : List SyntaxNode) → 0 < length nodes → 1 ≤ tree_count_back nodes
some_trees [] some = absurd (omega arith)
some_trees (n ∷ nodes) some = omega arith

-- the last tree begins where its node says
pub first_begins : (places : List Place) (nodes : List SyntaxNode) (stop : ℕ) → length nodes ≡ stop → 0 < stop → AreTiled places (roots_back nodes) → first_at places (stop - 1) ≡ begin_of 0 (roots_from 0 nodes)
first_begins places [] stop count some tiles = absurd (omega arith)
first_begins places (n ∷ nodes) stop count some tiles =
    let at : stop - 1 ≡ length nodes = omega arith in
    ap (λ (k : ℕ). first_at places k) at ∙ tiles.0 ∙ ap (λ (rs : List ℕ). begin_of 0 rs) (roots_all (n ∷ nodes))

-- the nodes of the tree whose root is the one before an index
pub tree_run :
    (nodes : List SyntaxNode) (places : List Place) (from stop : ℕ)
    → ArePlaces nodes places
    → AreFedBack (nodes_before nodes stop)
    → first_at places (stop - 1) ≡ from
    → from < stop
    → stop ≤ length nodes
    → IsWholeTree (slice_range nodes from stop)
tree_run nodes places from stop are fed first order inside =
    let all = nodes_before nodes stop in
    let count : length all ≡ stop = before_length nodes stop inside in
    let run : OwnRun 1 all = own_run 1 all fed (some_trees all (omega arith)) in
    let begins : from ≡ length run.before =
    sym first ∙ first_begins places all stop count (omega arith) (tiled nodes places stop are inside fed) ∙ begins_own all run in
    let before : length (nodes_before nodes from) ≡ from = before_length nodes from (omega arith) in
    let same : run.own ≡ run_before nodes from stop =
    same_front run.own run.before (run_before nodes from stop) (nodes_before nodes from) (sym run.split ∙ before_joined nodes from stop (omega arith)) (omega arith) in
    record {
      fed = subst (λ (ns : List SyntaxNode). AreFedBack ns) same run.fed;
      one = subst (λ (ns : List SyntaxNode). tree_count_back ns ≡ 1) same run.trees;
    }

-- the one tree of such a run
pub only_one : (trees : List Tree) → length trees ≡ 1 → trees ≡ last_tree trees ∷ []
only_one [] one = absurd (omega arith)
only_one (tree ∷ []) one = refl
only_one (tree ∷ (other ∷ trees)) one = absurd (omega arith)

pub whole_trees : (names : Texts) (run : List SyntaxNode) → IsWholeTree run → trees_in names run ≡ last_tree (trees_in names run) ∷ []
whole_trees names run whole = only_one (trees_in names run) (trees_count names (reverse run) ∙ whole.one)

-- after other nodes it is one more tree
pub one_more_tree : (names : Texts) (run before : List SyntaxNode) → IsWholeTree run → trees_back names (reverse run ++ before) ≡ last_tree (trees_in names run) ∷ trees_back names before
one_more_tree names run before whole =
    trees_apart names (reverse run) before whole.fed ∙ ap (λ (ts : List Tree). ts ++ trees_back names before) (whole_trees names run whole)

-- it is a part of the tree that a longer run becomes
pub run_within :
    (names : Texts) (nodes : List SyntaxNode) (from middle stop last : ℕ)
    → from ≤ middle
    → middle ≤ stop
    → stop ≤ last
    → IsWholeTree (slice_range nodes middle stop)
    → IsWholeTree (slice_range nodes from last)
    → IsWithin (last_tree (trees_back names (run_before nodes middle stop))) (last_tree (trees_back names (run_before nodes from last)))
run_within names nodes from middle stop last a b c inner outer =
    let run = run_before nodes middle stop in
    let earlier = run_before nodes from middle in
    let whole = last_tree (trees_back names (run_before nodes from last)) in
    let later = slice_range nodes stop last in
    let so_far : onward later (run_before nodes from stop) ≡ run_before nodes from last = onward_run nodes from stop last (omega arith) c in
    let fed : AreFedBack (onward later (run_before nodes from stop)) = subst (λ (ns : List SyntaxNode). AreFedBack ns) (sym so_far) outer.fed in
    let one : tree_count_back (onward later (run_before nodes from stop)) ≡ 1 = subst (λ (ns : List SyntaxNode). tree_count_back ns ≡ 1) (sym so_far) outer.one in
    let all : AllWithin whole (trees_back names (run_before nodes from stop)) =
    subst (λ (ns : List SyntaxNode). AllWithin (last_tree (trees_back names ns)) (trees_back names (run_before nodes from stop))) so_far
    (stays_within names later (run_before nodes from stop) fed one) in
    let split : trees_back names (run_before nodes from stop) ≡ last_tree (trees_back names run) ∷ trees_back names earlier =
    ap (λ (ns : List SyntaxNode). trees_back names ns) (run_joined nodes from middle stop a b) ∙ one_more_tree names (slice_range nodes middle stop) earlier inner in
    let parts : AllWithin whole (last_tree (trees_back names run) ∷ trees_back names earlier) = subst (λ (ts : List Tree). AllWithin whole ts) split all in
    parts.0
