-- What is known of the nodes of a run.
use Rattle.odata_typing.proofs.Common.{◌≡◌, ◌≢◌, ap, sym, subst, ◌∙◌, ℕ, ◌+◌, ◌-◌, ◌<◌, ◌≤◌, List, [], ◌∷◌, Some, reverse, take, length, slice_get, arith, take_all, slice_get_within, BeginsBody, first_at, lambda_at, nodes_before, number_at, places_of, stop_at, AreFedBack, IsWholeTree, child_count, tree_count_back, IsWithin, is_root, text_in, Tree, SyntaxNode, Judged, CheckContext, Walk, IsNodeAt, IsNodeReady, IsReady, IsRun, IsContext, run_tree, whole_tree, listed_tree, slice_range, length-reverse}
use Rattle.odata_syntax.specs.declared.syntax_list.SyntaxKind.{SyntaxKind}
use Rattle.odata_typing.proofs.stacks.Children.{roots_count}
use Rattle.odata_typing.proofs.stacks.Marks.{IsBodyWithin, earlier_fed_back, few_trees}
use Rattle.odata_typing.proofs.stacks.Placed.{node_within, tiled}
use Rattle.odata_typing.proofs.stacks.Slices.{before_joined, before_length, before_more, run_joined, run_more}
use Rattle.odata_typing.proofs.stacks.Stacks.{begin_of, roots_from, run_before}
use Rattle.odata_typing.proofs.stacks.TreeRuns.{first_begins, run_within, tree_run}

-- each front of the list is fed
pub fed_before : (context : CheckContext) (index : ℕ) → IsContext context → index ≤ length context.nodes.now → AreFedBack (nodes_before context.nodes.now index)
fed_before context index is inside =
    let nodes = context.nodes.now in
    let all : AreFedBack (nodes_before nodes (length nodes)) = subst (λ (ns : List SyntaxNode). AreFedBack (reverse ns)) (sym (take_all (length nodes) nodes (omega arith))) is.whole.fed in
    earlier_fed_back (run_before nodes index (length nodes)) (nodes_before nodes index)
    (subst (λ (ns : List SyntaxNode). AreFedBack ns) (before_joined nodes index (length nodes) inside) all)

-- so is each front of a run
pub fed_within :
    (context : CheckContext) (from stop index : ℕ)
    → IsRun context from stop
    → from ≤ index
    → index ≤ stop
    → AreFedBack (run_before context.nodes.now from index)
fed_within context from stop index run order before =
    earlier_fed_back (run_before context.nodes.now index stop) (run_before context.nodes.now from index)
    (subst (λ (ns : List SyntaxNode). AreFedBack ns) (run_joined context.nodes.now from index stop order before) run.whole.fed)

-- a node of a run finds its children in the run
pub fits_within :
    (context : CheckContext) (from stop index : ℕ) (n : SyntaxNode)
    → IsRun context from stop
    → from ≤ index
    → index < stop
    → slice_get context.nodes.now index ≡ Some n
    → child_count n.kind n.count ≤ tree_count_back (run_before context.nodes.now from index)
fits_within context from stop index n run order before at =
    let next : AreFedBack (n ∷ run_before context.nodes.now from index) =
    subst (λ (ns : List SyntaxNode). AreFedBack ns) (run_more context.nodes.now from index n order at)
    (fed_within context from stop (index + 1) run (omega arith) (omega arith)) in
    next.0

-- a node can be put
pub node_ready :
    (context : CheckContext) (walk : Walk) (index : ℕ) (judged : Judged)
    → IsContext context
    → IsReady context walk
    → IsNodeAt context index judged
    → IsNodeReady context walk judged
node_ready context walk index judged is ready at =
    let nodes = context.nodes.now in
    let places = places_of context.nodes.now in
    let inside : index < length nodes = slice_get_within nodes index judged.node.now at.at in
    let within = node_within nodes places index judged.node.now is.places at.at in
    let first : first_at places index ≤ index = within.0 in
    let last : stop_at places index ≤ length places = within.1 in
    let own : number_at places index < stop_at places index = omega arith in
    let number : judged.number ≡ number_at places index = at.number in
    let stop : judged.stop ≡ stop_at places index = at.stop in
    let beside : length places ≡ length nodes = is.places.beside in
    let all : length walk.list.nodes ≡ length nodes = ready.count in
    record { ready = ready; order = omega arith; inside = omega arith }

-- all nodes
pub all_nodes : (nodes : List SyntaxNode) → slice_range nodes 0 (length nodes) ≡ nodes
all_nodes nodes = ap (λ (k : ℕ). take k nodes) (omega arith) ∙ take_all (length nodes) nodes (omega arith)

pub whole_is : (context : CheckContext) → run_tree context 0 (length context.nodes.now) ≡ whole_tree context
whole_is context = ap (listed_tree context.text.now) (all_nodes context.nodes.now)

all_whole : (context : CheckContext) → IsContext context → IsWholeTree (slice_range context.nodes.now 0 (length context.nodes.now))
all_whole context is = subst IsWholeTree (sym (all_nodes context.nodes.now)) is.whole

-- the body of a lambda expression within a run is a run
pub body_run :
    (context : CheckContext) (index stop lambda : ℕ)
    → IsContext context
    → stop ≤ length context.nodes.now
    → lambda ≡ lambda_at (places_of context.nodes.now) index
    → IsBodyWithin context.nodes.now (places_of context.nodes.now) index stop lambda
    → IsRun context index lambda
body_run context index stop lambda is inside mark body =
    let nodes = context.nodes.now in
    let order : index < lambda = body.order in
    let within : lambda < stop = body.within in
    let whole = tree_run nodes (places_of context.nodes.now) index lambda is.places (fed_before context lambda is (omega arith)) body.begins order (omega arith) in
    let part = run_within (text_in context.text.now) nodes 0 index lambda (length nodes) (omega arith) (omega arith) (omega arith) whole (all_whole context is) in
    record {
      order = order;
      inside = omega arith;
      whole = whole;
      begins = body.begins;
      outer = λ marked. omega arith;
      within = subst (λ (t : Tree). IsWithin (run_tree context index lambda) t) (whole_is context) part;
    }

-- where a tree has another one before it, it does not begin with the first node
later_begin : (roots : List ℕ) → 2 ≤ length roots → 1 ≤ begin_of 0 roots
later_begin [] two = absurd (omega arith)
later_begin (root ∷ []) two = absurd (omega arith)
later_begin (root ∷ (before ∷ more)) two = omega arith

-- no body begins with the first node of all
first_unmarked : (context : CheckContext) → IsContext context → lambda_at (places_of context.nodes.now) 0 ≢ 0 → ⊥
first_unmarked context is marked =
    let nodes = context.nodes.now in
    let places = places_of context.nodes.now in
    let last = lambda_at places 0 in
    let some : last ≢ 0 = marked in
    let body : BeginsBody nodes places 0 last = is.places.marked 0 marked in
    let n = body.lambda in
    let inside : last < length nodes = slice_get_within nodes last n body.at in
    let earlier = nodes_before nodes last in
    let long : length earlier ≡ last = before_length nodes last (omega arith) in
    let next : nodes_before nodes (last + 1) ≡ n ∷ earlier = before_more nodes last n body.at in
    let fed : AreFedBack (n ∷ earlier) = subst (λ (ns : List SyntaxNode). AreFedBack ns) next (fed_before context (last + 1) is (omega arith)) in
    let fits : child_count n.kind n.count ≤ tree_count_back earlier = fed.0 in
    let two : child_count n.kind n.count ≡ 2 = ap (λ (k : SyntaxKind). child_count k n.count) body.is_lambda in
    let count : length (roots_from 0 earlier) ≡ tree_count_back earlier = roots_count 0 earlier in
    let begins : first_at places (last - 1) ≡ begin_of 0 (roots_from 0 earlier) =
    first_begins places earlier last long (omega arith) (tiled nodes places last is.places (omega arith) fed.1) in
    let later : 1 ≤ begin_of 0 (roots_from 0 earlier) = later_begin (roots_from 0 earlier) (omega arith) in
    let first : first_at places (last - 1) ≡ 0 = body.begins in
    absurd (omega arith)

-- all nodes are a run
pub whole_list_run : (context : CheckContext) → IsContext context → IsRun context 0 (length context.nodes.now)
whole_list_run context is =
    let nodes = context.nodes.now in
    let places = places_of context.nodes.now in
    let count = length nodes in
    let one : tree_count_back (reverse nodes) ≡ 1 = is.whole.one in
    let few : tree_count_back (reverse nodes) ≤ length (reverse nodes) = few_trees (reverse nodes) in
    let turned : length (reverse nodes) ≡ count = length-reverse nodes in
    let number : number_at places (count - 1) ≡ 0 = is.places.root in
    let stop : stop_at places (count - 1) ≡ count = is.places.whole in
    record {
      order = omega arith;
      inside = omega arith;
      whole = all_whole context is;
      begins = omega arith;
      outer = λ marked. absurd (first_unmarked context is marked);
      within = subst (λ (t : Tree). IsWithin (run_tree context 0 count) t) (whole_is context) is_root;
    }
