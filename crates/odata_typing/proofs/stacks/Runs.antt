-- A run on its own, and after other nodes.
use Rattle.odata_typing.proofs.Common.{◌≡◌, refl, ap, sym, ◌∙◌, ℕ, zero, suc, ◌+◌, ◌-◌, ◌≤◌, List, [], ◌∷◌, ◌++◌, reverse, take, drop, length, length-append, length-drop, arith, drop-append-le, take-append-le, AreFedBack, Texts, child_count, last_tree, shape_over, tree_count_back, trees_back, trees_before, trees_left, Shape, Tree, call, in_list, node, trees_of_list, SyntaxNode}
use Rattle.std.specs.Str.{str_to_ascii_lowercase}
use Rattle.odata_syntax.specs.declared.syntax_list.SyntaxKind.{SyntaxKind}
use Rattle.odata_typing.proofs.stacks.Stacks.{begin_of, roots_from}
use Rattle.odata_typing.proofs.stacks.Children.{left_over, roots_count, trees_count}

-- the last trees are the same, whatever stands before enough of them
last_front : (xs ys : List Tree) → 1 ≤ length xs → last_tree (xs ++ ys) ≡ last_tree xs
last_front [] ys enough = absurd (omega arith)
last_front (x ∷ xs) ys enough = refl

second_front : (xs ys : List Tree) → 2 ≤ length xs → last_tree (trees_before (xs ++ ys)) ≡ last_tree (trees_before xs)
second_front [] ys enough = absurd (omega arith)
second_front (x ∷ []) ys enough = absurd (omega arith)
second_front (x ∷ (z ∷ xs)) ys enough = refl

listed_front : (items : ℕ) (xs ys : List Tree) → items ≤ length xs → reverse (take items (xs ++ ys)) ≡ reverse (take items xs)
listed_front items xs ys enough = ap (λ (ts : List Tree). reverse ts) (take-append-le items xs ys enough)

below_front : (items : ℕ) (xs ys : List Tree) → items + 1 ≤ length xs → last_tree (drop items (xs ++ ys)) ≡ last_tree (drop items xs)
below_front items xs ys enough =
    let left : length (drop items xs) ≡ length xs - items = length-drop items xs in
    ap (λ (ts : List Tree). last_tree ts) (drop-append-le items xs ys (omega arith)) ∙ last_front (drop items xs) ys (omega arith)

two_front : (Makes : Tree → Tree → Shape) (xs ys : List Tree) → 2 ≤ length xs → Makes (last_tree (trees_before (xs ++ ys))) (last_tree (xs ++ ys)) ≡ Makes (last_tree (trees_before xs)) (last_tree xs)
two_front Makes xs ys enough =
    ap (λ (t : Tree). Makes t (last_tree (xs ++ ys))) (second_front xs ys enough)
    ∙ ap (λ (t : Tree). Makes (last_tree (trees_before xs)) t) (last_front xs ys (omega arith))

one_front : (Makes : Tree → Shape) (xs ys : List Tree) → 1 ≤ length xs → Makes (last_tree (xs ++ ys)) ≡ Makes (last_tree xs)
one_front Makes xs ys enough = ap Makes (last_front xs ys enough)

-- so is the node over them
pub shape_front : (kind : SyntaxKind) (text : List ℕ) (items : ℕ) (xs ys : List Tree) → child_count kind items ≤ length xs → shape_over kind text items (xs ++ ys) ≡ shape_over kind text items xs
shape_front (SyntaxKind.Lit kind) text items xs ys enough = refl
shape_front SyntaxKind.It text items xs ys enough = refl
shape_front SyntaxKind.Name text items xs ys enough = refl
shape_front (SyntaxKind.Binary operator) text items xs ys enough = two_front (λ l r. shape_over (SyntaxKind.Binary operator) text items (r ∷ l ∷ [])) xs ys enough
shape_front SyntaxKind.Has text items xs ys enough = two_front (λ l r. shape_over SyntaxKind.Has text items (r ∷ l ∷ [])) xs ys enough
shape_front SyntaxKind.InList text items xs ys enough =
    ap (λ (t : Tree). in_list t (trees_of_list (reverse (take items (xs ++ ys))))) (below_front items xs ys enough)
    ∙ ap (λ (ts : List Tree). in_list (last_tree (drop items xs)) (trees_of_list ts)) (listed_front items xs ys (omega arith))
shape_front SyntaxKind.InPath text items xs ys enough = two_front (λ l r. shape_over SyntaxKind.InPath text items (r ∷ l ∷ [])) xs ys enough
shape_front SyntaxKind.Call text items xs ys enough =
    ap (λ (ts : List Tree). call (str_to_ascii_lowercase text) (trees_of_list ts)) (listed_front items xs ys enough)
shape_front (SyntaxKind.Lambda quantifier) text items xs ys enough = two_front (λ l r. shape_over (SyntaxKind.Lambda quantifier) text items (r ∷ l ∷ [])) xs ys enough
shape_front kind text items xs ys enough = one_front (λ t. shape_over kind text items (t ∷ [])) xs ys enough

left_front : (kind : SyntaxKind) (items : ℕ) (xs ys : List Tree) → child_count kind items ≤ length xs → trees_left kind items (xs ++ ys) ≡ trees_left kind items xs ++ ys
left_front kind items xs ys enough =
    left_over kind items (xs ++ ys) ∙ drop-append-le (child_count kind items) xs ys enough
    ∙ ap (λ (ts : List Tree). ts ++ ys) (sym (left_over kind items xs))

-- after other nodes a run has its own trees before theirs
pub trees_apart : (names : Texts) (run before : List SyntaxNode) → AreFedBack run → trees_back names (run ++ before) ≡ trees_back names run ++ trees_back names before
trees_apart names [] before fed = refl
trees_apart names (n ∷ run) before fed =
    let xs = trees_back names run in
    let ys = trees_back names before in
    let count : length xs ≡ tree_count_back run = trees_count names run in
    let fits : child_count n.kind n.count ≤ tree_count_back run = fed.0 in
    let enough : child_count n.kind n.count ≤ length xs = omega arith in
    let text = names n.text in
    ap (λ (ts : List Tree). node n.span.start n.span.stop (shape_over n.kind text n.count ts) ∷ trees_left n.kind n.count ts) (trees_apart names run before fed.1)
    ∙ ap (λ (s : Shape). node n.span.start n.span.stop s ∷ trees_left n.kind n.count (xs ++ ys)) (shape_front n.kind text n.count xs ys enough)
    ∙ ap (λ (ts : List Tree). node n.span.start n.span.stop (shape_over n.kind text n.count xs) ∷ ts) (left_front n.kind n.count xs ys enough)

-- and its own roots
pub roots_apart : (from : ℕ) (run before : List SyntaxNode) → AreFedBack run → roots_from from (run ++ before) ≡ roots_from (from + length before) run ++ roots_from from before
roots_apart from [] before fed = refl
roots_apart from (n ∷ run) before fed =
    let rs = roots_from (from + length before) run in
    let ss = roots_from from before in
    let count : length rs ≡ tree_count_back run = roots_count (from + length before) run in
    let fits : child_count n.kind n.count ≤ tree_count_back run = fed.0 in
    let at : from + length (run ++ before) ≡ from + length before + length run = omega (arith, length-append run before) in
    ap (λ (k : ℕ). k ∷ drop (child_count n.kind n.count) (roots_from from (run ++ before))) at
    ∙ ap (λ (ks : List ℕ). (from + length before + length run) ∷ drop (child_count n.kind n.count) ks) (roots_apart from run before fed.1)
    ∙ ap (λ (ks : List ℕ). (from + length before + length run) ∷ ks) (drop-append-le (child_count n.kind n.count) rs ss (omega arith))

-- so many trees as a run of their own, and the nodes before them
pub record OwnRun (count : ℕ) (nodes : List SyntaxNode) : Type 0 where
  pub own : List SyntaxNode
  pub before : List SyntaxNode
  pub split : nodes ≡ own ++ before
  pub fed : AreFedBack own
  pub trees : tree_count_back own ≡ count
  pub fed_before : AreFedBack before

pub own_run : (count : ℕ) (nodes : List SyntaxNode) → AreFedBack nodes → count ≤ tree_count_back nodes → OwnRun count nodes
own_run zero nodes fed enough = record { own = []; before = nodes; split = refl; fed = tt; trees = refl; fed_before = fed }
own_run (suc count) [] fed enough = absurd (omega arith)
own_run (suc count) (n ∷ nodes) fed enough =
    let fits : child_count n.kind n.count ≤ tree_count_back nodes = fed.0 in
    let more : suc count ≤ tree_count_back nodes - child_count n.kind n.count + 1 = enough in
    let rest = own_run (child_count n.kind n.count + count) nodes fed.1 (omega arith) in
    let trees : tree_count_back rest.own ≡ child_count n.kind n.count + count = rest.trees in
    record {
      own = n ∷ rest.own;
      before = rest.before;
      split = ap (λ (ns : List SyntaxNode). n ∷ ns) rest.split;
      fed = (omega arith, rest.fed);
      trees = omega arith;
      fed_before = rest.fed_before;
    }

begin_before : (own : List ℕ) (before : List SyntaxNode) → length own ≡ 1 → begin_of 0 (own ++ roots_from 0 before) ≡ length before
begin_before [] before one = absurd (omega arith)
begin_before (root ∷ []) [] one = refl
begin_before (root ∷ []) (n ∷ before) one = omega arith
begin_before (root ∷ (other ∷ own)) before one = absurd (omega arith)

-- the last tree begins where its own run does
pub begins_own : (nodes : List SyntaxNode) (run : OwnRun 1 nodes) → begin_of 0 (roots_from 0 nodes) ≡ length run.before
begins_own nodes run =
    let count : length (roots_from (0 + length run.before) run.own) ≡ tree_count_back run.own = roots_count (0 + length run.before) run.own in
    let one : tree_count_back run.own ≡ 1 = run.trees in
    ap (λ (ns : List SyntaxNode). begin_of 0 (roots_from 0 ns)) run.split
    ∙ ap (λ (ks : List ℕ). begin_of 0 ks) (roots_apart 0 run.own run.before run.fed)
    ∙ begin_before (roots_from (0 + length run.before) run.own) run.before (omega arith)
