-- Where bodies begin: at the marks of the nodes.
use Rattle.odata_typing.proofs.Common.{◌≡◌, ◌≢◌, refl, ap, subst, ◌∙◌, inl, inr, ℕ, zero, ◌+◌, ◌-◌, ◌<◌, ◌≤◌, List, [], ◌∷◌, ◌++◌, Some, drop, length, length-drop, slice_get, arith, slice_get_cases, slice_get_within, ArePlaces, BeginsBody, first_at, lambda_at, nodes_before, roots_back, AreFedBack, child_count, tree_count_back, Quantifier, Place, SyntaxNode}
use Rattle.std.proofs.lemmas.Bool.{cases_lt}
use Rattle.odata_syntax.specs.declared.syntax_list.SyntaxKind.{SyntaxKind}
use Rattle.odata_typing.proofs.stacks.Children.{roots_count}
use Rattle.odata_typing.proofs.stacks.Placed.{AreTiled, node_within, roots_joined, tiled}
use Rattle.odata_typing.proofs.stacks.Slices.{before_joined, run_each, run_length}
use Rattle.odata_typing.proofs.stacks.Stacks.{BodiesBegin, IfLambda, begin_of, roots_from, run_before}

-- a body begins with the node of this index
abbrev pub IsMarked : List Place → ℕ → Type 0
IsMarked places index = lambda_at places index ≢ 0

pub few_trees : (run : List SyntaxNode) → tree_count_back run ≤ length run
few_trees [] = omega arith
few_trees (n ∷ run) = let few : tree_count_back run ≤ length run = few_trees run in omega arith

-- in a longer list a tree begins where it does in its run, if that has a tree before it
rest_begins : (places : List Place) (from root : ℕ) (rest more : List ℕ) → 1 ≤ length rest → first_at places root ≡ begin_of 0 (root ∷ (rest ++ more)) → first_at places root ≡ begin_of from (root ∷ rest)
rest_begins places from root [] more some begins = absurd (omega arith)
rest_begins places from root (before ∷ rest) more some begins = begins

body_begins :
    (places : List Place) (from index : ℕ) (run : List SyntaxNode) (more : List ℕ)
    → from + length run ≡ index
    → 2 ≤ tree_count_back run
    → AreTiled places (roots_from from run ++ more)
    → first_at places (index - 1) ≡ begin_of from (roots_from from run)
body_begins places from index [] more is two tiled = absurd (omega arith)
body_begins places from index (n ∷ run) more is two tiled =
    let rest = drop (child_count n.kind n.count) (roots_from from run) in
    let count : length (roots_from from run) ≡ tree_count_back run = roots_count from run in
    let left : length rest ≡ length (roots_from from run) - child_count n.kind n.count = length-drop (child_count n.kind n.count) (roots_from from run) in
    let enough : 2 ≤ tree_count_back run - child_count n.kind n.count + 1 = two in
    let at : index - 1 ≡ from + length run = omega arith in
    ap (λ (k : ℕ). first_at places k) at ∙ rest_begins places from (from + length run) rest more (omega arith) tiled.0

if_lambda : (kind : SyntaxKind) (P : Type 0) → ((quantifier : Quantifier) → kind ≡ SyntaxKind.Lambda quantifier → P) → IfLambda kind P
if_lambda (SyntaxKind.Lambda quantifier) P so = so quantifier refl
if_lambda kind P so = tt

pub earlier_fed_back : (xs ys : List SyntaxNode) → AreFedBack (xs ++ ys) → AreFedBack ys
earlier_fed_back [] ys fed = fed
earlier_fed_back (x ∷ xs) ys fed = earlier_fed_back xs ys fed.1

-- the body of a lambda expression of a run begins at a mark
pub marked_one :
    (nodes : List SyntaxNode) (places : List Place) (from index : ℕ) (n : SyntaxNode) (quantifier : Quantifier)
    → ArePlaces nodes places
    → AreFedBack (nodes_before nodes index)
    → from ≤ index
    → slice_get nodes index ≡ Some n
    → n.kind ≡ SyntaxKind.Lambda quantifier
    → AreFedBack (run_before nodes from index)
    → child_count n.kind n.count ≤ tree_count_back (run_before nodes from index)
    → IsMarked places (begin_of from (roots_from from (run_before nodes from index)))
marked_one nodes places from index n quantifier are all order at is fed fits none =
    let inside : index < length nodes = slice_get_within nodes index n at in
    let run = run_before nodes from index in
    let two : child_count n.kind n.count ≡ 2 = ap (λ (k : SyntaxKind). child_count k n.count) is in
    let few : tree_count_back run ≤ length run = few_trees run in
    let own : length run ≡ index - from = run_length nodes from index order (omega arith) in
    let joined : roots_back (nodes_before nodes index) ≡ roots_from from run ++ roots_back (nodes_before nodes from) =
    roots_joined nodes from index order (omega arith) fed in
    let tiles : AreTiled places (roots_from from run ++ roots_back (nodes_before nodes from)) =
    subst (λ (rs : List ℕ). AreTiled places rs) joined (tiled nodes places index are (omega arith) all) in
    let begins : first_at places (index - 1) ≡ begin_of from (roots_from from run) =
    body_begins places from index run (roots_back (nodes_before nodes from)) (omega arith) (omega arith) tiles in
    let body : BeginsBody nodes places (begin_of from (roots_from from run)) index =
    record { lambda = n; at = at; quantifier = quantifier; is_lambda = is; begins = begins } in
    let mark : lambda_at places (begin_of from (roots_from from run)) ≡ index = are.marks (begin_of from (roots_from from run)) index body in
    let zero : lambda_at places (begin_of from (roots_from from run)) ≡ 0 = none in
    absurd (omega arith)

pub bodies_marked :
    (nodes : List SyntaxNode) (places : List Place) (from index : ℕ)
    → ArePlaces nodes places
    → AreFedBack (nodes_before nodes index)
    → from ≤ index
    → index ≤ length nodes
    → AreFedBack (run_before nodes from index)
    → BodiesBegin (IsMarked places) from (run_before nodes from index)
bodies_marked nodes places from index are all order inside =
    run_each nodes from index (λ ns. BodiesBegin (IsMarked places) from ns) tt
    (λ k n after before at more rest.
    let earlier : AreFedBack (nodes_before nodes k) =
    earlier_fed_back (run_before nodes k index) (nodes_before nodes k) (subst (λ (ns : List SyntaxNode). AreFedBack ns) (before_joined nodes k index (omega arith)) all) in (
      if_lambda n.kind (IsMarked places (begin_of from (roots_from from (run_before nodes from k))))
          (λ quantifier is. marked_one nodes places from k n quantifier are earlier after at is more.1 more.0),
      rest,
    )) order inside

-- the body of a lambda expression that is marked within a run: it ends in the run
pub record IsBodyWithin (nodes : List SyntaxNode) (places : List Place) (index stop lambda : ℕ) : Type 0 where
  pub node : SyntaxNode
  pub at : slice_get nodes lambda ≡ Some node
  pub quantifier : Quantifier
  pub is_lambda : node.kind ≡ SyntaxKind.Lambda quantifier
  pub begins : first_at places (lambda - 1) ≡ index
  pub order : index < lambda
  pub within : lambda < stop

pub body_within :
    (nodes : List SyntaxNode) (places : List Place) (from index stop : ℕ)
    → ArePlaces nodes places
    → first_at places (stop - 1) ≡ from
    → from < index
    → index < stop
    → stop ≤ length nodes
    → lambda_at places index ≢ 0
    → IsBodyWithin nodes places index stop (lambda_at places index)
body_within nodes places from index stop are first later order inside marked =
    let lambda = lambda_at places index in
    let body : BeginsBody nodes places index lambda = are.marked index marked in
    let there : lambda < length nodes = slice_get_within nodes lambda body.lambda body.at in
    let begins : first_at places (lambda - 1) ≡ index = body.begins in
    let some : lambda ≢ 0 = marked in
    elim (slice_get_cases nodes (lambda - 1)).1 [
      | inl x ↦
          let own : first_at places (lambda - 1) ≤ lambda - 1 = (node_within nodes places (lambda - 1) x.0 are x.2).0 in
          elim (cases_lt lambda stop) [
            | inl less ↦ record {
              node = body.lambda;
              at = body.at;
              quantifier = body.quantifier;
              is_lambda = body.is_lambda;
              begins = begins;
              order = omega arith;
              within = less;
            }
            | inr over ↦
                let nests : first_at places (lambda - 1) ≤ first_at places (stop - 1) = are.nested (lambda - 1) (stop - 1) (omega arith) (omega arith) (omega arith) in
                absurd (omega arith)
          ]
      | inr y ↦ let past : length nodes ≤ lambda - 1 = y.0 in absurd (omega arith)
    ]
