-- The walk over a run: a lambda expression whose body begins at an index.
use Rattle.odata_typing.proofs.Common.{◌≡◌, ◌≢◌, refl, ap, sym, subst, ◌∙◌, ℕ, suc, ◌+◌, ◌-◌, ◌<◌, ◌≤◌, List, [], ◌∷◌, ◌++◌, Some, take, drop, length, slice_get, arith, AreBefore, AreSideBySide, lambda_at, number_at, places_of, stop_at, Texts, child_count, last_tree, shape_over, trees_back, trees_left, tree_count_back, HasText, text_in, Shape, Tree, lambda, node, Quantifier, Place, SyntaxNode, Judged, CheckContext, Walk, IsStanding, IsNodeAt, IsReady, IsRun, IsContext, run_tree, scope_of, slice_range, name_of}
use Rattle.odata_syntax.specs.declared.syntax_list.SyntaxKind.{SyntaxKind}
use Rattle.odata_typing.specs.private.LambdaNode.{IsLambdaReady}
use Rattle.odata_typing.proofs.stacks.Children.{before_is, roots_count, trees_count}
use Rattle.odata_typing.proofs.stacks.FirstFault.{none_after}
use Rattle.odata_typing.proofs.stacks.Judged.{judged_drop}
use Rattle.odata_typing.proofs.stacks.Marks.{IsBodyWithin, IsMarked, body_within}
use Rattle.odata_typing.proofs.stacks.Ranges.{one_root}
use Rattle.odata_typing.proofs.stacks.Runs.{roots_apart}
use Rattle.odata_typing.proofs.stacks.Contexts.{body_run, node_ready}
use Rattle.odata_typing.proofs.stacks.Slices.{run_joined, run_length, run_more}
use Rattle.odata_typing.proofs.stacks.Stacks.{roots_from, run_before}
use Rattle.odata_typing.proofs.stacks.TreeRuns.{one_more_tree}
use Rattle.odata_typing.proofs.stacks.Walking.{AreTreesJudged, IsOver, IsStep, IsWalking, judged_tree, node_over, ready_still, run_roots, run_trees}

-- the shape of a lambda expression over a base and a body
abbrev pub lambda_at_last : CheckContext → ℕ → ℕ → ℕ → Quantifier → Judged → Shape
lambda_at_last context from index last quantifier judged =
    lambda quantifier (last_tree (run_trees context from index)) (name_of context judged) (run_tree context index last)

-- the last root and the last tree of some, and the others
pub record HasLast (roots : List ℕ) (trees : List Tree) : Type 0 where
  pub root : ℕ
  pub roots_are : roots ≡ root ∷ drop 1 roots
  pub trees_are : trees ≡ last_tree trees ∷ drop 1 trees

has_last : (roots : List ℕ) (trees : List Tree) → 1 ≤ length roots → 1 ≤ length trees → HasLast roots trees
has_last [] trees some more = absurd (omega arith)
has_last (root ∷ roots) [] some more = absurd (omega arith)
has_last (root ∷ roots) (tree ∷ trees) some more = record { root = root; roots_are = refl; trees_are = refl }

-- the body of a lambda expression, and the base before it
pub record IsOverRuns (context : CheckContext) (from index stop last : ℕ) (n : SyntaxNode) (quantifier : Quantifier) : Type 0 where
  pub body : IsBodyWithin context.nodes.now (places_of context.nodes.now) index stop last
  pub run : IsRun context index last
  pub at : slice_get context.nodes.now last ≡ Some n
  pub is_lambda : n.kind ≡ SyntaxKind.Lambda quantifier
  pub roots_are : run_roots context from last ≡ (last - 1) ∷ run_roots context from index
  pub trees_are : run_trees context from last ≡ run_tree context index last ∷ run_trees context from index
  pub base : HasLast (run_roots context from index) (run_trees context from index)
  pub at_last : IsOver context from last n

pub over_runs :
    (context : CheckContext) (from index stop : ℕ)
    → IsContext context
    → IsRun context from stop
    → from < index
    → index < stop
    → lambda_at (places_of context.nodes.now) index ≢ 0
    → (n : SyntaxNode) × (quantifier : Quantifier) × IsOverRuns context from index stop (lambda_at (places_of context.nodes.now) index) n quantifier
over_runs context from index stop is run later before marked =
    let nodes = context.nodes.now in
    let places = places_of context.nodes.now in
    let names : Texts = text_in context.text.now in
    let last = lambda_at places index in
    let inside : stop ≤ length nodes = run.inside in
    let body : IsBodyWithin nodes places index stop last = body_within nodes places from index stop is.places run.begins later before inside marked in
    let order : index < last = body.order in
    let within : last < stop = body.within in
    let own : IsRun context index last = body_run context index stop last is inside refl body in
    let whole = own.whole in
    let n = body.node in
    let two : child_count n.kind n.count ≡ 2 = ap (λ (k : SyntaxKind). child_count k n.count) body.is_lambda in
    let at_last : IsOver context from last n = node_over context from stop last n is run (omega arith) within body.at in
    let fits : child_count n.kind n.count ≤ tree_count_back (run_before nodes from last) = at_last.fits in
    let joined : run_before nodes from last ≡ run_before nodes index last ++ run_before nodes from index = run_joined nodes from index last (omega arith) (omega arith) in
    let long : length (run_before nodes from index) ≡ index - from = run_length nodes from index (omega arith) (omega arith) in
    let start : from + length (run_before nodes from index) ≡ index = omega arith in
    let body_long : length (run_before nodes index last) ≡ last - index = run_length nodes index last (omega arith) (omega arith) in
    let one : roots_from index (run_before nodes index last) ≡ (last - 1) ∷ [] = one_root index last (run_before nodes index last) (omega arith) whole.one in
    let roots : run_roots context from last ≡ (last - 1) ∷ run_roots context from index =
    ap (λ (ns : List SyntaxNode). roots_from from ns) joined
    ∙ roots_apart from (run_before nodes index last) (run_before nodes from index) whole.fed
    ∙ ap (λ (k : ℕ). roots_from k (run_before nodes index last) ++ run_roots context from index) start
    ∙ ap (λ (rs : List ℕ). rs ++ run_roots context from index) one in
    let trees : run_trees context from last ≡ run_tree context index last ∷ run_trees context from index =
    ap (λ (ns : List SyntaxNode). trees_back names ns) joined ∙ one_more_tree names (slice_range nodes index last) (run_before nodes from index) whole in
    let count : length (run_roots context from last) ≡ tree_count_back (run_before nodes from last) = roots_count from (run_before nodes from last) in
    let more : length (run_roots context from last) ≡ suc (length (run_roots context from index)) = ap (λ (rs : List ℕ). length rs) roots in
    let roots_many : length (run_roots context from index) ≡ tree_count_back (run_before nodes from index) = roots_count from (run_before nodes from index) in
    let trees_many : length (run_trees context from index) ≡ tree_count_back (run_before nodes from index) = trees_count names (run_before nodes from index) in (
      n,
      body.quantifier,
      record {
        body = body;
        run = own;
        at = body.at;
        is_lambda = body.is_lambda;
        roots_are = roots;
        trees_are = trees;
        base = has_last (run_roots context from index) (run_trees context from index) (omega arith) (omega arith);
        at_last = at_last;
      },
    )

-- its children stand side by side: the base, and the body
pub record StandBaseAndBody (places : List Place) (root last : ℕ) : Type 0 where
  pub starts : number_at places last + 1 ≡ number_at places root
  pub between : stop_at places root ≡ number_at places (last - 1)
  pub stops : stop_at places (last - 1) ≡ stop_at places last

pub base_and_body :
    (context : CheckContext) (from index stop last : ℕ) (n : SyntaxNode) (quantifier : Quantifier) (over : IsOverRuns context from index stop last n quantifier)
    → StandBaseAndBody (places_of context.nodes.now) over.base.root last
base_and_body context from index stop last n quantifier over =
    let places = places_of context.nodes.now in
    let Row : ℕ → List ℕ → Type 0 = λ (k : ℕ) (rs : List ℕ). AreSideBySide places (number_at places k + 1) (stop_at places k) rs in
    let two : child_count n.kind n.count ≡ 2 = ap (λ (k : SyntaxKind). child_count k n.count) over.is_lambda in
    let roots : run_roots context from last ≡ (last - 1) ∷ over.base.root ∷ drop 1 (run_roots context from index) =
    over.roots_are ∙ ap (λ (rs : List ℕ). (last - 1) ∷ rs) over.base.roots_are in
    let taken : take (child_count n.kind n.count) (run_roots context from last) ≡ (last - 1) ∷ over.base.root ∷ [] =
    ap (λ (k : ℕ). take k (run_roots context from last)) two ∙ ap (λ (rs : List ℕ). take 2 rs) roots in
    let placed : Row (from + length (run_before context.nodes.now from last)) (take (child_count n.kind n.count) (run_roots context from last)) = over.at_last.placed.children in
    let row : Row last ((last - 1) ∷ over.base.root ∷ []) =
    subst (λ (rs : List ℕ). Row last rs) taken
    (subst (λ (k : ℕ). Row k (take (child_count n.kind n.count) (run_roots context from last))) over.at_last.here placed) in
    record { starts = row.1.1; between = row.1.0; stops = row.0 }

-- it can be judged
pub lambda_ready :
    (context : CheckContext) (from index stop last : ℕ) (old walk : Walk) (judged : Judged) (quantifier : Quantifier)
    → IsContext context
    → IsReady context old
    → IsWalking context from stop index old walk
    → IsNodeAt context last judged
    → IsOverRuns context from index stop last judged.node.now quantifier
    → IsLambdaReady context walk index last judged quantifier (last_tree (run_trees context from index))
lambda_ready context from index stop last old walk judged quantifier is ready walking at over =
    let places = places_of context.nodes.now in
    let schema = context.schema.now in
    let stand = base_and_body context from index stop last judged.node.now quantifier over in
    let split : AreTreesJudged context walk (over.base.root ∷ drop 1 (run_roots context from index)) (last_tree (run_trees context from index) ∷ drop 1 (run_trees context from index)) =
    subst (λ (rs : List ℕ). AreTreesJudged context walk rs (last_tree (run_trees context from index) ∷ drop 1 (run_trees context from index))) over.base.roots_are
    (subst (λ (ts : List Tree). AreTreesJudged context walk (run_roots context from index) ts) over.base.trees_are walking.judged) in
    let number : number_at places over.base.root ≡ judged.number + 1 = sym stand.starts ∙ ap (λ (k : ℕ). k + 1) (sym at.number) in
    let Base : ℕ → ℕ → Type 0 = λ (i j : ℕ). IsStanding schema context.filtered_type (scope_of context) walk i j (last_tree (run_trees context from index)) in
    let base : Base (judged.number + 1) (number_at places (last - 1)) =
    subst (λ (i : ℕ). Base i (number_at places (last - 1))) number (subst (λ (j : ℕ). Base (number_at places over.base.root) j) stand.between split.0) in
    let has_text : HasText judged.node.now.kind = subst (λ (k : SyntaxKind). HasText k) (sym over.is_lambda) tt in
    record {
      context_is = is;
      at = at;
      lambda_is = over.is_lambda;
      ready = node_ready context walk last judged is (ready_still context from stop index old walk ready walking) at;
      text = is.ranges last judged.node.now at.at has_text;
      base_stands = base;
      body = over.run;
      body_stop = stand.stops ∙ sym at.stop;
    }

-- and it joins the base with the body

pub lambda_step :
    (context : CheckContext) (from index stop last : ℕ) (old walk : Walk) (judged : Judged) (quantifier : Quantifier)
    → IsContext context
    → IsWalking context from stop index old walk
    → from < index
    → IsNodeAt context last judged
    → IsOverRuns context from index stop last judged.node.now quantifier
    → IsStep context walk from stop last judged (judged_tree judged (lambda_at_last context from index last quantifier judged))
lambda_step context from index stop last old walk judged quantifier is walking later at over =
    let n = judged.node.now in
    let nodes = context.nodes.now in
    let places = places_of context.nodes.now in
    let names : Texts = text_in context.text.now in
    let roots = run_roots context from index in
    let trees = run_trees context from index in
    let body = run_tree context index last in
    let order : index < last = over.body.order in
    let two : child_count n.kind n.count ≡ 2 = ap (λ (k : SyntaxKind). child_count k n.count) over.is_lambda in
    let next : run_before nodes from (last + 1) ≡ n ∷ run_before nodes from last = run_more nodes from last n (omega arith) over.at in
    let left : drop (child_count n.kind n.count) (run_roots context from last) ≡ drop 1 roots =
    ap (λ (k : ℕ). drop k (run_roots context from last)) two ∙ ap (λ (rs : List ℕ). drop 2 rs) over.roots_are in
    record {
      roots = drop 1 roots;
      trees = drop 1 trees;
      order = omega arith;
      within = over.body.within;
      at = at;
      roots_are =
          ap (λ (ns : List SyntaxNode). roots_from from ns) next
          ∙ ap (λ (k : ℕ). k ∷ drop (child_count n.kind n.count) (run_roots context from last)) over.at_last.here
          ∙ ap (λ (rs : List ℕ). last ∷ rs) left;
      trees_are =
          ap (λ (ns : List SyntaxNode). trees_back names ns) next
          ∙ ap (λ (ts : List Tree). node n.span.start n.span.stop (shape_over n.kind (names n.text) n.count ts) ∷ trees_left n.kind n.count ts) over.trees_are
          ∙ ap (λ (k : SyntaxKind). node n.span.start n.span.stop (shape_over k (names n.text) n.count (body ∷ trees)) ∷ trees_left k n.count (body ∷ trees)) over.is_lambda
          ∙ ap (λ (ts : List Tree). judged_tree judged (lambda_at_last context from index last quantifier judged) ∷ ts) (before_is trees);
      before =
          subst (λ (k : ℕ). AreBefore places (number_at places k) (drop 1 roots)) over.at_last.here
          (subst (λ (rs : List ℕ). AreBefore places (number_at places (from + length (run_before nodes from last))) rs) left over.at_last.placed.older);
      others = judged_drop context.schema.now context.filtered_type (scope_of context) walk places 1 roots trees walking.judged;
      apart = none_after (IsMarked places) last 0 roots walking.apart;
    }
