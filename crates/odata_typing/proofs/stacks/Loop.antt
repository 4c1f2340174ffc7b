-- What the loop over a run meets at an index: a node, or the body of a lambda expression.
use Rattle.odata_typing.proofs.Common.{◌≡◌, ◌≢◌, refl, sym, ap, subst, ◌∙◌, ℕ, ◌<◌, ◌≤◌, Some, get_or, length, slice_get, arith, slice_get-get_or, slice_get-map, lambda_at, lambda_of, number_at, places_of, stop_at, last_tree, Quantifier, SyntaxNode, Judged, CheckContext, Walk, IsNodeAt, IsReady, IsRun, IsContext}
use Rattle.std.specs.Option.{option_map}
use Rattle.odata_syntax.specs.declared.node.LiteralKind.{LiteralKind}
use Rattle.odata_syntax.specs.declared.syntax_list.SyntaxKind.{SyntaxKind}
use Rattle.odata_typing.specs.private.LambdaNode.{IsLambdaReady}
use Rattle.odata_typing.proofs.stacks.Lambdas.{IsOverRuns, lambda_at_last, lambda_ready, lambda_step, over_runs}
use Rattle.odata_typing.proofs.stacks.Walking.{IsStep, IsWalking, judged_tree, run_trees}

-- what a read of the nodes gives past their end
abbrev pub no_node : SyntaxNode
no_node = record { kind = SyntaxKind.Lit LiteralKind.Null; span = record { start = 0; stop = 0 }; text = record { start = 0; stop = 0 }; count = 0; place = record { number = 0; first = 0; lambda = 0 } }

-- the mark that is read at an index
abbrev pub mark_at : CheckContext → ℕ → ℕ
mark_at context index = (get_or context.nodes.now index no_node).place.lambda

mark_read : (context : CheckContext) (index : ℕ) → IsContext context → index < length context.nodes.now → mark_at context index ≡ lambda_at (places_of context.nodes.now) index
mark_read context index is inside =
    let at : slice_get context.nodes.now index ≡ Some (get_or context.nodes.now index no_node) = slice_get-get_or context.nodes.now index no_node inside in
    ap lambda_of (sym (slice_get-map (λ (n : SyntaxNode). n.place) context.nodes.now index ∙ ap (option_map (λ (n : SyntaxNode). n.place)) at))

-- where none is read no body begins
pub none_read : (context : CheckContext) (from stop index : ℕ) → IsContext context → IsRun context from stop → index < stop → mark_at context index ≡ 0 → lambda_at (places_of context.nodes.now) index ≡ 0
none_read context from stop index is run before none =
    let inside : stop ≤ length context.nodes.now = run.inside in
    sym (mark_read context index is (omega arith)) ∙ none

-- the lambda expression whose body begins at the index can be judged
pub record IsLambdaThere (context : CheckContext) (from stop index last : ℕ) (walk : Walk) : Type 0 where
  pub judged : Judged
  pub quantifier : Quantifier
  pub ready : IsLambdaReady context walk index last judged quantifier (last_tree (run_trees context from index))
  pub step : IsStep context walk from stop last judged (judged_tree judged (lambda_at_last context from index last quantifier judged))
  pub later : from < index
  pub order : index < last
  pub within : last < stop

abbrev judged_at : CheckContext → ℕ → SyntaxNode → Judged
judged_at context last n = record {
  node = record { ref_ptr = (0, 0); now = n };
  number = number_at (places_of context.nodes.now) last;
  stop = stop_at (places_of context.nodes.now) last;
}

pub lambda_there :
    (context : CheckContext) (from stop index : ℕ) (old walk : Walk)
    → IsContext context
    → IsReady context old
    → IsRun context from stop
    → IsWalking context from stop index old walk
    → index < stop
    → index ≢ from
    → mark_at context index ≢ 0
    → IsLambdaThere context from stop index (mark_at context index) walk
lambda_there context from stop index old walk is ready run walking inside not_first marked =
    let last = mark_at context index in
    let within : stop ≤ length context.nodes.now = run.inside in
    let mark : last ≡ lambda_at (places_of context.nodes.now) index = mark_read context index is (omega arith) in
    let order : from ≤ index = walking.order in
    let later : from < index = omega arith in
    let some : lambda_at (places_of context.nodes.now) index ≢ 0 = omega arith in
    let found = over_runs context from index stop is run later inside some in
    let over : IsOverRuns context from index stop last found.0 found.1 =
    subst (λ (k : ℕ). IsOverRuns context from index stop k found.0 found.1) (sym mark) found.2 in
    let at : IsNodeAt context last (judged_at context last found.0) = record { at = over.at; number = refl; stop = refl } in
    record {
      judged = judged_at context last found.0;
      quantifier = found.1;
      ready = lambda_ready context from index stop last old walk (judged_at context last found.0) found.1 is ready walking at over;
      step = lambda_step context from index stop last old walk (judged_at context last found.0) found.1 is walking later at over;
      later = later;
      order = over.body.order;
      within = over.body.within;
    }
