use Rattle.std.proofs.Common.{ap, ◌∙◌, ◌≡◌, Ok, Err, subst}
use Rattle.std.proofs.lemmas.Result.{err_from_is_err_and}
use Rattle.odata_filter_operations.specs.declared.eval_fault.EvalFault.{EvalFault}
use Rattle.odata_eval.specs.private.RemainingTerms.{IsRemaining}
use Rattle.filter_context.specs.private.ContextModel.{ContextModel}
use Rattle.odata_eval.proofs.walking.TopNode.{context_is, top_memory, top_outcome, top_stands}
use Rattle.odata_eval.proofs.evaluator.evaluate_remaining.Goals as goal

pub truth_of_remaining-requires : goal.truth_of_remaining-requires
truth_of_remaining-requires c = record {
  remaining = subst (λ (s : ContextModel). IsRemaining s c.args.remaining)
      (context_is c.args.entity.now c.args.now.now c.args.checked.now.list c.of-context.result c.of-context.ensures.row c.of-context.ensures.moment c.of-context.ensures.list c.of-context.ensures.variables)
      c.requires.remaining;
  stands = top_stands c.args.checked.now c.args.entity.now c.args.now.now c.of-context.result c.nodes-nodes.ensures.right c.requires.one_schema c.requires.one_type
      c.of-context.ensures.row c.of-context.ensures.moment c.of-context.ensures.list c.of-context.ensures.variables;
}

pub returns-clause-outcome : goal.returns-clause-outcome
returns-clause-outcome c =
    rw c.verdict_of.ensures (top_outcome c.args.checked.now c.args.entity.now c.args.now.now c.of-context.result c.nodes-nodes.ensures.right c.requires.one_schema c.requires.one_type
    c.of-context.ensures.row c.of-context.ensures.moment c.of-context.ensures.list c.of-context.ensures.variables c.ends_once.ensures (Ok c.in_ok-truth.truth) c.in_ok-truth.ensures)

pub returns-in_err-truth-clause-outcome : goal.returns-in_err-truth-clause-outcome
returns-in_err-truth-clause-outcome c =
    let exit = err_from_is_err_and c.from_residual.result c.from_residual.ensures.1 in
    rw (exit.1 ∙ ap Err exit.2) (top_outcome c.args.checked.now c.args.entity.now c.args.now.now c.of-context.result c.nodes-nodes.ensures.right c.requires.one_schema c.requires.one_type
    c.of-context.ensures.row c.of-context.ensures.moment c.of-context.ensures.list c.of-context.ensures.variables c.ends_once.ensures (Err c.in_err-truth.field-0.0) c.in_err-truth.ensures)

pub returns-in_err-truth-clause-no_memory : goal.returns-in_err-truth-clause-no_memory
returns-in_err-truth-clause-no_memory c =
    λ takes_none same.
    let exit = err_from_is_err_and c.from_residual.result c.from_residual.ensures.1 in
    let reported : c.from_residual.result ≡ Err c.in_err-truth.field-0.0 = exit.1 ∙ ap Err exit.2 in
    let memory : c.in_err-truth.field-0.0 ≡ EvalFault.Memory = cc in
    takes_none (top_memory c.args.checked.now c.args.entity.now c.args.now.now c.of-context.result c.nodes-nodes.ensures.right c.requires.one_schema c.requires.one_type
    c.of-context.ensures.row c.of-context.ensures.moment c.of-context.ensures.list c.of-context.ensures.variables c.in_err-truth.field-0.0 c.in_err-truth.ensures memory)
