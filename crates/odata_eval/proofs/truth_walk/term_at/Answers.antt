use Rattle.std.proofs.Common.{Some, subst}
use Rattle.odata_signatures.specs.ExprTypes.{IsBooleanOrNull}
use Rattle.odata_eval.specs.declared.budget.Budget.{Budget}
use Rattle.odata_eval.specs.declared.stop.EvalStop.{EvalStop}
use Rattle.odata_eval.specs.private.Spending.{SpendsAt}
use Rattle.odata_eval.proofs.spending.Bound.{never_costly}
use Rattle.filter_context.proofs.Spines.{typed_part}
use Rattle.filter_context.proofs.Operands.{tree_operand}
use Rattle.odata_eval.proofs.truth_walk.term_at.Goals as goal

pub fault_of-requires : goal.fault_of-requires
fault_of-requires c = λ same.
    never_costly c.args.context.now c.args.place (tree_operand c.args.context.now c.args.place (typed_part c.args.context.now c.args.place IsBooleanOrNull c.requires.stands)) c.costs_once.ensures Budget.Unbounded
    (subst (λ (s : EvalStop). SpendsAt c.args.context.now c.args.place Budget.Unbounded Budget.Unbounded (Some s)) same c.in-Err.ensures.spent)
