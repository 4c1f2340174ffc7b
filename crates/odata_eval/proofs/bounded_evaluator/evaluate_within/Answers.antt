use Rattle.std.proofs.Common.{◌≡◌, Ok, Err, Some, None, subst}
use Rattle.odata_filter_operations.specs.declared.eval_fault.EvalFault.{EvalFault}
use Rattle.odata_eval.specs.declared.budget.Budget.{Budget}
use Rattle.odata_eval.specs.declared.stop.EvalStop.{EvalStop}
use Rattle.odata_eval.specs.private.Spending.{CountedTruth, SpendsAt}
use Rattle.odata_eval.proofs.spending.Bound.{fault_within, top_bound, verdict_within}
use Rattle.odata_eval.proofs.walking.TopNode.{top_memory, top_outcome, top_stands}
use Rattle.odata_eval.proofs.bounded_evaluator.evaluate_within.Goals as goal

pub truth_at-requires : goal.truth_at-requires
truth_at-requires c = record {
  stands = top_stands c.args.checked.now c.args.entity.now c.args.now.now c.of-context.result c.nodes-nodes.ensures.right c.requires.one_schema c.requires.one_type
      c.of-context.ensures.row c.of-context.ensures.moment c.of-context.ensures.list c.of-context.ensures.variables;
}

pub returns-in-Ok-clause-outcome : goal.returns-in-Ok-clause-outcome
returns-in-Ok-clause-outcome c =
    rw c.verdict_of.ensures (top_outcome c.args.checked.now c.args.entity.now c.args.now.now c.of-context.result c.nodes-nodes.ensures.right c.requires.one_schema c.requires.one_type
    c.of-context.ensures.row c.of-context.ensures.moment c.of-context.ensures.list c.of-context.ensures.variables c.ends_once.ensures (Ok c.in-Ok.truth) c.in-Ok.ensures.answers)

pub returns-in-Ok-clause-bound : goal.returns-in-Ok-clause-bound
returns-in-Ok-clause-bound c =
    top_bound c.args.checked.now c.args.entity.now c.args.now.now c.of-context.result c.nodes-nodes.ensures.right c.requires.one_schema c.requires.one_type
    c.of-context.ensures.row c.of-context.ensures.moment c.of-context.ensures.list c.of-context.ensures.variables c.costs_once.ensures c.args.most c.truth_at.new.budget (Ok (Some c.verdict_of.result)) None
    (verdict_within c.args.most c.truth_at.new.budget c.verdict_of.result) c.in-Ok.ensures.spent

pub returns-in-Err-Fault-clause-outcome : goal.returns-in-Err-Fault-clause-outcome
returns-in-Err-Fault-clause-outcome c =
    top_outcome c.args.checked.now c.args.entity.now c.args.now.now c.of-context.result c.nodes-nodes.ensures.right c.requires.one_schema c.requires.one_type
    c.of-context.ensures.row c.of-context.ensures.moment c.of-context.ensures.list c.of-context.ensures.variables c.ends_once.ensures (Err c.in-Err-Fault.fault) (subst (λ (s : EvalStop). CountedTruth c.of-context.result 0 (Err s)) c.in-Err-Fault.field-0-is c.in-Err-Fault.ensures.answers)

pub returns-in-Err-Fault-clause-bound : goal.returns-in-Err-Fault-clause-bound
returns-in-Err-Fault-clause-bound c =
    top_bound c.args.checked.now c.args.entity.now c.args.now.now c.of-context.result c.nodes-nodes.ensures.right c.requires.one_schema c.requires.one_type
    c.of-context.ensures.row c.of-context.ensures.moment c.of-context.ensures.list c.of-context.ensures.variables c.costs_once.ensures c.args.most c.truth_at.new.budget (Err c.in-Err-Fault.fault) (Some (EvalStop.Fault c.in-Err-Fault.fault))
    (fault_within c.args.most c.truth_at.new.budget c.in-Err-Fault.fault) (subst (λ (s : EvalStop). SpendsAt c.of-context.result 0 (Budget.Left c.args.most) c.truth_at.new.budget (Some s)) c.in-Err-Fault.field-0-is c.in-Err-Fault.ensures.spent)

pub returns-in-Err-Fault-clause-no_memory : goal.returns-in-Err-Fault-clause-no_memory
returns-in-Err-Fault-clause-no_memory c =
    λ takes_none same.
    let memory : c.in-Err-Fault.fault ≡ EvalFault.Memory = cc in
    takes_none (top_memory c.args.checked.now c.args.entity.now c.args.now.now c.of-context.result c.nodes-nodes.ensures.right c.requires.one_schema c.requires.one_type
    c.of-context.ensures.row c.of-context.ensures.moment c.of-context.ensures.list c.of-context.ensures.variables c.in-Err-Fault.fault (subst (λ (s : EvalStop). CountedTruth c.of-context.result 0 (Err s)) c.in-Err-Fault.field-0-is c.in-Err-Fault.ensures.answers) memory)

pub returns-clause-bound : goal.returns-clause-bound
returns-clause-bound c =
    top_bound c.args.checked.now c.args.entity.now c.args.now.now c.of-context.result c.nodes-nodes.ensures.right c.requires.one_schema c.requires.one_type
    c.of-context.ensures.row c.of-context.ensures.moment c.of-context.ensures.list c.of-context.ensures.variables c.costs_once.ensures c.args.most c.truth_at.new.budget (Ok None) (Some EvalStop.TooCostly)
    (λ n fewer. fewer) (subst (λ (s : EvalStop). SpendsAt c.of-context.result 0 (Budget.Left c.args.most) c.truth_at.new.budget (Some s)) c.in-Err-TooCostly.field-0-is c.in-Err-TooCostly.ensures.spent)
