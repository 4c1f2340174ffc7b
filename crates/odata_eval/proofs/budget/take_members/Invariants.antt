use Rattle.odata_meaning.specs.Costs.{item_cost}
use Rattle.filter_context.specs.private.ContextModel.{environment_of}
use Rattle.odata_eval.specs.private.Spending.{Takes, members_due}
use Rattle.odata_eval.proofs.budget.take_members.Given as goal

-- the members so far have been paid for
abbrev pub invariant-loop-at : goal.invariant-loop-at
invariant-loop-at g l = Takes (g.B.Counting.left l.fn.budget) (g.B.Counting.left l.budget) (members_due (item_cost (environment_of l.context)) l.left l.members l.at)
