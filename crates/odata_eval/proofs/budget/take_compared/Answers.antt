use Rattle.std.proofs.Common.{subst, sym}
use Rattle.edm_values.specs.declared.datum.Datum.{Datum}
use Rattle.odata_filter_operations.specs.Collections.{AreComparedIn}
use Rattle.odata_meaning.specs.Costs.{item_cost}
use Rattle.filter_context.specs.private.ContextModel.{environment_of}
use Rattle.odata_eval.specs.private.Spending.{IsTaken, path_due}
use Rattle.odata_eval.proofs.spending.Compared.{taken_unbounded}
use Rattle.odata_eval.proofs.budget.take_compared.Goals as goal

pub returns-then-not-is_counting : goal.returns-then-not-is_counting
returns-then-not-is_counting g c =
    taken_unbounded (g.B.Counting.left c.args.budget.now) (path_due (item_cost (environment_of c.args.context.now)) c.args.left.now c.args.path.now c.args.count)
    (c.is_counting.ensures c.if-not-is_counting.true c.args.budget.now)

pub take_members-requires : goal.take_members-requires
take_members-requires g c = subst (λ (p : Datum). AreComparedIn c.args.left.now p c.args.count) c.in-List.is c.requires

pub returns-in-List : goal.returns-in-List
returns-in-List g c =
    subst (λ (p : Datum). IsTaken c.take_members.result (g.B.Counting.left c.args.budget.now) (g.B.Counting.left c.take_members.new.budget) (path_due (item_cost (environment_of c.args.context.now)) c.args.left.now p c.args.count))
    (sym c.in-List.is) c.take_members.ensures
