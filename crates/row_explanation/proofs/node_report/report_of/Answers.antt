use Rattle.std.proofs.Common.{Ok, Option, subst}
use Rattle.edm_values.specs.declared.datum.Datum.{Datum}
use Rattle.odata_eval.specs.NodeOutcome.{ReportsNode}
use Rattle.row_explanation.proofs.node_report.report_of.Goals as goal

pub returns-then-is_out : goal.returns-then-is_out
returns-then-is_out c = c.in_ok-is_out.ensures.left_out c.if-is_out.true

pub returns-in-Ok-Some : goal.returns-in-Ok-Some
returns-in-Ok-Some c =
    let e = c.args.evaluation.now in (
      subst (λ (found : Option Datum). ReportsNode e.entity.now e.moment.now e.filter.now.list c.args.index (Ok found)) c.in-Ok-Some.field-0-is c.in-Ok-Some.ensures,
      c.in_ok-is_out.ensures.reached c.if-is_out.false,
    )

pub returns-in-Ok-None : goal.returns-in-Ok-None
returns-in-Ok-None c =
    let e = c.args.evaluation.now in (
      subst (λ (found : Option Datum). ReportsNode e.entity.now e.moment.now e.filter.now.list c.args.index (Ok found)) c.in-Ok-None.field-0-is c.in-Ok-None.ensures c.requires.index,
      c.in_ok-is_out.ensures.reached c.if-is_out.false,
    )

pub returns-else-is_memory : goal.returns-else-is_memory
returns-else-is_memory c = ((c.is_memory.ensures c.if-is_memory.false, c.in-Err.ensures), c.in_ok-is_out.ensures.reached c.if-is_out.false)
