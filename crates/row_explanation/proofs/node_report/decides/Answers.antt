use Rattle.std.proofs.Common.{◌∙◌, Err, None, Ok, Option, Some, subst, sym}
use Rattle.edm_values.specs.declared.datum.Datum.{Datum}
use Rattle.odata_eval.specs.NodeOutcome.{ReportsNode}
use Rattle.row_explanation.proofs.node_report.decides.Goals as goal

pub returns-in-Ok-None-clause-undecided : goal.returns-in-Ok-None-clause-undecided
returns-in-Ok-None-clause-undecided c =
    let e = c.args.evaluation.now in
    λ _. (
      Ok None,
      subst (λ (found : Option Datum). ReportsNode e.entity.now e.moment.now e.filter.now.list c.args.index (Ok found)) c.in-Ok-None.field-0-is c.in-Ok-None.ensures,
      tt,
    )

pub returns-in-Err-clause-decides : goal.returns-in-Err-clause-decides
returns-in-Err-clause-decides c = λ _. (Err c.in-Err.fault, c.in-Err.ensures, c.is_memory.ensures c.if-is_memory.false)

pub returns-clause-decides : goal.returns-clause-decides
returns-clause-decides c =
    let e = c.args.evaluation.now in
    λ is. (
      Ok c.in-Ok-Some.value,
      subst (λ (found : Option Datum). ReportsNode e.entity.now e.moment.now e.filter.now.list c.args.index (Ok found)) c.in-Ok-Some.field-0-is c.in-Ok-Some.ensures,
      sym c.decides_by.ensures ∙ is,
    )

pub returns-clause-undecided : goal.returns-clause-undecided
returns-clause-undecided c =
    let e = c.args.evaluation.now in
    λ is. (
      Ok (Some c.in-Ok-Some.value),
      subst (λ (found : Option Datum). ReportsNode e.entity.now e.moment.now e.filter.now.list c.args.index (Ok found)) c.in-Ok-Some.field-0-is c.in-Ok-Some.ensures,
      sym c.decides_by.ensures ∙ is,
    )
