use Rattle.serde_json.specs.View.{view}
use Rattle.odata_sql.proofs.JsonAnswers.{text_with_fault, text_without_fault}
use Rattle.odata_sql.proofs.json_text.conditions_json.Goals as goal

pub returns-in_ok-object_with_fault-in-Some : goal.returns-in_ok-object_with_fault-in-Some
returns-in_ok-object_with_fault-in-Some c =
    text_with_fault c.args.dialect c.args.found.now c.to_string.result (view c.in_ok-object_with_fault-in-Some.field-0) (view c.in_ok-outcome.outcome) (view c.in_ok-keep.keep)
    c.to_string.ensures.reads_back c.in_ok-outcome.ensures c.in_ok-keep.ensures (view c.in_ok-fault-in-Some.fault) c.in-Some.fault c.in-Some.is c.in_ok-fault-in-Some.ensures
    c.in_ok-object_with_fault-in-Some.ensures

pub returns-in_ok-object_without_fault-in-None : goal.returns-in_ok-object_without_fault-in-None
returns-in_ok-object_without_fault-in-None c =
    text_without_fault c.args.dialect c.args.found.now c.to_string-in-None.result (view c.in_ok-object_without_fault-in-None.field-0) (view c.in_ok-outcome.outcome) (view c.in_ok-keep.keep)
    c.to_string-in-None.ensures.reads_back c.in_ok-outcome.ensures c.in_ok-keep.ensures c.in-None.is c.in_ok-object_without_fault-in-None.ensures
