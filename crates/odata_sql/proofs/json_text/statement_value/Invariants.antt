use Rattle.std.proofs.Common.{take}
use Rattle.serde_json.specs.View.{items_view}
use Rattle.odata_sql.specs.JsonText.{AreParameters}
use Rattle.odata_sql.proofs.json_text.statement_value.Given as goal

-- the parameters so far
abbrev pub invariant-loop-parameter : goal.invariant-loop-parameter
invariant-loop-parameter l =
    AreParameters l.dialect (take l.parameter-index l.parameter-items) (items_view l.parameters.items)
