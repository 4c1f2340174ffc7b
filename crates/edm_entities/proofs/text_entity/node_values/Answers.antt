use Rattle.std.proofs.Common.{Some}
use Rattle.csdl_schema.specs.SchemaModel.{type_name_at}
use Rattle.edm_entities.specs.private.JsonNodes.{data_of}
use Rattle.edm_entities.specs.private.Walk.{slots_in}
use Rattle.edm_entities.proofs.SlotLemmas.RowReported.{row_reported}
use Rattle.edm_entities.proofs.text_entity.node_values.Goals as goal

pub returns-in-Ok-clause-values : goal.returns-in-Ok-clause-values
returns-in-Ok-clause-values c text is =
    let read = c.in-Ok.ensures in
    record { json = data_of c.args.json.now; is_json = is; is_object = read.object; distinct = read.distinct; fit = read.fits }

pub returns-in-Err-clause-fault : goal.returns-in-Err-clause-fault
returns-in-Err-clause-fault c text is some =
    let context = c.args.context.now in
    let json = data_of c.args.json.now in (
      json,
      is,
      row_reported (slots_in context (Some 0)) (type_name_at context.schema.now c.args.type_id) json c.in-Err.fault c.row_fault.result c.row_fault.ensures c.in-Err.ensures.fault some,
    )
