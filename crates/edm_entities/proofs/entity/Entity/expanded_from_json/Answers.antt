use Rattle.std.proofs.Common.{List, sym, subst}
use Rattle.serde_json.specs.View.{view}
use Rattle.csdl_schema.specs.ExpansionView.{StepModel}
use Rattle.csdl_schema.specs.SchemaModel.{properties_at, type_name_at}
use Rattle.edm_entities.specs.Fits.{Fits}
use Rattle.edm_entities.specs.Row.{Row, expanded_by, value_of}
use Rattle.edm_entities.specs.private.Walk.{row_of}
use Rattle.edm_entities.specs.private.Walk.{FitSlots}
use Rattle.edm_entities.proofs.FitLemmas.RowFaultRefuses.{fault_refuses}
use Rattle.edm_entities.proofs.SlotLemmas.ReadEntities.{entity_fits, is_entity}
use Rattle.edm_entities.proofs.SlotLemmas.RowReported.{row_reported}
use Rattle.edm_entities.proofs.entity.Entity.expanded_from_json.Goals as goal

pub of_row-requires : goal.of_row-requires
of_row-requires c =
    let schema = c.args.schema.now in
    let json = view c.args.row.now in
    is_entity schema c.args.type_id c.in-Ok-copy.copy json c.in-Ok.values c.requires c.in-Ok.ensures.distinct c.in-Ok.ensures.object
    (subst (λ (steps : List StepModel). FitSlots (expanded_by schema steps) json (properties_at schema c.args.type_id) c.in-Ok.values.items) (sym c.in-Ok-copy.ensures.same) c.in-Ok.ensures.fits)

pub returns-in-Ok-copy-clause-fits : goal.returns-in-Ok-copy-clause-fits
returns-in-Ok-copy-clause-fits c =
    let schema = c.args.schema.now in
    let json = view c.args.row.now in
    let name = type_name_at schema c.args.type_id in
    subst (λ (e : Row). Fits (expanded_by schema c.args.expansion.now) name json (value_of e)) (sym c.of_row.ensures)
    (subst (λ (steps : List StepModel). Fits (expanded_by schema steps) name json (value_of (row_of schema c.args.type_id c.in-Ok-copy.copy c.in-Ok.values))) c.in-Ok-copy.ensures.same
    (entity_fits schema c.args.type_id c.in-Ok-copy.copy json c.in-Ok.values c.in-Ok.ensures.distinct c.in-Ok.ensures.object
    (subst (λ (steps : List StepModel). FitSlots (expanded_by schema steps) json (properties_at schema c.args.type_id) c.in-Ok.values.items) (sym c.in-Ok-copy.ensures.same) c.in-Ok.ensures.fits)))

pub returns-in-Err-clause-none_fits : goal.returns-in-Err-clause-none_fits
returns-in-Err-clause-none_fits c some =
    let slots = expanded_by c.args.schema.now c.args.expansion.now in
    let name = type_name_at c.args.schema.now c.args.type_id in
    fault_refuses slots name (view c.args.row.now) c.row_fault.result
    (row_reported slots name (view c.args.row.now) c.in-Err.fault c.row_fault.result c.row_fault.ensures c.in-Err.ensures.fault some)

pub returns-in-Err-clause-first_fault : goal.returns-in-Err-clause-first_fault
returns-in-Err-clause-first_fault c some =
    row_reported (expanded_by c.args.schema.now c.args.expansion.now) (type_name_at c.args.schema.now c.args.type_id) (view c.args.row.now) c.in-Err.fault c.row_fault.result
    c.row_fault.ensures c.in-Err.ensures.fault some
