use Rattle.std.proofs.Common.{List, sym, subst}
use Rattle.csdl_schema.specs.ExpansionView.{StepModel}
use Rattle.csdl_schema.specs.SchemaModel.{properties_at, type_name_at}
use Rattle.edm_entities.specs.Fits.{Fits}
use Rattle.edm_entities.specs.Row.{Row, expanded_by, value_of}
use Rattle.edm_entities.specs.private.Walk.{FitSlots, row_of}
use Rattle.edm_entities.proofs.SlotLemmas.ReadEntities.{entity_fits, is_entity}
use Rattle.edm_entities.proofs.entity.Entity.expanded_from_text.Goals as goal

pub of_row-requires : goal.of_row-requires
of_row-requires c =
    let schema = c.args.schema.now in
    let are = c.in-Ok.ensures.values in
    is_entity schema c.args.type_id c.in-Ok-copy.copy are.json c.in-Ok.values c.requires are.distinct are.is_object
    (subst (λ (steps : List StepModel). FitSlots (expanded_by schema steps) are.json (properties_at schema c.args.type_id) c.in-Ok.values.items) (sym c.in-Ok-copy.ensures.same) are.fit)

pub returns-in-Ok-copy-clause-fits : goal.returns-in-Ok-copy-clause-fits
returns-in-Ok-copy-clause-fits c =
    let schema = c.args.schema.now in
    let are = c.in-Ok.ensures.values in
    let name = type_name_at schema c.args.type_id in (
      are.json,
      are.is_json,
      subst (λ (e : Row). Fits (expanded_by schema c.args.expansion.now) name are.json (value_of e)) (sym c.of_row.ensures)
          (subst (λ (steps : List StepModel). Fits (expanded_by schema steps) name are.json (value_of (row_of schema c.args.type_id c.in-Ok-copy.copy c.in-Ok.values))) c.in-Ok-copy.ensures.same
          (entity_fits schema c.args.type_id c.in-Ok-copy.copy are.json c.in-Ok.values are.distinct are.is_object
          (subst (λ (steps : List StepModel). FitSlots (expanded_by schema steps) are.json (properties_at schema c.args.type_id) c.in-Ok.values.items) (sym c.in-Ok-copy.ensures.same) are.fit))),
    )
