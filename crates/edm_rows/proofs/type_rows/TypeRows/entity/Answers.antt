use Rattle.std.proofs.Common.{ap, sym, subst, ◌∙◌}
use Rattle.edm_entities.specs.Row.{IsEntity, row_with}
use Rattle.edm_rows.specs.HeldSchema.{schema_in}
use Rattle.edm_rows.specs.RowsOfType.{RowsOfType}
use Rattle.edm_rows.proofs.RowsRead.{value_entity}
use Rattle.edm_rows.proofs.TypesChanged.{first_distinct}
use Rattle.edm_rows.proofs.type_rows.TypeRows.entity.Goals as goal

pub borrowed-requires : goal.borrowed-requires
borrowed-requires c =
    let rows = c.self.inside in
    let schema = schema_in rows.schema in
    let held = c.self.invariant.ready (ap (λ (r : RowsOfType). r.is_ready) c.self.view_is ∙ c.requires) in
    subst (λ s. IsEntity (row_with s rows.plan.type_id rows.plan.expansion rows.row)) (sym c.schema.ensures)
    (value_entity schema rows.plan.type_id rows.plan.expansion c.self.invariant.is_plan.held (first_distinct schema rows.plan rows.types.items held.0) rows.row held.1)
