use Rattle.std.proofs.Common.{◌<◌, List, length, Some, sym, subst, ◌∙◌, arith}
use Rattle.csdl_schema.specs.SchemaModel.{properties_at}
use Rattle.edm_rows.specs.private.Passed.{IsRowValue}
use Rattle.edm_row_plans.specs.Expanded.{slots_at}
use Rattle.edm_rows.specs.HeldSchema.{schema_in}
use Rattle.edm_rows.specs.declared.row_types.RowType.{RowType}
use Rattle.edm_rows.specs.private.HeldRows.{HasFirstType}
use Rattle.edm_rows.proofs.RowsStay.{reader_stays}
use Rattle.edm_rows.proofs.TypesChanged.{types_there}
use Rattle.edm_rows.proofs.type_rows.TypeRows.begin.Goals as goal

pub fill_row-self-inside-requires-clause-first : goal.fill_row-self-inside-requires-clause-first
fill_row-self-inside-requires-clause-first c =
    let rows = c.self.inside in
    let some : 0 < length rows.types.items = omega arith in
    let are = types_there (schema_in rows.schema) rows.plan rows.types.items some c.self.invariant.types in
    subst (λ (l : List RowType). HasFirstType rows.plan l) (sym c.as_slice.ensures.value) are.first

pub invariant_of-self : goal.invariant_of-self
invariant_of-self c =
    let rows = c.self.inside in
    let some : 0 < length rows.types.items = omega arith in
    let row = c.keep_if.new.row in
    reader_stays rows c.self.invariant c.fill_row-self-inside.new.cache rows.known row c.self.invariant.known c.fill_row-self-inside.result (types_there (schema_in rows.schema) rows.plan rows.types.items some c.self.invariant.types)
    (λ done. let fills = c.fill_row-self-inside.ensures done in
    subst (λ s. IsRowValue (slots_at s rows.plan.expansion (Some 0)) (properties_at s rows.plan.type_id) row) c.schema.ensures
    (fills.values, c.keep_if.ensures done ∙ fills.is_record, fills.conforms))
