use Rattle.std.proofs.Common.{sym, subst}
use Rattle.csdl_schema.specs.SchemaModel.{SchemaModel}
use Rattle.edm_entities.specs.Row.{IsEntity, row_with}
use Rattle.edm_rows.specs.RowLayout.{LayoutOfRows}
use Rattle.edm_rows.specs.private.LayoutRows.{row_by}
use Rattle.edm_rows.proofs.layout_reader.LayoutReader.read.Goals as goal

pub borrowed-requires : goal.borrowed-requires
borrowed-requires c =
    let layout = c.layout.inside in
    let value = c.fill_line.new.row in
    let is = subst (λ (l : LayoutOfRows). IsEntity (row_by l value)) (sym c.layout.view_is) (c.fill_line.ensures.entity c.if-not-fill_line.false) in
    subst (λ (s : SchemaModel). IsEntity (row_with s layout.plan.type_id layout.plan.expansion value)) (sym c.schema.ensures) is
