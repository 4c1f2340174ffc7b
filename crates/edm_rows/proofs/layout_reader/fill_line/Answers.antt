use Rattle.std.proofs.Common.{◌≡◌, ◌<◌, List, length, take, sym, ap, ◌∙◌, subst, arith}
use Rattle.std.specs.Str.{IsUtf8}
use Rattle.csdl_schema.specs.SchemaModel.{SchemaModel}
use Rattle.edm_entities.specs.Row.{IsEntity, row_with}
use Rattle.edm_row_plans.specs.Plans.{IsPlanOf}
use Rattle.edm_rows.specs.HeldSchema.{schema_in}
use Rattle.edm_rows.specs.RowLayout.{IsRowOfLine, LayoutOfRows}
use Rattle.edm_rows.specs.declared.row_types.RowType.{RowType}
use Rattle.edm_rows.specs.private.HeldRows.{AreKept, AreTypesOf, HasFirstType}
use Rattle.edm_rows.specs.private.LayoutRows.{row_by}
use Rattle.edm_rows.specs.private.RowSlots.{AreRowTypes}
use Rattle.edm_rows.proofs.RowsFilled.{filled_entity, filled_line}
use Rattle.edm_rows.proofs.TypesChanged.{first_distinct, types_there}
use Rattle.edm_rows.proofs.TypesKept.{none_passed}
use Rattle.edm_rows.proofs.layout_reader.fill_line.Goals as goal

pub fill_row-requires-clause-first : goal.fill_row-requires-clause-first
fill_row-requires-clause-first c =
    let layout = c.layout.inside in
    let some : 0 < length layout.types.items = omega arith in
    let are = types_there (schema_in layout.schema) layout.plan layout.types.items some c.layout.invariant.types in
    subst (λ (l : List RowType). HasFirstType layout.plan l) (sym c.as_slice.ensures.value) are.first

pub fill_row-requires-clause-context : goal.fill_row-requires-clause-context
fill_row-requires-clause-context c =
    let layout = c.layout.inside in
    let some : 0 < length layout.types.items = omega arith in
    let are = types_there (schema_in layout.schema) layout.plan layout.types.items some c.layout.invariant.types in (
      subst (λ (l : List RowType). AreRowTypes c.schema.result.now layout.plan.expansion layout.plan.plans.items l) (sym c.as_slice.ensures.value)
          (subst (λ (s : SchemaModel). AreRowTypes s layout.plan.expansion layout.plan.plans.items layout.types.items) (sym c.schema.ensures) are.each),
      c.new-known.ensures c.schema.result.now,
    )

pub returns-clause-entity : goal.returns-clause-entity
returns-clause-entity c done =
    let layout = c.layout.inside in
    let some : 0 < length layout.types.items = omega arith in
    let there = c.schema.ensures in
    let plan = subst (λ s. IsPlanOf s layout.plan) (sym there) c.layout.invariant.is_plan in
    let types = subst (λ s. AreTypesOf s layout.plan layout.types.items) (sym there) (types_there (schema_in layout.schema) layout.plan layout.types.items some c.layout.invariant.types) in
    let distinct = first_distinct c.schema.result.now layout.plan layout.types.items types in
    let row = c.fill_row.new.row in
    subst (λ (l : LayoutOfRows). IsEntity (row_by l row)) c.layout.view_is
    (subst (λ (s : SchemaModel). IsEntity (row_with s layout.plan.type_id layout.plan.expansion row)) there (filled_entity _ row plan.held distinct (c.fill_row.ensures done)))

pub returns-clause-row : goal.returns-clause-row
returns-clause-row c done =
    let layout = c.layout.inside in
    let line = c.args.line.now in
    let some : 0 < length layout.types.items = omega arith in
    let there = c.schema.ensures in
    let plan = subst (λ s. IsPlanOf s layout.plan) (sym there) c.layout.invariant.is_plan in
    let types = subst (λ s. AreTypesOf s layout.plan layout.types.items) (sym there) (types_there (schema_in layout.schema) layout.plan layout.types.items some c.layout.invariant.types) in
    let distinct = first_distinct c.schema.result.now layout.plan layout.types.items types in
    let row = c.fill_row.new.row in
    let copied : take (length line) c.as_slice-bytes.result.now ≡ line = ap (take (length line)) c.as_slice-bytes.ensures.value ∙ c.copy_with_room.ensures.copied c.if-not-copy_with_room.false in
    let same : c.in-Some.text.now ≡ line = c.in-Some.ensures ∙ copied in
    let whole : c.new-line.result ≡ line = c.new-line.ensures ∙ same in
    let none = none_passed c.schema.result.now c.as_slice.result.now (subst AreKept (sym c.as_slice.ensures.value) c.layout.invariant.kept) in
    subst (λ (l : LayoutOfRows). IsRowOfLine line (row_by l row)) c.layout.view_is
    (subst (λ (s : SchemaModel). IsRowOfLine line (row_with s layout.plan.type_id layout.plan.expansion row)) there
    (filled_line _ row plan.held distinct (c.fill_row.ensures done) none line (subst IsUtf8 (c.text-text.ensures ∙ whole) c.text-text.utf8) whole))
