use Rattle.report_calls.proofs.SqlSteps.{each_stored, not_known, over_columns}
use Rattle.report_calls.proofs.sql_calls.column_conditions.Goals as goal

pub returns-then-not-are_known : goal.returns-then-not-are_known
returns-then-not-are_known c =
    not_known c.args.checked.now c.args.dialect c.args.now.now c.schema-schema.result.now c.filtered_type-id.result c.args.lines.now c.are_known.result c.schema-schema.ensures c.filtered_type-id.ensures.same c.are_known.ensures c.if-not-are_known.true

pub conditions_over-requires : goal.conditions_over-requires
conditions_over-requires c =
    each_stored c.args.checked.now c.schema-schema.result.now c.filtered_type-id.result c.args.lines.now c.as_slice.result.now c.in-Ok.columns.items c.columns_suffice.ensures c.nodes-nodes.ensures.right
    c.schema-schema.ensures c.filtered_type-id.ensures.same c.as_slice.ensures.value c.in-Ok.ensures

pub returns : goal.returns
returns c =
    over_columns c.args.checked.now c.schema-schema.result.now c.filtered_type-id.result c.args.lines.now c.args.dialect c.args.now.now c.as_slice.result.now c.in-Ok.columns.items c.conditions_over.result
    c.schema-schema.ensures c.filtered_type-id.ensures.same c.as_slice.ensures.value (c.are_known.ensures.0 c.if-not-are_known.false) c.in-Ok.ensures c.conditions_over.ensures
