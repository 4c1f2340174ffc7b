use Rattle.std.proofs.Common.{◌≡◌, ◌∷◌, ◌++◌, ◌∙◌, [], map, ap, arith}
use Rattle.std.proofs.lemmas.Grind.{common_steps}
use Rattle.csdl_schema.specs.SchemaModel.{properties_at}
use Rattle.sql_tables.specs.Lines.{lines_of}
use Rattle.sql_tables.proofs.SlotColumns.{columns_all, columns_on, now_pushed}
use Rattle.sql_tables.proofs.named_columns.columns_of.Goals as goal

pub loop-slot-init : goal.loop-slot-init
loop-slot-init c = ap (map (λ name. name.now)) c.new-names.ensures.items

pub loop-slot-preserved : goal.loop-slot-preserved
loop-slot-preserved c =
    let column = c.column_for.result in
    let pushed : c.push.new.self.items ≡ c.loop-slot.names.items ++ column ∷ [] = grind (arith, common_steps) in
    columns_on (properties_at c.args.schema.now c.args.id) (lines_of c.args.lines.now) (map (λ name. name.now) c.loop-slot.names.items) (map (λ name. name.now) c.push.new.self.items)
    c.slot_name.result.now column.now c.loop-slot.slot c.slot_name.ensures c.loop-slot.invariant c.column_for.ensures
    (ap (map (λ name. name.now)) pushed ∙ now_pushed c.loop-slot.names.items column)

pub returns : goal.returns
returns c =
    columns_all (properties_at c.args.schema.now c.args.id) (lines_of c.args.lines.now) (map (λ name. name.now) c.loop-slot.names.items) c.loop-slot.slot (omega (arith, c.slots-slot-end.ensures.count)) c.loop-slot.invariant
