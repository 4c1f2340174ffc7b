-- For private clauses: a layout of rows, and the row that a whole line fills.
use Rattle.std.specs.Prelude.{◌≡◌, ◌⊎◌, [], Some, Vec}
use Rattle.std.specs.declared.alloc.Global.{Global}
use Rattle.serde_json.specs.Data.{Members, object}
use Rattle.serde_json.specs.Read.{read}
use Rattle.edm_values.specs.declared.value.Value.{Value, Record}
use Rattle.edm_row_plans.specs.Plans.{IsPlanOf}
use Rattle.edm_entities.specs.Row.{Row, row_with}
use Rattle.edm_rows.specs.HeldSchema.{schema_in}
use Rattle.edm_rows.specs.RowLayout.{LayoutOfRows}
use Rattle.edm_rows.specs.declared.passed_value.ReadContext.{ReadContext}
use Rattle.edm_rows.specs.declared.row_layout.RowLayout.TheInside.{Inside}
use Rattle.edm_rows.specs.private.HeldRows.{AreKept, AreTypesOf}
use Rattle.edm_rows.specs.private.KeptRows.{RowConforms, names_passed, root_properties, root_slots}
use Rattle.edm_rows.specs.private.Passed.{FitSlotsBut}

abbrev pub layout_seen : Inside → LayoutOfRows
layout_seen layout = record {
  schema = schema_in layout.schema;
  type_id = layout.plan.type_id;
  expansion = layout.plan.expansion;
  is_whole = layout.plan.is_whole;
}

-- a row that is read by it
abbrev pub row_by : LayoutOfRows → Value → Row
row_by layout value = row_with layout.schema layout.type_id layout.expansion value

-- the types, if there are some, are those of the plan, and keep all slots
pub record IsLayout (layout : Inside) : Type 0 where
  pub is_plan : IsPlanOf (schema_in layout.schema) layout.plan
  pub types : (layout.types.items ≡ []) ⊎ AreTypesOf (schema_in layout.schema) layout.plan layout.types.items
  pub kept : AreKept layout.types.items

-- the line is the text of an object, whose members the row's values fit but for what is passed over; which fit those of
-- some object
pub record FillsRow (context : ReadContext) (row : Value) : Type 0 where
  pub values : Vec Value Global
  pub is_record : row ≡ Record values
  pub found : Members
  pub is_read : read context.line ≡ Some (object found)
  pub fits : FitSlotsBut (root_slots context) (names_passed context) (object found) (root_properties context)
      values.items
  pub conforms : RowConforms (root_slots context) (root_properties context) values.items
