-- What the values that the evaluator passes on stand for (CSDL JSON 4.01, section 3).
use Rattle.std.specs.Prelude.{ℕ, List}
use Rattle.std.specs.Cow.{cow_str_bytes}
use Rattle.edm_values.specs.Val.{Val, null, boolean, whole, text, date, moment, guid, member, fields, items}
use Rattle.edm_values.specs.Val.{FieldVal, Vals}
use Rattle.edm_values.specs.declared.value.Value.{Value}
use Rattle.edm_values.specs.declared.datum.Datum.{Datum}
use Rattle.edm_values.specs.declared.datum.Datum.TheVariants as datum

-- how the values of a record, by slot or beside their slots, and of a list are read: by their type, which they do not
-- hold themselves
pub record Reading : Type 0 where
  pub fields_of : List Value → List ℕ → FieldVal
  pub fields_beside : List (ℕ × Value) → List ℕ → FieldVal
  pub items_of : List Value → Vals

-- the value that is passed on, with that reading of a record or a list
abbrev pub datum_val : Reading → Datum → Val
datum_val reading datum.Null = null
datum_val reading (datum.Bool b) = boolean b
datum_val reading (datum.Int n) = whole n
datum_val reading (datum.Text t) = text (cow_str_bytes t)
datum_val reading (datum.Date d) = date d
datum_val reading (datum.Moment m) = moment m
datum_val reading (datum.Guid bytes) = guid bytes
datum_val reading (datum.Enum n) = member n
datum_val reading (datum.Record held) = fields (reading.fields_of held.now)
datum_val reading (datum.Sparse held) = fields (reading.fields_beside held.now)
datum_val reading (datum.List held) = items (reading.items_of held.now)
