-- What a stored value stands for, where a record and a list may hold anything.
use Rattle.std.specs.Prelude.{ℕ, ℤ, List, string_bytes, Option, Some, None}
use Rattle.edm_values.specs.Val.{Val, null, boolean, whole, text, date, moment, guid, member, fields, items}
use Rattle.edm_values.specs.Val.{FieldVal, Vals}
use Rattle.edm_values.specs.declared.value.Value.{Value, Null, Bool, Int, Text, Date, Moment, Guid, Enum, Record', Sparse', List'}

-- what a record has under its names, and a list for its items
pub record Contents : Type 0 where
  pub fields_are : List ℕ → FieldVal
  pub items_are : Vals

-- the value, with these contents of a record or a list
abbrev pub kept_val : Contents → Value → Val
kept_val contents Null = null
kept_val contents (Bool b) = boolean b
kept_val contents (Int n) = whole n
kept_val contents (Text s) = text (string_bytes s)
kept_val contents (Date d) = date d
kept_val contents (Moment m) = moment m
kept_val contents (Guid bytes) = guid bytes
kept_val contents (Enum n) = member n
kept_val contents (Record' _ _) = fields contents.fields_are
kept_val contents (Sparse' _ _) = fields contents.fields_are
kept_val contents (List' _ _) = items contents.items_are

-- a whole number, or null for none
abbrev pub number_val : Option ℤ → Val
number_val (Some n) = whole n
number_val None = null
