-- What the values stand for that hold no other value.
use Rattle.std.specs.Prelude.{Option, Some, None, string_bytes}
use Rattle.edm_values.specs.Val.{Val, null, boolean, whole, text, date, moment, guid, member}
use Rattle.edm_values.specs.declared.value.Value.{Value, Null, Bool, Int, Text, Date, Moment, Guid, Enum, Record', Sparse', List'}

-- null, a primitive value or an enumeration's number; none for a record and a list, whose meaning needs their type
abbrev pub plain_val : Value → Option Val
plain_val Null = Some null
plain_val (Bool b) = Some (boolean b)
plain_val (Int n) = Some (whole n)
plain_val (Text s) = Some (text (string_bytes s))
plain_val (Date d) = Some (date d)
plain_val (Moment m) = Some (moment m)
plain_val (Guid bytes) = Some (guid bytes)
plain_val (Enum n) = Some (member n)
plain_val (Record' _ _) = None
plain_val (Sparse' _ _) = None
plain_val (List' _ _) = None
