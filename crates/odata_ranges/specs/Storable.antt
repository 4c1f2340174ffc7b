-- Values that the engines can keep: PostgreSQL's JSON has texts of at most 268,435,455 bytes and arrays of fewer
-- members than that, and no text with U+0000 (PostgreSQL 15, section 8.14); SQLite keeps more, and cuts a text there.
use Rattle.std.specs.Prelude.{◌≤◌, ℕ, List, length, Contains}
use Rattle.std.specs.Str.{chars}
use Rattle.edm_values.specs.Val.{Val, text, fields, items, FieldVal, absent, present, Vals, no_items, item}
use Rattle.odata_filter_operations.specs.CollectionGives.{members_of}

abbrev mutual
  -- no text of more than 268,435,456 characters or with a U+0000, and no collection of more than 4,294,967,296 members
  pub IsStorable : Val → Type 0
  IsStorable (text s) = (length (chars s) ≤ 268_435_456) × ¬ Contains s 0
  IsStorable (fields held) = (name : List ℕ) → IsStorableField (held name)
  IsStorable (items values) = (length (members_of values) ≤ 4_294_967_296) × AreStorable values
  IsStorable v = Unit {0}

  pub IsStorableField : FieldVal → Type 0
  IsStorableField absent = Unit {0}
  IsStorableField (present v) = IsStorable v

  pub AreStorable : Vals → Type 0
  AreStorable no_items = Unit {0}
  AreStorable (item v values) = IsStorable v × AreStorable values
