-- What the value of a parameter stands for, by the type that the text gives it: a date, a moment and a Guid are handed
-- over as texts.
use Rattle.std.specs.Prelude.{◌≡◌, ◌<◌, ℕ, List, length, slice_index, string_bytes}
use Rattle.edm_values.specs.Civil.{Date}
use Rattle.edm_values.specs.DateLiteral.{DateValue}
use Rattle.edm_values.specs.GuidLiteral.{GuidValue, guid_spelling}
use Rattle.edm_values.specs.MomentLiteral.{MomentValue}
use Rattle.edm_values.specs.MomentParts.{MomentParts}
use Rattle.edm_values.specs.Val.{whole, text, date, moment, guid, member}
use Rattle.odata_filter_operations.specs.Outcome.{Outcome, gives}
use Rattle.sql_tree.specs.declared.sql_node.SqlType.{SqlType}
use Rattle.sql_tree.specs.declared.parameter.Parameter.{Parameter}

-- the text has a character U+0000
abbrev pub HoldsNul : List ℕ → Type 0
HoldsNul t = (i : ℕ) × (i < length t) × (slice_index t i ≡ 0)

-- a text that has one stands for nothing: PostgreSQL refuses it, and SQLite reads it up to there; a Guid is spelled in
-- lower case, as SQLite compares it by its text
abbrev pub ParameterGives : SqlType → Parameter → Outcome → Type 0
ParameterGives SqlType.Whole (Parameter.Whole n) o = o ≡ gives (whole n)
ParameterGives SqlType.Member (Parameter.Whole n) o = o ≡ gives (member n)
ParameterGives SqlType.Instant (Parameter.Instant n) o = o ≡ gives (whole n)
ParameterGives SqlType.Text (Parameter.Text t) o =
    (¬ HoldsNul (string_bytes t)) × (o ≡ gives (text (string_bytes t)))
ParameterGives SqlType.Date (Parameter.Text t) o = (d : Date) × DateValue (string_bytes t) d × (o ≡ gives (date d))
ParameterGives SqlType.Moment (Parameter.Text t) o =
    (m : MomentParts) × MomentValue (string_bytes t) m × (o ≡ gives (moment m))
ParameterGives SqlType.Guid (Parameter.Text t) o =
    (bytes : List ℕ) × GuidValue (string_bytes t) bytes × (string_bytes t ≡ guid_spelling bytes)
    × (o ≡ gives (guid bytes))
ParameterGives type parameter o = ⊥
