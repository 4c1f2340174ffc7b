-- What a translation goes by.
use Rattle.std.specs.Prelude.{◌≡◌, ◌<◌, ℕ, All, IsSomeAnd, List, Some, length, slice_get}
use Rattle.edm_values.specs.Civil.{Date}
use Rattle.edm_values.specs.MomentParts.{IsFourDigitYear}
use Rattle.edm_values.specs.PlainVal.{plain_val}
use Rattle.edm_values.specs.Val.{Val}
use Rattle.edm_values.specs.declared.value.Value.{Value}
use Rattle.odata_checked_filter.specs.Filter.{Filter}
use Rattle.odata_filter_operations.specs.Outcome.{gives}
use Rattle.sql_draft.specs.World.{Has}

-- a Guid: sixteen bytes
abbrev pub IsGuid : List ℕ → Type 0
IsGuid bytes = (length bytes ≡ 16) × All (λ b. b < 256) bytes

-- a literal that is a date or a Guid has a spelling
abbrev pub IsSpelled : Filter → ℕ → Type 0
IsSpelled filter place =
    ((date : Date) → slice_get filter.list.values place ≡ Some (Value.Date date) → IsFourDigitYear date.year)
    × ((bytes : List ℕ) → slice_get filter.list.values place ≡ Some (Value.Guid bytes) → IsGuid bytes)

-- what a value of the filter's literals stands for
abbrev pub IsLiteralAt : Filter → ℕ → Has
IsLiteralAt filter place world o =
    IsSomeAnd (slice_get filter.list.values place) (λ value. (v : Val) × (plain_val value ≡ Some v) × (o ≡ gives v))
