-- Filters that tests of single values are (OData URL Conventions 4.01, sections 5.1.1.1 and 5.1.1.14).
use Rattle.std.specs.Prelude.{◌≡◌, ◌≢◌, ◌≤ℤ◌, ℕ, ℤ, List, [], All, Some, true, string_bytes}
use Rattle.std.specs.Str.{chars}
use Rattle.edm_values.specs.MomentParts.{MomentParts}
use Rattle.edm_values.specs.Val.{FieldVal, Val, boolean, fields, present, text, whole}
use Rattle.edm_values.specs.declared.sieve.Sieve.{Sieve}
use Rattle.edm_values.specs.declared.sieve.Sieve.TheVariants.{All as AllPass, Besides, BesidesText, Text, True, Within}
use Rattle.csdl_schema.specs.SchemaModel.{properties_at, slot_named, slots_of, type_name_at}
use Rattle.odata_checked_filter.specs.Filter.{Filter, tree_of_filter}
use Rattle.odata_meaning.specs.Means.{Means}
use Rattle.odata_eval.specs.declared.value_tests.SlotSieve.{SlotSieve}
use Rattle.odata_filter_operations.specs.Outcome.{Outcome, gives}

-- the truth value true; a number from the least to the greatest, or any but the one; a text of the same characters, or
-- of others: a value of another kind is not said to pass
abbrev pub Passes : Sieve → Val → Type 0
Passes AllPass value = ⊥
Passes True value = value ≡ boolean true
Passes (Within low high) value = (n : ℤ) × (value ≡ whole n) × (low ≤ℤ n) × (n ≤ℤ high)
Passes (Besides other) value = (n : ℤ) × (value ≡ whole n) × (n ≢ other)
Passes (Text only) value = (s : List ℕ) × (value ≡ text s) × (chars s ≡ chars (string_bytes only))
Passes (BesidesText other) value = (s : List ℕ) × (value ≡ text s) × (chars s ≢ chars (string_bytes other))

-- what a record has under the name of the test's slot, if that is there, passes it
abbrev pub PassesIn : Filter → (List ℕ → FieldVal) → SlotSieve → Type 0
PassesIn filter held test =
    (word : List ℕ) → slot_named (properties_at filter.schema filter.filtered) word ≡ Some test.slot
    → (value : Val) → held word ≡ present value → Passes test.sieve value

-- on a record that passes these tests, of which there is at least one, the filter has no outcome but true
abbrev pub AreWhole : Filter → List SlotSieve → Type 0
AreWhole filter tests =
    tests ≢ [] → (now : MomentParts) (held : List ℕ → FieldVal) (o : Outcome) → All (PassesIn filter held) tests
    → Means (slots_of filter.schema) (type_name_at filter.schema filter.filtered) now (fields held) []
    (tree_of_filter filter) o
    → o ≡ gives (boolean true)
