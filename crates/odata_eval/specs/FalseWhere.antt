-- Filters that one value alone makes false (OData URL Conventions 4.01, sections 5.1.1.1 and 5.1.1.14).
use Rattle.std.specs.Prelude.{◌≡◌, ℕ, List, [], Some, false}
use Rattle.edm_values.specs.MomentParts.{MomentParts}
use Rattle.edm_values.specs.SieveMeaning.{Rejects}
use Rattle.edm_values.specs.Val.{FieldVal, Val, boolean, fields, present}
use Rattle.edm_values.specs.declared.sieve.Sieve.{Sieve}
use Rattle.odata_syntax.specs.Tree.{Tree}
use Rattle.csdl_schema.specs.SchemaModel.{Slots, properties_at, slot_named, slots_of, type_name_at}
use Rattle.odata_checked_filter.specs.Filter.{Filter, tree_of_filter}
use Rattle.odata_meaning.specs.Means.{Means}
use Rattle.odata_eval.specs.declared.value_tests.SlotSieve.{SlotSieve}
use Rattle.odata_filter_operations.specs.Outcome.{Outcome, gives}

-- on a record whose value under the name is rejected, the tree has no outcome but false
abbrev pub IsFalseWhere : Slots → List ℕ → Tree → List ℕ → Sieve → Type 0
IsFalseWhere slots root tree word sieve =
    (now : MomentParts) (held : List ℕ → FieldVal) (value : Val) (o : Outcome) → held word ≡ present value
    → Rejects sieve value → Means slots root now (fields held) [] tree o → o ≡ gives (boolean false)

-- so it is with the filter, by the value of the property in the slot
abbrev pub IsSieveOf : Filter → SlotSieve → Type 0
IsSieveOf filter test =
    (word : List ℕ) → slot_named (properties_at filter.schema filter.filtered) word ≡ Some test.slot
    → IsFalseWhere (slots_of filter.schema) (type_name_at filter.schema filter.filtered) (tree_of_filter filter) word
    test.sieve
