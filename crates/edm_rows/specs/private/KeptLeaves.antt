-- For private clauses: values without parts that are put into a row's slots.
use Rattle.std.specs.Prelude.{◌≡◌, ℕ, List, Bool, Some}
use Rattle.serde_json.specs.Data.{Data}
use Rattle.csdl_schema.specs.ExprType.{SingleType, enumeration, single}
use Rattle.csdl_schema.specs.SchemaModel.{Slots}
use Rattle.edm_values.specs.SieveMeaning.{Rejects}
use Rattle.edm_values.specs.Val.{Val}
use Rattle.edm_values.specs.declared.sieve.Sieve.{Sieve}
use Rattle.edm_values.specs.declared.value.Value.{Value}
use Rattle.edm_entities.specs.Fits.{FitsFound, FitsType}
use Rattle.edm_rows.specs.private.Passed.{FitsSomeHowever, FitsHoweverNullable}
use Rattle.edm_rows.specs.declared.kept_leaf.Taken.{Taken}
use Rattle.edm_rows.specs.declared.kept_leaf.Taken.TheVariants.{Broken, Nothing, Put, Rejected}
use Rattle.json_room.specs.ValueStands.{ValueStands}

-- the value is read of some JSON of that type
abbrev pub IsLeafOf : SingleType → Value → Type 0
IsLeafOf type value = (json : Data) × ((slots : Slots) → FitsHoweverNullable slots (single type) value json)

-- a value of that type stands from one offset to the other
abbrev pub PutsLeaf : List ℕ → SingleType → Value → ℕ → ℕ → Type 0
PutsLeaf line type value from to =
    IsLeafOf type value
    × ((slots : Slots) (depth : ℕ) → ValueStands depth line from to (FitsHoweverNullable slots (single type) value))

-- a value of the enumeration of that name stands from one offset to the other
abbrev pub PutsMember : List ℕ → Slots → List ℕ → Value → ℕ → ℕ → Type 0
PutsMember line slots name value from to =
    ((json : Data) × FitsHoweverNullable slots (single (enumeration name)) value json)
    × ((depth : ℕ) → ValueStands depth line from to (FitsHoweverNullable slots (single (enumeration name)) value))

-- JSON of that type, each of whose values is rejected
abbrev pub IsLeafRejected : Slots → SingleType → Sieve → Data → Type 0
IsLeafRejected slots type sieve json =
    FitsSomeHowever slots (single type) json
    × ((nullable : Bool) (value : Val)
    → FitsFound (Some json) nullable value (λ found. FitsType slots nullable (single type) found value)
    → Rejects sieve value)

-- what became of a value: where it was not read the old one stays, or is half written; one of that type stands from one
-- offset to another, and is the new one; or it is rejected, and the old one stays
abbrev pub TakesLeaf : List ℕ → SingleType → Sieve → Value → Value → ℕ → Taken → Type 0
TakesLeaf line type sieve old new from Nothing = new ≡ old
TakesLeaf line type sieve old new from Broken = Unit {0}
TakesLeaf line type sieve old new from (Put to) = PutsLeaf line type new from to
TakesLeaf line type sieve old new from (Rejected to) =
    ((slots : Slots) (depth : ℕ) → ValueStands depth line from to (IsLeafRejected slots type sieve)) × (new ≡ old)
