-- What is asked of a collection's members, and of an enumeration's values.
use Rattle.std.specs.Prelude.{◌≡◌, ◌<◌, ◌+◌, ◌⊎◌, ℕ, List, Bool, true, false, Some, length, slice_get}
use Rattle.edm_values.specs.declared.datum.Datum.{Datum}
use Rattle.edm_values.specs.declared.datum.Datum.TheVariants as datum
use Rattle.edm_values.specs.declared.value.Value.{Value}
use Rattle.csdl_schema.specs.ExprType.{ExprType, SingleType, single}
use Rattle.csdl_schema.specs.SchemaModel.{Slots}
use Rattle.edm_entities.specs.Row.{val_of}
use Rattle.odata_functions.specs.Comparable.{HaveEquality}
use Rattle.odata_functions.specs.Comparison.{AreEqual}
use Rattle.odata_functions.specs.DatumVal.{datum_val}
use Rattle.odata_filter_operations.specs.DatumView.{reading_at}

-- null, or a collection
abbrev pub HasMembers : Datum → Type 0
HasMembers datum.Null = Unit {0}
HasMembers (datum.List held) = Unit {0}
HasMembers _ = ⊥

-- the value, of that type, may be compared with each member of that other type
abbrev pub MayBeMember : Slots → ExprType → SingleType → Datum → List Value → Type 0
MayBeMember slots type of_members left members =
    (k : ℕ) (found : Value) → slice_get members k ≡ Some found
    → HaveEquality (datum_val (reading_at slots type) left) (val_of found slots.properties (single of_members))

-- so it may with those of a collection; there are none in null
abbrev pub MayBeAmong : Slots → ExprType → SingleType → Datum → Datum → Type 0
MayBeAmong slots type of_members left datum.Null = Unit {0}
MayBeAmong slots type of_members left (datum.List held) = MayBeMember slots type of_members left held.now
MayBeAmong slots type of_members left _ = ⊥

-- the value equals what is stored, or does not, at whatever types
abbrev pub Equals : Datum → Value → Type 0
Equals left found =
    (slots : Slots) (s t : ExprType) → AreEqual (datum_val (reading_at slots s) left) (val_of found slots.properties t)

abbrev pub Differs : Datum → Value → Type 0
Differs left found =
    (slots : Slots) (s t : ExprType)
    → ¬ (AreEqual (datum_val (reading_at slots s) left) (val_of found slots.properties t))

-- none of the members before an index equals it
abbrev pub DiffersBefore : Datum → List Value → ℕ → Type 0
DiffersBefore left members place =
    (k : ℕ) → k < place → (found : Value) → slice_get members k ≡ Some found → Differs left found

-- the first one that equals it has that index
pub record FirstEqual (left : Datum) (members : List Value) : Type 0 where
  pub place : ℕ
  pub found : Value
  pub stands_at : slice_get members place ≡ Some found
  pub equals : Equals left found
  pub earlier : DiffersBefore left members place

-- whether one of the members equals it
abbrev pub IsAmong : Datum → List Value → Bool → Type 0
IsAmong left members true = FirstEqual left members
IsAmong left members false = (k : ℕ) (found : Value) → slice_get members k ≡ Some found → Differs left found

-- so many of the members are compared with it: those up to the first one that equals it, or all
abbrev pub AreCompared : Datum → List Value → ℕ → Type 0
AreCompared left members count =
    ((first : FirstEqual left members) × (count ≡ first.place + 1))
    ⊎ (IsAmong left members false × (count ≡ length members))

-- so it is with those of a collection; there are none in null
abbrev pub AreComparedIn : Datum → Datum → ℕ → Type 0
AreComparedIn left (datum.List held) count = AreCompared left held.now count
AreComparedIn left _ count = count ≡ 0

-- null, or a value of an enumeration
abbrev pub IsOfEnumeration : Datum → Type 0
IsOfEnumeration datum.Null = Unit {0}
IsOfEnumeration (datum.Enum n) = Unit {0}
IsOfEnumeration _ = ⊥
