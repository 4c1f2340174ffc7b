-- For private clauses: the members of an object in a line, from one offset to the other.
use Rattle.std.specs.Prelude.{◌≡◌, ◌≢◌, ◌⊎◌, ℕ, ◌<◌, ◌≤◌, List, length, map, slice_get, Some}
use Rattle.std.specs.List.{AllByRecursion}
use Rattle.csdl_schema.specs.SchemaModel.{PropertyModel}
use Rattle.edm_rows.specs.declared.members.After.{After}
use Rattle.json_room.specs.ValueStands.{ValueStands}
use Rattle.json_room.specs.private.ValuesStand.{EndsByBrace, EndsByComma, NamesTo}

-- the name of the property at a slot
abbrev pub NamesSlot : List ℕ → List PropertyModel → ℕ → ℕ → ℕ → Type 0
NamesSlot line properties from slot to =
    (name : List ℕ) × NamesTo line from name to × (slice_get (map (λ p. p.name) properties) slot ≡ Some name)

-- a member whose name no property has, with its value, nested no deeper than that
abbrev pub PassesOther : ℕ → List ℕ → List PropertyModel → ℕ → ℕ → Type 0
PassesOther depth line properties from to =
    (name : List ℕ) × (value : ℕ) × NamesTo line from name value
    × AllByRecursion (λ p. p.name ≢ name) properties × ValueStands depth line value to (λ json. Unit {0})

-- the next member: where its name is that of a slot, up to its value; else with its value
abbrev pub NextMember : ℕ → List ℕ → List PropertyModel → ℕ → ℕ → ℕ → Type 0
NextMember depth line properties slot from to =
    ((slot < length properties) × NamesSlot line properties from slot to)
    ⊎ ((length properties ≤ slot) × PassesOther depth line properties from to)

-- the slot of the property of that name; where no property has it, one past them
abbrev pub IsSlotOfName : List PropertyModel → List ℕ → ℕ → Type 0
IsSlotOfName properties name slot =
    ((slot < length properties) × (slice_get (map (λ p. p.name) properties) slot ≡ Some name))
    ⊎ ((length properties ≤ slot) × AllByRecursion (λ p. p.name ≢ name) properties)

-- the name that stands there, and its slot
abbrev pub FindsName : List ℕ → List PropertyModel → ℕ → ℕ → ℕ → Type 0
FindsName line properties slot from to =
    (name : List ℕ) × NamesTo line from name to × IsSlotOfName properties name slot

-- where a member's value ends at an offset, a comma or a brace is passed up to the other
abbrev pub EndsMember : List ℕ → ℕ → After → Type 0
EndsMember line end (After.Comma next) = EndsByComma line end next
EndsMember line end (After.Brace next) = EndsByBrace line end next
