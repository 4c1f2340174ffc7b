-- For private clauses: values with parts that are filled again where they are.
use Rattle.std.specs.Prelude.{◌≡◌, ◌⊎◌, ◌<◌, ℕ, List, [], ◌∷◌, length, slice_get, Bool, false, Some, IfSome}
use Rattle.std.specs.Int.{bit_at}
use Rattle.json.specs.Lex.{fresh, after_value}
use Rattle.serde_json.specs.Data.{Data, Items, Members, item, no_items, object}
use Rattle.csdl_schema.specs.ExprType.{SingleType, single}
use Rattle.csdl_schema.specs.SchemaModel.{HasDistinctNames, PropertyModel, Slots, properties_at}
use Rattle.edm_values.specs.declared.value.Value.{Value, Null}
use Rattle.edm_rows.specs.Alike.{Names}
use Rattle.edm_rows.specs.private.Passed.{FitSlotsBut, MayBeAbsent, SlotsSoFarBut}
use Rattle.json_room.specs.private.ItemTokens.{ReadsItems, ReadsMembers}
use Rattle.edm_rows.specs.private.SlotsSoFar.{SlotsSoFar}
use Rattle.edm_entities.specs.private.Walk.{FitList, HoldInItems}
use Rattle.json_room.specs.Lexemes.{tokens_at}
use Rattle.edm_rows.specs.declared.passed_value.ReadContext.{ReadContext}
use Rattle.edm_rows.specs.declared.row_types.RowSlot.{RowSlot}
use Rattle.edm_rows.specs.declared.row_types.RowType.{RowType}
use Rattle.edm_rows.specs.declared.row_types.Task.{Task}
use Rattle.json_room.specs.ValueStands.{ValueStands}
use Rattle.json_room.specs.private.ValuesStand.{PassesTo, MembersRead, MembersUpTo}
use Rattle.edm_rows.specs.private.Held.{FilledAs, FilledBut, IsFilledBut, Kinds, type_of}
use Rattle.edm_rows.specs.private.KeptRows.{RowConforms, names_passed}
use Rattle.edm_rows.specs.private.KeptSoFar.{SameMarks}
use Rattle.edm_rows.specs.private.RowSlots.{kinds_of}
use Rattle.seen_slots.specs.SlotBits.{bits_of}
use Rattle.spare_values.specs.Fillers.{HoldsFiller}
use Rattle.spare_values.specs.declared.spares.Filler.{Filler}
use Rattle.edm_rows.specs.private.Contexts.{PassesValue, slots_behind_node}

-- what a slot's value, or an item of it, is of JSON
abbrev pub IsFilledIn : ReadContext → RowSlot → Task → Value → Data → Type 0
IsFilledIn context slot task value json =
    FilledAs (slots_behind_node context slot.node) (kinds_of context.schema.now context.plan.now.plans.items slot)
    slot.is_nullable slot.item task value json

-- JSON of which some value is seen, to which the stored one is alike but for what is passed over
abbrev pub IsFilledInBut : ReadContext → RowSlot → Task → Value → Data → Type 0
IsFilledInBut context slot task value json =
    FilledBut (slots_behind_node context slot.node) (names_passed context)
    (kinds_of context.schema.now context.plan.now.plans.items slot) slot.is_nullable slot.item task value json

-- a slot's value, or an item of it, stands from one offset to the other, nested no deeper than that, and the stored one
-- is alike to it but for what is passed over
abbrev pub StandsBut : ReadContext → RowSlot → Task → ℕ → Value → ℕ → ℕ → Type 0
StandsBut context slot task depth value from to =
    ValueStands depth context.line from to (IsFilledInBut context slot task value)

-- the same; and the stored one is that of some JSON, whether or not it may end there
abbrev pub FillsValue : ReadContext → RowSlot → Task → ℕ → Value → ℕ → ℕ → Type 0
FillsValue context slot task depth value from to =
    StandsBut context slot task depth value from to × ((json : Data) × IsFilledIn context slot task value json)

-- the same of all of a slot's value, which may also be passed where it is not kept
abbrev pub FillsSlot : ReadContext → RowSlot → ℕ → Value → ℕ → ℕ → Type 0
FillsSlot context slot depth value from to =
    (StandsBut context slot slot.task depth value from to
    ⊎ ((slot.is_kept ≡ false) × PassesValue context slot slot.task depth from to))
    × ((json : Data) × IsFilledIn context slot slot.task value json)

-- a slot is not kept, and what such a filler puts into it is of some JSON, whatever the types are
abbrev pub TakesFiller : RowSlot → Filler → Type 0
TakesFiller slot filler =
    (slot.is_kept ≡ false)
    × ((value : Value) → HoldsFiller filler value → (slots : Slots) (kinds : Kinds)
    → (json : Data) × FilledAs slots kinds slot.is_nullable slot.item slot.task value json)

-- values of that type that are read of the items of an array
abbrev pub AreFilled : Slots → Bool → SingleType → List Value → Items → Type 0
AreFilled slots nullable type values jsons =
    FitList slots nullable type jsons values × HoldInItems slots type values

-- values that are alike to those that are seen of the items of an array, but for what is passed over
abbrev pub AreFilledBut : Slots → Names → Bool → SingleType → List Value → Items → Type 0
AreFilledBut slots Passed nullable type [] no_items = Unit {0}
AreFilledBut slots Passed nullable type (value ∷ values) (item json jsons) =
    IsFilledBut slots Passed nullable nullable (single type) value json
    × AreFilledBut slots Passed nullable type values jsons
AreFilledBut slots Passed nullable type values jsons = ⊥

-- after an opening bracket the items of a slot's array stand from one offset to the other, with the closing one, and
-- the values are alike to them but for what is passed over; which are those of some items
abbrev pub FillsItems : ReadContext → RowSlot → ℕ → List Value → ℕ → ℕ → Type 0
FillsItems context slot depth values from to =
    PassesTo context.line from to
    × ReadsItems depth (tokens_at fresh context.line from) (tokens_at after_value context.line to)
    (AreFilledBut (slots_behind_node context slot.node) (names_passed context) slot.is_nullable
    (type_of (kinds_of context.schema.now context.plan.now.plans.items slot) slot.item) values)
    × ((jsons : Items) × AreFilled (slots_behind_node context slot.node) slot.is_nullable
    (type_of (kinds_of context.schema.now context.plan.now.plans.items slot) slot.item) values jsons)

-- after an opening brace the members of an object of a type stand from one offset to the other, with the closing one,
-- and the values fit them but for what is passed over; which fit those of some object
abbrev pub FillsMembers : ReadContext → RowType → ℕ → List Value → ℕ → ℕ → Type 0
FillsMembers context type depth values from to =
    PassesTo context.line from to
    × ReadsMembers depth (tokens_at fresh context.line from) (tokens_at after_value context.line to)
    (λ found. FitSlotsBut (slots_behind_node context type.node) (names_passed context) (object found)
    (properties_at context.schema.now type.type_id) values)
    × RowConforms (slots_behind_node context type.node) (properties_at context.schema.now type.type_id) values

-- it is one of the types that a row is read by
abbrev pub IsAmongTypes : ReadContext → RowType → Type 0
IsAmongTypes context type = (place : ℕ) × (slice_get context.types.now place ≡ Some type)

-- ---- while the members are read

-- the members before an offset, of which these slots were seen, and up to where the value of one ends; the values fit
-- some members alone
pub record FilledUpTo (context : ReadContext) (type : RowType) (depth from place seen : ℕ)
    (values : List Value) : Type 0 where
  pub filled : List Bool
  pub long : length filled ≡ length (properties_at context.schema.now type.type_id)
  pub marks : SameMarks seen filled
  pub members : MembersUpTo depth context.line from place
      (λ found. SlotsSoFarBut (slots_behind_node context type.node) (names_passed context)
      (properties_at context.schema.now type.type_id) found filled values)
  pub alone : (found : Members)
      × SlotsSoFar (slots_behind_node context type.node) (properties_at context.schema.now type.type_id)
      found filled values

pub record FilledRead (context : ReadContext) (type : RowType) (depth from end seen : ℕ)
    (values : List Value) : Type 0 where
  pub filled : List Bool
  pub long : length filled ≡ length (properties_at context.schema.now type.type_id)
  pub marks : SameMarks seen filled
  pub members : MembersRead depth context.line from end
      (λ found. SlotsSoFarBut (slots_behind_node context type.node) (names_passed context)
      (properties_at context.schema.now type.type_id) found filled values)
  pub alone : (found : Members)
      × SlotsSoFar (slots_behind_node context type.node) (properties_at context.schema.now type.type_id)
      found filled values

-- values that conform to properties go on to conform, where each slot that was not seen may be absent
abbrev pub GoOnConforming : ℕ → List Value → List Value → Type 0
GoOnConforming seen old new =
    (slots : Slots) (properties : List PropertyModel) → HasDistinctNames properties → length properties ≡ length old
    → ((k : ℕ) → k < length properties → bit_at seen k ≡ 0 → IfSome (slice_get properties k) (MayBeAbsent slots))
    → RowConforms slots properties old → RowConforms slots properties new

-- at the end each slot was seen or may be absent; those that were seen stay, and the others are null
pub record FillsSlots (type : RowType) (seen : ℕ) (old new : List Value) : Type 0 where
  pub may : (k : ℕ) → k < length type.slots.items → (bit_at seen k ≡ 1) ⊎ (bit_at (bits_of type.optional.words) k ≡ 1)
  pub long : length new ≡ length old
  pub stay : (k : ℕ) → bit_at seen k ≡ 1 → slice_get new k ≡ slice_get old k
  pub nulls : (k : ℕ) → k < length type.slots.items → bit_at seen k ≡ 0 → slice_get new k ≡ Some Null
  pub conforms : GoOnConforming seen old new
