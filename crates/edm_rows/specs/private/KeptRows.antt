-- For private clauses: a row that is filled again, while the members of a line are read into it.
use Rattle.std.specs.Prelude.{◌≡◌, ◌⊎◌, ℕ, List, Bool, true, false, Some, IfSome, MatchBool, map, slice_get}
use Rattle.json.specs.Lex.{fresh, after_value}
use Rattle.json_room.specs.Lexemes.{tokens_at}
use Rattle.serde_json.specs.Data.{Data, Members, object}
use Rattle.serde_json.specs.Find.{get_member}
use Rattle.csdl_schema.specs.SchemaModel.{PropertyModel, SchemaModel, Slots, properties_at, slots_behind}
use Rattle.edm_values.specs.SieveMeaning.{Rejects}
use Rattle.edm_values.specs.Val.{FieldVal, Val, present}
use Rattle.edm_values.specs.declared.sieve.Sieve.{Sieve}
use Rattle.edm_values.specs.declared.value.Value.{Value}
use Rattle.edm_row_plans.specs.Expanded.{slots_at}
use Rattle.edm_rows.specs.RowReading.{Names}
use Rattle.edm_row_plans.specs.Plans.{IsPlanOf, IsSlotPlan}
use Rattle.edm_row_plans.specs.declared.type_plan.SlotPlan.{SlotPlan}
use Rattle.edm_row_plans.specs.declared.type_plan.TypePlan.{TypePlan}
use Rattle.edm_entities.specs.Fits.{FitsProperty}
use Rattle.edm_entities.specs.Row.{ValAtType, val_of}
use Rattle.edm_rows.specs.private.Passed.{FitSlotsBut, FitSomeSlots, FitsSeen, SeenAlike}
use Rattle.json_room.specs.private.ItemTokens.{ReadsMembers}
use Rattle.edm_entities.specs.private.Walk.{FitSlots, HoldsInSlot}
use Rattle.edm_rows.specs.declared.passed_value.ReadContext.{ReadContext}
use Rattle.edm_rows.specs.declared.row_types.RowSlot.{RowSlot}
use Rattle.edm_rows.specs.declared.row_types.RowType.{RowType}
use Rattle.edm_rows.specs.declared.kept_leaf.Taken.{Taken}
use Rattle.edm_rows.specs.declared.kept_leaf.Taken.TheVariants.{Broken, Nothing, Put, Rejected}
use Rattle.json_room.specs.ValueStands.{ValueStands}
use Rattle.json_room.specs.private.ValuesStand.{PassesTo}
use Rattle.edm_rows.specs.private.RowSlots.{IsRowSlot, IsRowType}

-- ---- the row's own type

-- the types, where what stands after the row is expanded, and the properties of the row's own
abbrev pub root_slots : ReadContext → Slots
root_slots context = slots_at context.schema.now context.plan.now.expansion (Some 0)

abbrev pub root_properties : ReadContext → List PropertyModel
root_properties context = properties_at context.schema.now context.plan.now.type_id

-- it is the type of rows by the plan
pub record IsRootType (context : ReadContext) (type : RowType) : Type 0 where
  pub plan : TypePlan
  pub of_plan : IsPlanOf context.schema.now context.plan.now
  pub is : IsRowType context.schema.now context.plan.now.expansion context.plan.now.plans.items plan type
  pub node : type.node ≡ Some 0
  pub type_id : type.type_id ≡ context.plan.now.type_id

-- it is a slot of that type
pub record IsRootSlot (context : ReadContext) (slot : RowSlot) : Type 0 where
  pub plan : TypePlan
  pub node : plan.node ≡ Some 0
  pub type_id : plan.type_id ≡ context.plan.now.type_id
  pub planned : SlotPlan
  pub of_plan : IsPlanOf context.schema.now context.plan.now
  pub is_planned : IsSlotPlan context.schema.now context.plan.now.expansion plan.type_id plan.node slot.index planned
  pub is : IsRowSlot context.schema.now context.plan.now.expansion context.plan.now.plans.items slot.index planned slot

-- of the property of a slot, with the types after it
abbrev pub OfSlotProperty : ReadContext → RowSlot → (Slots → PropertyModel → Type 0) → Type 0
OfSlotProperty context slot P =
    IfSome (slice_get (root_properties context) slot.index) (λ p. P (slots_behind (root_slots context) p.name) p)

-- JSON for which a value that is seen so fits the slot's property
abbrev pub FitsSlotAs : ReadContext → RowSlot → ValAtType → Data → Type 0
FitsSlotAs context slot seen json =
    OfSlotProperty context slot (λ slots p. FitsSeen slots p.nullable p.type_of (Some json) seen)

-- what stands in a slot fits some JSON
abbrev pub ConformsInSlot : ReadContext → RowSlot → Value → Type 0
ConformsInSlot context slot value =
    (json : Data) × FitsSlotAs context slot (val_of value) json
    × OfSlotProperty context slot (λ slots p. HoldsInSlot slots p.type_of value)

-- what is written over a value, if anything is, fits some JSON
abbrev pub GoesOn : ReadContext → RowSlot → Value → Value → Type 0
GoesOn context slot old new = (new ≡ old) ⊎ ConformsInSlot context slot new

-- ---- names that are passed over

-- the names of a type's properties whose values are not kept
abbrev pub names_unkept_in : List PropertyModel → List RowSlot → Names
names_unkept_in properties slots name =
    (index : ℕ) × (slice_get (map (λ s. s.is_kept) slots) index ≡ Some false)
    × (slice_get (map (λ p. p.name) properties) index ≡ Some name)

-- those of any of these types
abbrev pub names_unkept_of : SchemaModel → List RowType → Names
names_unkept_of schema types name =
    (place : ℕ) × (type : RowType) × (slice_get types place ≡ Some type)
    × names_unkept_in (properties_at schema type.type_id) type.slots.items name

-- those of the types that a row is read by
abbrev pub names_passed : ReadContext → Names
names_passed context = names_unkept_of context.schema.now context.types.now

-- those, and the ones that a row of these slots does not keep
abbrev pub names_left : ReadContext → List RowSlot → Names
names_left context rows name = names_unkept_in (root_properties context) rows name ⊎ names_passed context name

-- ---- a value of a slot

-- JSON that some value fits, each of which is rejected
abbrev pub IsRejectedIn : ReadContext → RowSlot → Sieve → Data → Type 0
IsRejectedIn context slot sieve json =
    ((seen : ValAtType) × FitsSlotAs context slot seen json)
    × ((held : FieldVal)
    → OfSlotProperty context slot (λ slots p. FitsProperty slots p.nullable p.type_of (Some json) held
    → (value : Val) × (held ≡ present value) × Rejects sieve value))

-- JSON that some value fits, to which the stored one is alike but for what is passed over
abbrev pub IsTakenAs : ReadContext → RowSlot → ValAtType → Data → Type 0
IsTakenAs context slot stored json =
    (seen : ValAtType) × FitsSlotAs context slot seen json
    × OfSlotProperty context slot (λ slots p. SeenAlike slots (names_passed context) p.type_of stored seen)

-- what became of a slot's value: it stands from one offset to another, and is the new one; or it is rejected, and the
-- old one stays
abbrev pub TakesValue : ReadContext → RowSlot → ℕ → Value → Value → ℕ → Taken → Type 0
TakesValue context slot depth old new from Nothing = Unit {0}
TakesValue context slot depth old new from Broken = Unit {0}
TakesValue context slot depth old new from (Put to) =
    ValueStands depth context.line from to (IsTakenAs context slot (val_of new))
TakesValue context slot depth old new from (Rejected to) =
    ValueStands depth context.line from to (IsRejectedIn context slot slot.sieve) × (new ≡ old)

-- ---- the row

-- the values fit the members of some object whole
abbrev pub RowConforms : Slots → List PropertyModel → List Value → Type 0
RowConforms slots properties values = (kept : Members) × FitSlots slots (object kept) properties values

-- values fit the members that were found, of which a slot's sieve rejects one
pub record IsRowRejected (context : ReadContext) (slots : List RowSlot) (found : Members) : Type 0 where
  pub fits : FitSomeSlots (root_slots context) (root_properties context) (object found)
  pub slot : RowSlot
  pub is_slot : slice_get slots slot.index ≡ Some slot
  pub name : List ℕ
  pub named : slice_get (map (λ p. p.name) (root_properties context)) slot.index ≡ Some name
  pub json : Data
  pub is_found : get_member name found ≡ Some json
  pub rejected : IsRejectedIn context slot slot.sieve json

-- the members that were found: one of them is rejected, or the values fit them but for those that are not kept
abbrev pub TakesFound : ReadContext → RowType → Bool → List Value → Members → Type 0
TakesFound context type is_left_out values found =
    MatchBool is_left_out (IsRowRejected context type.slots.items found)
    (FitSlotsBut (root_slots context) (names_left context type.slots.items) (object found)
    (root_properties context) values)

-- after an opening brace the members of a row stand from one offset to the other, with the closing one
abbrev pub ReadsRow : ReadContext → RowType → Bool → List Value → ℕ → ℕ → Type 0
ReadsRow context type is_left_out values from to =
    PassesTo context.line from to
    × ReadsMembers context.depth (tokens_at fresh context.line from) (tokens_at after_value context.line to)
    (TakesFound context type is_left_out values)

-- what became of a row
abbrev pub TakesRow : ReadContext → RowType → List Value → ℕ → Taken → Type 0
TakesRow context type values from Nothing = Unit {0}
TakesRow context type values from Broken = Unit {0}
TakesRow context type values from (Put to) = ReadsRow context type false values from to
TakesRow context type values from (Rejected to) = ReadsRow context type true values from to
