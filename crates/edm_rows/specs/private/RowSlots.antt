-- For private clauses: what a row's types and their slots say of those of its plan.
use Rattle.std.specs.Prelude.{◌≡◌, ◌≢◌, ◌⊎◌, ◌^◌, ◌%◌, ◌<◌, ◌≤◌, ℕ, pos, List, [], length, map, Option, Some, None, slice_get, IfSome, true, false}
use Rattle.std.specs.Int.{bit_at}
use Rattle.serde_json.specs.Data.{Data}
use Rattle.csdl_schema.specs.ExpansionView.{StepModel}
use Rattle.csdl_schema.specs.ExprType.{single}
use Rattle.csdl_schema.specs.PropertyView.{property_type}
use Rattle.csdl_schema.specs.SchemaModel.{SchemaModel, declared, properties_at, slots_of, type_name_at}
use Rattle.edm_values.specs.NumberTypes.{IsNumberOf}
use Rattle.edm_values.specs.declared.primitive.PrimitiveType.{PrimitiveType}
use Rattle.edm_values.specs.declared.primitive.PrimitiveType.TheVariants as prim
use Rattle.edm_values.specs.declared.sieve.Sieve.TheVariants.{All}
use Rattle.edm_row_plans.specs.Expanded.{slots_at}
use Rattle.edm_row_plans.specs.Plans.{IsPlan}
use Rattle.edm_row_plans.specs.declared.type_plan.SlotPlan.{SlotPlan}
use Rattle.edm_row_plans.specs.declared.type_plan.TypePlan.{TypePlan}
use Rattle.edm_rows.specs.private.Passed.{FitsSeen, FitsSomeProperty, MayBeAbsent}
use Rattle.edm_entities.specs.private.Walk.{HoldsInSlot}
use Rattle.edm_entities.specs.Row.{ValAtType, field_of, val_of}
use Rattle.edm_values.specs.Val.{Val, present}
use Rattle.edm_values.specs.declared.value.Value.{Value}
use Rattle.edm_rows.specs.declared.row_types.RowSlot.{RowSlot}
use Rattle.edm_rows.specs.declared.row_types.RowType.{RowType}
use Rattle.edm_rows.specs.declared.row_types.Task.{Task}
use Rattle.edm_rows.specs.declared.row_types.Task.TheVariants.{Text, Number, Truth, Date, Moment, Guid, Record, Items, Any}
use Rattle.seen_slots.specs.SlotBits.{bits_of}
use Rattle.edm_rows.specs.private.Held.{FilledAs, IsHeldTo, IsLeaf, IsSeenAs, IsSingle, Kinds, read_type, type_of}

-- the name of a type of a schema, if there is one
abbrev pub name_at : SchemaModel → Option ℕ → List ℕ
name_at schema None = []
name_at schema (Some id) = type_name_at schema id

-- the type of the plan at an index
abbrev pub id_at : List TypePlan → ℕ → Option ℕ
id_at plans place = slice_get (map (λ p. p.type_id) plans) place

-- what a slot says of its values besides its task
abbrev pub kinds_of : SchemaModel → List TypePlan → RowSlot → Kinds
kinds_of schema plans slot = record {
  primitive = slot.prim;
  enumeration = name_at schema slot.member_of;
  record_type = name_at schema (id_at plans slot.record);
}

-- JSON that a slot's task holds to
abbrev pub IsSlotHeld : SchemaModel → List StepModel → List TypePlan → RowSlot → Data → Type 0
IsSlotHeld schema steps plans slot json =
    IsHeldTo (slots_at schema steps slot.node) (kinds_of schema plans slot) slot.is_nullable slot.item slot.task json

-- the plan at the index of its records' plan is one of these, and is after the slot's node
pub record LeadsTo (plans : List TypePlan) (slot : RowSlot) : Type 0 where
  pub within : slot.record < length plans
  pub behind : IfSome (slice_get plans slot.record) (λ p. p.node ≡ slot.node)

-- the primitive type of values that are passed by a task is the task's; so many digits always write a number of it
abbrev pub HasPrimitive : PrimitiveType → ℕ → Task → Type 0
HasPrimitive type count Text = type ≡ prim.String
HasPrimitive type count Number = (n : ℕ) → n < 10 ^ count → IsNumberOf type (pos n)
HasPrimitive type count Truth = type ≡ prim.Bool
HasPrimitive type count Date = type ≡ prim.Date
HasPrimitive type count Moment = type ≡ prim.DateTimeOffset
HasPrimitive type count Guid = type ≡ prim.Guid
HasPrimitive type count _ = Unit {0}

-- what a slot says of its values, or of its items, besides their task agrees with that
pub record IsSlotOf (plans : List TypePlan) (slot : RowSlot) : Type 0 where
  pub leads : slot.item ≡ Record → LeadsTo plans slot
  pub primitive : HasPrimitive slot.prim slot.sure slot.item

-- the task is that of a slot's single values, or of its items; or it is that of an array of these
abbrev pub IsTaskOf : RowSlot → Task → Type 0
IsTaskOf slot task = ((task ≢ Items) × (task ≡ slot.item)) ⊎ ((task ≡ Items) × IsSingle slot.item)

-- it is the slot of that index of a plan: what its task holds to fits the property, which has the type that the task
-- reads, and a single value without parts is of the task's type
pub record IsRowSlot
    (schema : SchemaModel) (steps : List StepModel) (plans : List TypePlan) (index : ℕ) (plan : SlotPlan)
    (slot : RowSlot) : Type 0 where
  pub behind : slot.node ≡ plan.node
  pub index_is : slot.index ≡ index
  pub bit : slot.bit ≡ 2 ^ (slot.index % 64)
  pub order : slot.order < 1024
  pub agrees : IsSlotOf plans slot
  pub task : IsTaskOf slot slot.task
  pub fits : (json : Data) → IsSlotHeld schema steps plans slot json
      → FitsSomeProperty (slots_at schema steps plan.node) plan.property.nullable
      (property_type schema plan.property) (Some json)
  pub fills : (value : Value) (json : Data)
      → FilledAs (slots_at schema steps slot.node) (kinds_of schema plans slot) slot.is_nullable slot.item
      slot.task value json
      → FitsSeen (slots_at schema steps plan.node) plan.property.nullable
      (property_type schema plan.property) (Some json)
      (val_of value) × HoldsInSlot (slots_at schema steps plan.node) (property_type schema plan.property) value
  pub sees : (seen : Val) (json : Data)
      → IsSeenAs (slots_at schema steps slot.node) (kinds_of schema plans slot) slot.is_nullable slot.item slot.task
      seen json
      → FitsSeen (slots_at schema steps plan.node) plan.property.nullable (property_type schema plan.property)
      (Some json) (λ properties type. seen)
  pub seen_at : slot.task ≢ Any → (seen : ValAtType)
      → field_of (slots_of schema).properties (property_type schema plan.property) seen
      ≡ present (seen (slots_of schema).properties (read_type (kinds_of schema plans slot) slot.item slot.task))
  pub typed : IsLeaf slot.task → slot.task ≢ Any
      → (property_type schema plan.property ≡ declared (single (type_of (kinds_of schema plans slot) slot.task)))
      × (plan.property.nullable ≡ slot.is_nullable)

-- its values are not kept, and all pass
abbrev pub IsFresh : RowSlot → Type 0
IsFresh slot = (slot.is_kept ≡ false) × (slot.sieve ≡ All)

-- each slot of a type is so
abbrev pub IsFreshType : RowType → Type 0
IsFreshType type = (index : ℕ) → IfSome (slice_get type.slots.items index) IsFresh

-- none of these plans has more than 64 slots
abbrev pub AreFew : List TypePlan → Type 0
AreFew plans = (place : ℕ) → IfSome (slice_get plans place) (λ plan. length plan.slots.items ≤ 64)

-- it is the type of a plan, of 1,024 slots at most; those that it says may be absent may, and all are few where it says
-- so
pub record IsRowType
    (schema : SchemaModel) (steps : List StepModel) (plans : List TypePlan) (plan : TypePlan)
    (type : RowType) : Type 0 where
  pub is_plan : IsPlan schema steps plan
  pub of_type : (type.type_id ≡ plan.type_id) × (type.node ≡ plan.node)
  pub count : length type.slots.items ≡ length plan.slots.items
  pub few : length type.slots.items ≤ 1024
  pub order : type.order < 1024
  pub each : (index : ℕ) → IfSome (slice_get type.slots.items index)
      (λ slot. IfSome (slice_get plan.slots.items index) (λ p. IsRowSlot schema steps plans index p slot))
  pub named : (index : ℕ) → IfSome (slice_get type.slots.items index)
      (λ slot. slice_get (map (λ p. p.name) (properties_at schema type.type_id)) index ≡ Some slot.key)
  pub all : (index : ℕ) → index < length type.slots.items → bit_at (bits_of type.all.words) index ≡ 1
  pub few_each : type.all_few ≡ true → AreFew plans
  pub optional : (index : ℕ) → bit_at (bits_of type.optional.words) index ≡ 1
      → IfSome (slice_get (properties_at schema type.type_id) index) (MayBeAbsent (slots_at schema steps type.node))

-- it is the type of one of these plans
abbrev pub IsTypeOf : SchemaModel → List StepModel → List TypePlan → RowType → Type 0
IsTypeOf schema steps plans type = (plan : TypePlan) × IsRowType schema steps plans plan type

-- each of these types is that of the plan at its index
pub record AreRowTypes (schema : SchemaModel) (steps : List StepModel) (plans : List TypePlan)
    (types : List RowType) : Type 0 where
  pub count : length types ≡ length plans
  pub each : (place : ℕ)
      → IfSome (slice_get types place) (λ t. IfSome (slice_get plans place) (λ p. IsRowType schema steps plans p t))
