-- For private clauses: how a slot of a type is made of the slot of a plan.
use Rattle.std.specs.Prelude.{◌≡◌, ◌≢◌, ◌⊎◌, ◌^◌, ◌%◌, ◌<◌, ℕ, pos, List, Bool, true, false, Option, Some, None, length, slice_get, IfSome, if◌then◌else◌}
use Rattle.csdl_schema.specs.ExprType.{primitive}
use Rattle.csdl_schema.specs.declared.property.Property.{Property}
use Rattle.edm_values.specs.NumberTypes.{IsNumberOf, IsNumberType}
use Rattle.edm_values.specs.declared.primitive.PrimitiveType.{PrimitiveType}
use Rattle.edm_row_plans.specs.Expanded.{may_hold_null, wanted_with}
use Rattle.edm_row_plans.specs.declared.type_plan.SlotPlan.{SlotPlan}
use Rattle.edm_row_plans.specs.declared.type_plan.TypePlan.{TypePlan}
use Rattle.edm_row_plans.specs.declared.wanted.Wanted.{Wanted}
use Rattle.edm_row_plans.specs.declared.wanted.Wanted.TheVariants.{Prim, Enum, Complex}
use Rattle.edm_rows.specs.declared.row_types.RowSlot.{RowSlot}
use Rattle.edm_rows.specs.declared.row_types.SlotKind.{SlotKind}
use Rattle.edm_rows.specs.declared.row_types.Task.{Task}
use Rattle.edm_rows.specs.declared.row_types.Task.TheVariants.{Any, Items, Member, Record}
use Rattle.edm_rows.specs.private.Held.{IsSingle, Kinds, type_of}
use Rattle.edm_rows.specs.private.RowSlots.{HasPrimitive}

-- so many digits always write a number of the type, if that is one of numbers
abbrev pub AreSureDigits : PrimitiveType → ℕ → Type 0
AreSureDigits type count = IsNumberType type → (n : ℕ) → n < 10 ^ count → IsNumberOf type (pos n)

-- values of a primitive type are passed by that task
pub record IsPrimitiveTask (type : PrimitiveType) (task : Task) : Type 0 where
  pub of_type : (kinds : Kinds) → kinds.primitive ≡ type → type_of kinds task ≡ primitive type
  pub has : (count : ℕ) → AreSureDigits type count → HasPrimitive type count task
  pub single : IsSingle task

-- what is wanted is passed so; anything, where nothing is wanted
abbrev pub IsKindOf : Option Wanted → SlotKind → Type 0
IsKindOf None kind = kind.task ≡ Any
IsKindOf (Some (Prim type)) kind =
    (kind.prim ≡ type) × IsPrimitiveTask type kind.task × AreSureDigits type kind.sure
IsKindOf (Some (Enum id)) kind = (kind.task ≡ Member) × (kind.member_of ≡ Some id)
IsKindOf (Some (Complex id)) kind = kind.task ≡ Record

-- many values are passed as the items of an array, if they are looked at
abbrev pub IsTaskAs : Task → Bool → Task → Type 0
IsTaskAs inner many task =
    ((many ≡ true) × (inner ≢ Any) × (task ≡ Items)) ⊎ (((many ≡ false) ⊎ (inner ≡ Any)) × (task ≡ inner))

-- whether the single value of a property, or an item of it, may be null
abbrev pub nullable_as : Property → Bool
nullable_as p = if p.many then may_hold_null p.kind p.nullable else p.nullable

-- what a slot says of its values is what a plan says of them
pub record IsSlotAs (plan : SlotPlan) (slot : RowSlot) : Type 0 where
  pub kind : SlotKind
  pub is_kind : IsKindOf (wanted_with plan.property.kind plan.target) kind
  pub item : slot.item ≡ kind.task
  pub prim : slot.prim ≡ kind.prim
  pub member_of : slot.member_of ≡ kind.member_of
  pub sure : slot.sure ≡ kind.sure
  pub task : IsTaskAs slot.item plan.property.many slot.task
  pub nullable : slot.is_nullable ≡ nullable_as plan.property

-- it is made of a plan with that name, the one at an index
pub record IsMadeOf (index : ℕ) (name : List ℕ) (plan : SlotPlan) (slot : RowSlot) : Type 0 where
  pub named : slot.key ≡ name
  pub behind : slot.node ≡ plan.node
  pub points : slot.record ≡ plan.record
  pub index_is : slot.index ≡ index
  pub bit : slot.bit ≡ 2 ^ (slot.index % 64)
  pub order : slot.order < 1024
  pub values : IsSlotAs plan slot

-- where records are wanted, their plan is one of these, of that type and after that node
abbrev pub HasRecord : List TypePlan → SlotPlan → Type 0
HasRecord plans plan =
    (id : ℕ) → wanted_with plan.property.kind plan.target ≡ Some (Complex id)
    → (plan.record < length plans) × IfSome (slice_get plans plan.record) (λ p. (p.type_id ≡ id) × (p.node ≡ plan.node))
