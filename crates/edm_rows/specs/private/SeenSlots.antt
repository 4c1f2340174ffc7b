-- For private clauses: whether the slots of types have marks.
use Rattle.std.specs.Prelude.{◌≡◌, ◌^◌, ◌%◌, ◌<◌, ◌≤◌, ℕ, length, slice_get, IfSome}
use Rattle.std.specs.Int.{bit_at}
use Rattle.seen_slots.specs.SlotBits.{bits_of}
use Rattle.edm_rows.specs.declared.passed_value.ReadContext.{ReadContext}
use Rattle.edm_rows.specs.declared.row_types.RowSlot.{RowSlot}
use Rattle.edm_rows.specs.declared.row_types.RowType.{RowType}

-- there are so many marks, enough for each of a context's types
abbrev pub HaveRoom : ℕ → ReadContext → Type 0
HaveRoom most context =
    (place : ℕ) → IfSome (slice_get context.types.now place) (λ type. length type.slots.items ≤ most)

-- a slot has one of so many marks
pub record HasMark (most : ℕ) (slot : RowSlot) : Type 0 where
  pub within : slot.index < most
  pub bit : slot.bit ≡ 2 ^ (slot.index % 64)

-- each slot of a type has; and the type says of each that it is one of all
pub record HasMarks (most : ℕ) (type : RowType) : Type 0 where
  pub room : length type.slots.items ≤ most
  pub each : (index : ℕ) → IfSome (slice_get type.slots.items index)
      (λ slot. (slot.index ≡ index) × (slot.bit ≡ 2 ^ (slot.index % 64)))
  pub all : (index : ℕ) → index < length type.slots.items → bit_at (bits_of type.all.words) index ≡ 1
