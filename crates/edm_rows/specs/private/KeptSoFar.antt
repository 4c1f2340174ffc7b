-- For private clauses: the members of a row that were read so far, of which those that are kept were put into its
-- slots.
use Rattle.std.specs.Prelude.{◌≡◌, ℕ, ◌<◌, List, length, map, slice_get, get_or, Bool, true, false, Some, IfSome, MatchBool}
use Rattle.std.specs.Int.{bit_at}
use Rattle.serde_json.specs.Data.{Data, Members}
use Rattle.serde_json.specs.Find.{get_member}
use Rattle.edm_values.specs.declared.value.Value.{Value, Null}
use Rattle.edm_rows.specs.private.Passed.{MayBeAbsent, PassedSoFar, SlotsSoFarBut}
use Rattle.edm_rows.specs.declared.kept_value.Step.{Step}
use Rattle.edm_rows.specs.declared.kept_value.Step.TheVariants.{Broken, Nothing, Read, Rejected}
use Rattle.edm_rows.specs.declared.passed_value.ReadContext.{ReadContext}
use Rattle.edm_rows.specs.declared.row_types.RowSlot.{RowSlot}
use Rattle.edm_rows.specs.declared.row_types.RowType.{RowType}
use Rattle.edm_rows.specs.private.KeptRows.{IsRejectedIn, names_left, root_properties, root_slots}
use Rattle.json_room.specs.private.ValuesStand.{MembersRead, MembersUpTo}

-- a slot is filled where its bit is set
pub record SameMarks (seen : ℕ) (filled : List Bool) : Type 0 where
  pub set : (k : ℕ) → bit_at seen k ≡ 1 → k < length filled → get_or filled k false ≡ true
  pub not_set : (k : ℕ) → bit_at seen k ≡ 0 → get_or filled k false ≡ false

-- a value was found in a kept slot, whose sieve rejects it
pub record RejectedSoFar
    (context : ReadContext) (rows : List RowSlot) (seen : ℕ) (found : Members) : Type 0 where
  pub slot : RowSlot
  pub is_slot : slice_get rows slot.index ≡ Some slot
  pub is_kept : slot.is_kept ≡ true
  pub was_seen : bit_at seen slot.index ≡ 1
  pub name : List ℕ
  pub named : slice_get (map (λ p. p.name) (root_properties context)) slot.index ≡ Some name
  pub json : Data
  pub is_found : get_member name found ≡ Some json
  pub rejected : IsRejectedIn context slot slot.sieve json

-- what was found fits, and a value was rejected; or the values are it, but for those that are not kept
abbrev pub SoFar : ReadContext → List RowSlot → Bool → ℕ → List Bool → List Value → Members → Type 0
SoFar context rows is_left_out seen filled values found =
    MatchBool is_left_out (PassedSoFar (root_slots context) (root_properties context) found filled
    × RejectedSoFar context rows seen found)
    (SlotsSoFarBut (root_slots context) (names_left context rows)
    (root_properties context) found filled values)

-- the members before an offset, of which these slots were seen; and up to where the value of one ends
pub record KeptUpTo
    (context : ReadContext) (rows : List RowSlot) (from place seen : ℕ) (is_left_out : Bool)
    (values : List Value) : Type 0 where
  pub filled : List Bool
  pub long : length filled ≡ length (root_properties context)
  pub marks : SameMarks seen filled
  pub members : MembersUpTo context.depth context.line from place (SoFar context rows is_left_out seen filled values)

pub record KeptRead
    (context : ReadContext) (rows : List RowSlot) (from end seen : ℕ) (is_left_out : Bool)
    (values : List Value) : Type 0 where
  pub filled : List Bool
  pub long : length filled ≡ length (root_properties context)
  pub marks : SameMarks seen filled
  pub members : MembersRead context.depth context.line from end (SoFar context rows is_left_out seen filled values)

-- what became of a member: the members were read up to an offset, and its value was put or is rejected
abbrev pub StepsTo : ReadContext → RowType → ℕ → ℕ → ℕ → List Value → Step → Type 0
StepsTo context type from end seen values Read = KeptRead context type.slots.items from end seen false values
StepsTo context type from end seen values Rejected = KeptRead context type.slots.items from end seen true values
StepsTo context type from end seen values Nothing = Unit {0}
StepsTo context type from end seen values Broken = Unit {0}

-- a member that was read ends after an offset, and the order of those after it is kept somewhere
abbrev pub StepsFrom : ℕ → ℕ → ℕ → Step → Type 0
StepsFrom place end order Read = (place < end) × (order < 1024)
StepsFrom place end order Rejected = (place < end) × (order < 1024)
StepsFrom place end order Nothing = Unit {0}
StepsFrom place end order Broken = Unit {0}

-- what the row becomes: slots that were seen stay, and those that are kept and were not are null
pub record FillsAbsent
    (context : ReadContext) (rows : List RowSlot) (seen : ℕ) (old new : List Value) : Type 0 where
  pub may : (k : ℕ) → k < length (root_properties context) → bit_at seen k ≡ 0
      → IfSome (slice_get (root_properties context) k) (MayBeAbsent (root_slots context))
  pub long : length new ≡ length (root_properties context)
  pub seen_stay : (k : ℕ) → bit_at seen k ≡ 1 → slice_get new k ≡ slice_get old k
  pub absent_null : (k : ℕ) → bit_at seen k ≡ 0 → slice_get (map (λ s. s.is_kept) rows) k ≡ Some true
      → slice_get new k ≡ Some Null
