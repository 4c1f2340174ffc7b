-- Slots that were not seen become null, one after the other.
use Rattle.std.proofs.Common.{◌≡◌, ◌⊎◌, inl, ⊎_elim, ℕ, ◌+◌, ◌%◌, ◌^◌, ◌<◌, ◌≤◌, List, length, slice_get, slice_set, Some, refl, sym, ap, ◌∙◌, subst, arith}
use Rattle.std.specs.Int.{bit_at}
use Rattle.csdl_schema.specs.ExpansionView.{StepModel}
use Rattle.csdl_schema.specs.SchemaModel.{SchemaModel}
use Rattle.edm_values.specs.declared.value.Value.{Value, Null}
use Rattle.edm_row_plans.specs.declared.type_plan.TypePlan.{TypePlan}
use Rattle.std.proofs.lemmas.List.{length-set}
use Rattle.edm_rows.proofs.Indexes.{both_at, other_kept, set_there}
use Rattle.edm_rows.specs.declared.row_types.RowType.{RowType}
use Rattle.edm_rows.specs.private.Filled.{FillsSlots, GoOnConforming}
use Rattle.edm_rows.specs.private.KeptRows.{RowConforms}
use Rattle.edm_rows.specs.private.RowSlots.{IsRowSlot, IsRowType}
use Rattle.edm_rows.specs.private.SeenSlots.{HasMarks}
use Rattle.seen_slots.specs.SlotBits.{bits_of}
use Rattle.edm_rows.proofs.KeptMembers.{same_number, two_bits}
use Rattle.edm_rows.proofs.KeptSlots.{conforms_null, slot_stays}

-- the slots that were seen stay, and those below an index that were not are null; if each that was not may be absent,
-- values that conform go on to conform
pub record NullsBelow (seen place : ℕ) (old new : List Value) : Type 0 where
  pub long : length new ≡ length old
  pub stay : (k : ℕ) → bit_at seen k ≡ 1 → slice_get new k ≡ slice_get old k
  pub nulls : (k : ℕ) → k < place → bit_at seen k ≡ 0 → slice_get new k ≡ Some Null
  pub conforms : GoOnConforming seen old new

pub nulls_none : (seen : ℕ) (values : List Value) → NullsBelow seen 0 values values
nulls_none seen values = record { long = refl; stay = λ k is. refl; nulls = λ k less. absurd (omega (arith, less)); conforms = λ slots ps distinct long may conforms. conforms }

pub nulls_next : (seen place : ℕ) (old values : List Value) (v w : Value) → slice_get values place ≡ Some w → place < length values → NullsBelow seen place old values → (bit_at seen place ≡ 0 → v ≡ Null) → (bit_at seen place ≡ 1 → v ≡ w)
    → NullsBelow seen (place + 1) old (slice_set values place v)
nulls_next seen place old values v w there within so_far null same =
    record {
      long = length-set values place v ∙ so_far.long;
      stay = λ k set. ⊎_elim (λ here. stays_here k here set) (λ other. other_kept values place k v other ∙ so_far.stay k set) (same_number k place);
      nulls = λ k less none. ⊎_elim (λ here. null_here k here none) (λ other. other_kept values place k v other ∙ so_far.nulls k (omega (arith, less, other)) none) (same_number k place);
      conforms = λ slots ps distinct long may conforms.
          let before = so_far.conforms slots ps distinct long may conforms in
          ⊎_elim (λ none. conforms_null slots ps distinct values place v (null none) (omega (arith, within, long, so_far.long)) (may place (omega (arith, within, long, so_far.long)) none) before)
          (λ set. subst (RowConforms slots ps) (sym (slot_stays values place v (there ∙ ap Some (sym (same set))))) before) (two_bits seen place);
    }
  where
    stays_here : (k : ℕ) → k ≡ place → bit_at seen k ≡ 1 → slice_get (slice_set values place v) k ≡ slice_get old k
    stays_here k here set =
        ap (slice_get (slice_set values place v)) here ∙ set_there values place v within ∙ ap Some (same (subst (λ j. bit_at seen j ≡ 1) here set)) ∙ sym there ∙ ap (slice_get values) (sym here) ∙ so_far.stay k set

    null_here : (k : ℕ) → k ≡ place → bit_at seen k ≡ 0 → slice_get (slice_set values place v) k ≡ Some Null
    null_here k here none = ap (slice_get (slice_set values place v)) here ∙ set_there values place v within ∙ ap Some (null (subst (λ j. bit_at seen j ≡ 0) here none))

module _ (type : RowType) (seen : ℕ) where
  -- each slot was seen
  pub fills_seen : (values : List Value) → ((k : ℕ) → k < length type.slots.items → bit_at seen k ≡ 1) → FillsSlots type seen values values
  fills_seen values each =
      record {
        may = λ k inside. inl (each k inside);
        long = refl;
        stay = λ k is. refl;
        nulls = λ k inside none. absurd (omega (arith, none, each k inside));
        conforms = λ slots ps distinct long may conforms. conforms;
      }

  -- those that were not may be absent
  pub fills_unseen : (old new : List Value) → ((k : ℕ) → k < length type.slots.items → (bit_at seen k ≡ 1) ⊎ (bit_at (bits_of type.optional.words) k ≡ 1)) → NullsBelow seen (length type.slots.items) old new → FillsSlots type seen old new
  fills_unseen old new either below = record { may = either; long = below.long; stay = below.stay; nulls = below.nulls; conforms = below.conforms }

-- each slot of a type has a mark
pub type_marks : (schema : SchemaModel) (steps : List StepModel) (plans : List TypePlan) (plan : TypePlan) (type : RowType) (words : ℕ) → IsRowType schema steps plans plan type → length type.slots.items ≤ words → HasMarks words type
type_marks schema steps plans plan type words is room =
    record {
      room = room;
      each = λ k. both_at type.slots.items plan.slots.items (λ slot p. IsRowSlot schema steps plans k p slot) (λ slot. (slot.index ≡ k) × (slot.bit ≡ 2 ^ (slot.index % 64))) k is.count (is.each k) (λ slot p here. (here.index_is, here.bit));
      all = is.all;
    }
