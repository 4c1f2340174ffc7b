-- The end of a row, whose slots that were not seen may be absent.
use Rattle.std.proofs.Common.{◌≡◌, ⊎_elim, ℕ, zero, suc, ◌<◌, List, [], ◌∷◌, length, map, slice_get, Bool, true, false, IsTrue, Option, Some, IfSome, refl, sym, ap, ◌∙◌, subst, arith}
use Rattle.std.specs.Int.{bit_at}
use Rattle.csdl_schema.specs.SchemaModel.{HasDistinctNames, properties_at}
use Rattle.edm_values.specs.declared.value.Value.{Value}
use Rattle.edm_row_plans.specs.Expanded.{slots_at}
use Rattle.edm_rows.specs.private.Passed.{MayBeAbsent}
use Rattle.edm_rows.specs.declared.passed_value.ReadContext.{ReadContext}
use Rattle.edm_rows.specs.declared.row_types.RowSlot.{RowSlot}
use Rattle.edm_rows.specs.declared.row_types.RowType.{RowType}
use Rattle.edm_rows.specs.private.Filled.{FillsSlots}
use Rattle.edm_rows.specs.private.KeptRows.{IsRootType, RowConforms, root_properties, root_slots}
use Rattle.edm_rows.specs.private.KeptSoFar.{FillsAbsent}
use Rattle.seen_slots.specs.SlotBits.{bits_of}

-- a row's own type has one slot for each property
pub rows_long : (context : ReadContext) (type : RowType) → IsRootType context type → length type.slots.items ≡ length (root_properties context)
rows_long context type root =
    root.is.count ∙ root.is.is_plan.planned.count ∙ ap (λ (i : ℕ). length (properties_at context.schema.now i)) (sym root.is.of_type.0 ∙ root.type_id)

mapped_within : (rows : List RowSlot) (k : ℕ) (b : Bool) → slice_get (map (λ s. s.is_kept) rows) k ≡ Some b → k < length rows
mapped_within [] k b at = absurd (cc)
mapped_within (r ∷ rows) zero b at = omega arith
mapped_within (r ∷ rows) (suc k) b at = omega (arith, mapped_within rows k b at)

module _ (context : ReadContext) (type : RowType) (root : IsRootType context type) (seen : ℕ) (old new : List Value) (fills : FillsSlots type seen old new) where
  may_be_absent : (k : ℕ) → k < length (root_properties context) → bit_at seen k ≡ 0 → IfSome (slice_get (root_properties context) k) (MayBeAbsent (root_slots context))
  may_be_absent k inside none =
      let set : bit_at (bits_of type.optional.words) k ≡ 1 = ⊎_elim (λ was. absurd (omega (arith, none, was))) (λ optional. optional) (fills.may k (omega (arith, inside, rows_long context type root))) in
      subst (λ (i : ℕ). IfSome (slice_get (properties_at context.schema.now i) k) (MayBeAbsent (root_slots context))) root.type_id
      (subst (λ (node : Option ℕ). IfSome (slice_get (properties_at context.schema.now type.type_id) k) (MayBeAbsent (slots_at context.schema.now context.plan.now.expansion node))) root.node (root.is.optional k set))

  pub fills_absent : length old ≡ length type.slots.items → FillsAbsent context type.slots.items seen old new
  fills_absent long =
      record {
        may = may_be_absent;
        long = fills.long ∙ long ∙ rows_long context type root;
        seen_stay = fills.stay;
        absent_null = λ k none kept. fills.nulls k (mapped_within type.slots.items k true kept) none;
      }

  conforms_on : length old ≡ length type.slots.items → RowConforms (root_slots context) (root_properties context) old → RowConforms (root_slots context) (root_properties context) new
  conforms_on long conforms =
      fills.conforms (root_slots context) (root_properties context) (subst (λ (i : ℕ). HasDistinctNames (properties_at context.schema.now i)) (sym root.is.of_type.0 ∙ root.type_id) root.is.is_plan.distinct)
      (sym (rows_long context type root) ∙ sym long) may_be_absent conforms

-- the values go on to conform, whether or not the row may end
pub ends_conform : (context : ReadContext) (type : RowType) → IsRootType context type → (seen : ℕ) (b : Bool) (old new : List Value) → length old ≡ length type.slots.items → (IsTrue b → FillsSlots type seen old new) → (b ≡ false → new ≡ old)
    → RowConforms (root_slots context) (root_properties context) old → RowConforms (root_slots context) (root_properties context) new
ends_conform context type root seen true old new long fills stays conforms = conforms_on context type root seen old new (fills refl) long conforms
ends_conform context type root seen false old new long fills stays conforms = subst (RowConforms (root_slots context) (root_properties context)) (sym (stays refl)) conforms
