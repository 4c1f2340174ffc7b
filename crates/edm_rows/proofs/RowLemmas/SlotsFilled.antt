-- Slots of plans as slots of types: the values that their tasks read fit their properties.
use Rattle.std.proofs.Common.{◌≡◌, inl, inr, ℕ, List, [], Bool, cond, true, false, Option, Some, None, sym, ap, ◌∙◌, subst, ⊎_elim, refl}
use Rattle.serde_json.specs.Data.{Data}
use Rattle.csdl_schema.specs.ExpansionView.{StepModel}
use Rattle.csdl_schema.specs.ExprType.{collection, single}
use Rattle.csdl_schema.specs.PropertyView.{property_type, target_of}
use Rattle.csdl_schema.specs.SchemaModel.{SchemaModel, Slots}
use Rattle.csdl_schema.specs.declared.property.Property.{Property}
use Rattle.edm_values.specs.declared.value.Value.{Value, Null}
use Rattle.edm_row_plans.specs.Expanded.{may_hold_null, slots_at, wanted_with}
use Rattle.edm_entities.specs.private.Walk.{wanted_of}
use Rattle.edm_row_plans.specs.Plans.{IsSlotPlan}
use Rattle.edm_row_plans.specs.declared.type_plan.SlotPlan.{SlotPlan}
use Rattle.edm_row_plans.specs.declared.type_plan.TypePlan.{TypePlan}
use Rattle.edm_row_plans.specs.declared.wanted.Wanted.{Wanted}
use Rattle.edm_entities.specs.Fits.{FitsFound, FitsType}
use Rattle.edm_entities.specs.Row.{val_of}
use Rattle.edm_rows.specs.private.Passed.{FitsSeen}
use Rattle.edm_entities.specs.private.Walk.{HoldsInSlot, wanted_single}
use Rattle.edm_rows.proofs.RowLemmas.Properties.{found_by, single_fits}
use Rattle.edm_entities.proofs.SlotLemmas.EachSlot.{IsLookedAt, held_seen, null_in_slot}
use Rattle.edm_entities.proofs.SlotLemmas.FoundWalk.{items_as, items_null, seen_as, seen_fits, type_wanted, unwanted_fits}
use Rattle.edm_rows.specs.declared.row_types.RowSlot.{RowSlot}
use Rattle.edm_rows.specs.declared.row_types.Task.TheVariants.{Any}
use Rattle.edm_rows.specs.private.Held.{FilledAs, IsFilled, IsSingle, Kinds, type_of}
use Rattle.edm_rows.specs.private.RowSlots.{IsRowSlot, kinds_of, name_at}
use Rattle.edm_rows.specs.private.RowTypes.{HasRecord, IsKindOf, IsMadeOf, IsTaskAs, nullable_as}
use Rattle.edm_rows.proofs.FilledValues.{of_filled}
use Rattle.edm_rows.proofs.RowLemmas.RowTypes.{agrees, held_fits, kind_single, kind_type, made_task, no_items, record_type, typed}
use Rattle.edm_rows.proofs.RowLemmas.SlotsSeen.{seen_there, sees_fits}

-- a value that fits its slot's property
abbrev FitsThere : SchemaModel → Slots → Property → Value → Data → Type 0
FitsThere schema slots p v json =
    FitsSeen slots p.nullable (property_type schema p) (Some json) (val_of v) × HoldsInSlot slots (property_type schema p) v

module _ (schema : SchemaModel) (slots : Slots) (p : Property) (v : Value) (json : Data) where
  -- nothing is wanted
  none_filled : wanted_of p.kind (slots.needed []) (target_of p) ≡ None → v ≡ Null → FitsThere schema slots p v json
  none_filled never null = (unwanted_fits schema slots p.nullable p.kind (target_of p) p.many (Some json) v never null, null_in_slot slots (property_type schema p) v null)

  -- many values, or a single one
  many_filled : (wanted : Wanted) → wanted_of p.kind (slots.needed []) (target_of p) ≡ Some wanted → p.many ≡ true → IsFilled slots false (nullable_as p) (collection (wanted_single schema wanted)) v json → FitsThere schema slots p v json
  many_filled wanted is many filled =
      let type = collection (wanted_single schema wanted) in
      let seen = subst (IsLookedAt slots (property_type schema p)) (ap (type_wanted schema wanted) many) (seen_as schema slots p.kind (target_of p) p.many wanted is) in
      let same : nullable_as p ≡ may_hold_null p.kind p.nullable = ap (λ (b : Bool). cond b (may_hold_null p.kind p.nullable) p.nullable) many in
      let inner : nullable_as p ≡ items_null (property_type schema p) p.nullable = same ∙ items_as schema slots p.kind (target_of p) p.many p.nullable wanted is in (
        seen_fits slots p.nullable (property_type schema p) type json v seen
            (subst (λ b. FitsFound (Some json) false (val_of v slots.properties type) (λ there. FitsType slots b type there (val_of v slots.properties type))) inner filled.0),
        held_seen slots (property_type schema p) type v seen filled.1,
      )

  one_filled : (wanted : Wanted) → wanted_of p.kind (slots.needed []) (target_of p) ≡ Some wanted → p.many ≡ false → IsFilled slots (nullable_as p) (nullable_as p) (single (wanted_single schema wanted)) v json → FitsThere schema slots p v json
  one_filled wanted is one filled =
      let w = wanted_single schema wanted in
      let held = val_of v slots.properties (single w) in
      let inner = items_null (property_type schema p) p.nullable in
      let seen = subst (IsLookedAt slots (property_type schema p)) (ap (type_wanted schema wanted) one) (seen_as schema slots p.kind (target_of p) p.many wanted is) in
      let same : nullable_as p ≡ p.nullable = ap (λ (b : Bool). cond b (may_hold_null p.kind p.nullable) p.nullable) one in
      let fits = subst (λ b. FitsFound (Some json) b held (λ there. FitsType slots b (single w) there held)) same filled.0 in (
        seen_fits slots p.nullable (property_type schema p) (single w) json v seen
            (found_by json p.nullable held (λ there. FitsType slots p.nullable (single w) there held) (λ there. FitsType slots inner (single w) there held) (λ there there_fits. single_fits slots p.nullable inner w there held there_fits) fits),
        held_seen slots (property_type schema p) (single w) v seen filled.1,
      )

module _ (schema : SchemaModel) (steps : List StepModel) (plans : List TypePlan) (plan : SlotPlan) (slot : RowSlot) (name : List ℕ) (index : ℕ) where
  -- what its task reads fits the property
  filled_fits : (id : ℕ) (place : Option ℕ) → IsSlotPlan schema steps id place index plan → IsMadeOf index name plan slot → HasRecord plans plan → (v : Value) (json : Data)
      → FilledAs (slots_at schema steps slot.node) (kinds_of schema plans slot) slot.is_nullable slot.item slot.task v json → FitsThere schema (slots_at schema steps plan.node) plan.property v json
  filled_fits id place planned made has v json filled = go (wanted_with plan.property.kind plan.target) refl made.values.is_kind
    where
      slots : Slots
      slots = slots_at schema steps plan.node

      p : Property
      p = plan.property

      kinds : Kinds
      kinds = kinds_of schema plans slot

      is_wanted : (o : Option Wanted) → wanted_with plan.property.kind plan.target ≡ o → wanted_of p.kind (slots.needed []) (target_of p) ≡ o
      is_wanted o e = ap (wanted_with p.kind) (sym planned.leads) ∙ e

      of_type : (w : Wanted) → wanted_with plan.property.kind plan.target ≡ Some w → IsKindOf (Some w) made.values.kind → type_of kinds slot.item ≡ wanted_single schema w
      of_type w e is =
          ap (type_of kinds) made.values.item
          ∙ kind_type schema w made.values.kind kinds is made.values.prim (ap (name_at schema) made.values.member_of) (λ t same. record_type schema steps plans plan slot name index t made has (e ∙ ap Some same))

      here : FilledAs slots kinds slot.is_nullable slot.item slot.task v json
      here = subst (λ n. FilledAs (slots_at schema steps n) kinds slot.is_nullable slot.item slot.task v json) made.behind filled

      by : (w : Wanted) → wanted_with plan.property.kind plan.target ≡ Some w → IsKindOf (Some w) made.values.kind → IsTaskAs slot.item p.many slot.task → FitsThere schema slots p v json
      by w e is (inl seen) =
          many_filled schema slots p v json w (is_wanted (Some w) e) seen.0 (subst (λ t. IsFilled slots false (nullable_as p) (collection t) v json) (of_type w e is)
          (subst (λ b. IsFilled slots false b (collection (type_of kinds slot.item)) v json) made.values.nullable (subst (λ t. FilledAs slots kinds slot.is_nullable slot.item t v json) seen.2 here)))
      by w e is (inr seen) =
          let some : IsSingle slot.item = subst IsSingle (sym made.values.item) (kind_single w made.values.kind is) in
          let one : p.many ≡ false = ⊎_elim (λ is_one. is_one) (λ any. absurd (some.1 any)) seen.0 in
          one_filled schema slots p v json w (is_wanted (Some w) e) one (subst (λ t. IsFilled slots (nullable_as p) (nullable_as p) (single t) v json) (of_type w e is)
          (subst (λ b. IsFilled slots b b (single (type_of kinds slot.item)) v json) made.values.nullable
          (of_filled slots kinds slot.is_nullable slot.item slot.item v json some (subst (λ t. FilledAs slots kinds slot.is_nullable slot.item t v json) seen.1 here))))

      any_null : IsTaskAs slot.item p.many slot.task → slot.item ≡ Any → v ≡ Null
      any_null (inl seen) is = absurd (seen.1 is)
      any_null (inr seen) is = subst (λ t. FilledAs slots kinds slot.is_nullable slot.item t v json) (seen.1 ∙ is) here

      go : (o : Option Wanted) → wanted_with plan.property.kind plan.target ≡ o → IsKindOf o made.values.kind → FitsThere schema slots p v json
      go None e is = none_filled schema slots p v json (is_wanted None e) (any_null made.values.task (made.values.item ∙ is))
      go (Some w) e is = by w e is made.values.task

  pub row_slot_of : (id : ℕ) (place : Option ℕ) → IsSlotPlan schema steps id place index plan → IsMadeOf index name plan slot → HasRecord plans plan → IsRowSlot schema steps plans index plan slot
  row_slot_of id place planned made has =
      record {
        behind = made.behind;
        index_is = made.index_is;
        bit = made.bit;
        order = made.order;
        agrees = agrees schema steps plans plan slot name index made has;
        task = made_task slot plan.property.many (λ e. no_items schema steps plans plan slot name index (wanted_with plan.property.kind plan.target) made.values.kind made.values.is_kind (sym made.values.item ∙ e)) made.values.task;
        fits = held_fits schema steps plans plan slot name index id place planned made has;
        fills = filled_fits id place planned made has;
        sees = sees_fits schema steps plans plan slot name index id place planned made has;
        seen_at = seen_there schema steps plans plan slot name index id place planned made has;
        typed = typed schema steps plans plan slot name index made has;
      }
