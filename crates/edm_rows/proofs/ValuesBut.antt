-- Values that are alike to what is seen of JSON, but for what is passed over.
use Rattle.std.proofs.Common.{◌≡◌, ◌≢◌, ◌⊎◌, inl, inr, ⊎_elim, ℕ, List, [], ◌∷◌, ◌++◌, Bool, false, Some, Vec, Global, map, refl, sym, subst}
use Rattle.serde_json.specs.Data.{Data, Items as Jsons, array, item, no_items}
use Rattle.csdl_schema.specs.ExpansionView.{StepModel}
use Rattle.csdl_schema.specs.ExprType.{ExprType, SingleType, collection, single}
use Rattle.csdl_schema.specs.PropertyView.{property_type}
use Rattle.csdl_schema.specs.SchemaModel.{SchemaModel, Slots, slots_of}
use Rattle.edm_values.specs.Val.{FieldVal, Val, Vals, present}
use Rattle.edm_values.specs.Val as val
use Rattle.edm_values.specs.declared.value.Value.{Value, Null, List as ListOf}
use Rattle.edm_row_plans.specs.Expanded.{slots_at}
use Rattle.edm_row_plans.specs.declared.type_plan.SlotPlan.{SlotPlan}
use Rattle.edm_row_plans.specs.declared.type_plan.TypePlan.{TypePlan}
use Rattle.edm_entities.specs.Fits.{FitItems}
use Rattle.edm_entities.specs.Row.{ValAtType, field_of, items_of, val_of}
use Rattle.edm_entities.proofs.SlotLemmas.ReadEntities.{val_of-List}
use Rattle.json_room.specs.private.ItemTokens.{append_items}
use Rattle.edm_rows.specs.Alike.{AllAlike, AreAlike, FieldsAlike, Names, alike_lists, alike_same, both_present, no_members, one_member}
use Rattle.edm_rows.specs.declared.row_types.RowSlot.{RowSlot}
use Rattle.edm_rows.specs.declared.row_types.Task.{Task}
use Rattle.edm_rows.specs.declared.row_types.Task.TheVariants.{Text, Number, Truth, Date, Moment, Guid, Member, Record, Items, Any}
use Rattle.edm_rows.specs.private.Filled.{AreFilledBut}
use Rattle.edm_rows.specs.private.Held.{FilledAs, FilledBut, IsFilled, IsFilledBut, IsSeenAs, IsSingle, Kinds, read_type, type_of}
use Rattle.edm_rows.specs.private.Passed.{FitsSeen, SeenAlike}
use Rattle.edm_rows.specs.private.RowSlots.{IsRowSlot, kinds_of}
use Rattle.edm_rows.proofs.AlikeValues.{seen_alike}

-- ---- what a task reads

module _ (slots : Slots) (Passed : Names) (kinds : Kinds) (nullable : Bool) (inner : Task) where
  same_but : (takes : Bool) (type : ExprType) (v : Value) (json : Data) → IsFilled slots takes nullable type v json → IsFilledBut slots Passed takes nullable type v json
  same_but takes type v json filled = (val_of v slots.properties type, filled.0, alike_same (val_of v slots.properties type))

  -- the value of the JSON is alike to it
  pub filled_but : (task : Task) (v : Value) (json : Data) → FilledAs slots kinds nullable inner task v json → FilledBut slots Passed kinds nullable inner task v json
  filled_but Text v json filled = same_but nullable (single (type_of kinds Text)) v json filled
  filled_but Number v json filled = same_but nullable (single (type_of kinds Number)) v json filled
  filled_but Truth v json filled = same_but nullable (single (type_of kinds Truth)) v json filled
  filled_but Date v json filled = same_but nullable (single (type_of kinds Date)) v json filled
  filled_but Moment v json filled = same_but nullable (single (type_of kinds Moment)) v json filled
  filled_but Guid v json filled = same_but nullable (single (type_of kinds Guid)) v json filled
  filled_but Member v json filled = same_but nullable (single (type_of kinds Member)) v json filled
  filled_but Record v json filled = same_but nullable (single (type_of kinds Record)) v json filled
  filled_but Items v json filled = same_but false (collection (type_of kinds inner)) v json filled
  filled_but Any v json filled = filled

  -- a single task's value
  pub of_but : (task : Task) (v : Value) (json : Data) → IsSingle task → FilledBut slots Passed kinds nullable inner task v json → IsFilledBut slots Passed nullable nullable (single (type_of kinds task)) v json
  of_but Text v json some filled = filled
  of_but Number v json some filled = filled
  of_but Truth v json some filled = filled
  of_but Date v json some filled = filled
  of_but Moment v json some filled = filled
  of_but Guid v json some filled = filled
  of_but Member v json some filled = filled
  of_but Record v json some filled = filled
  of_but Items v json some filled = absurd (some.0 refl)
  of_but Any v json some filled = absurd (some.1 refl)

  -- nothing is asked of the JSON, or a value is seen of it
  seen_or_null : (task : Task) (v : Value) (json : Data) → FilledBut slots Passed kinds nullable inner task v json
      → ((task ≡ Any) × (v ≡ Null)) ⊎ ((task ≢ Any) × ((seen : Val) × IsSeenAs slots kinds nullable inner task seen json × AreAlike Passed (val_of v slots.properties (read_type kinds inner task)) seen))
  seen_or_null Text v json filled = inr (λ e. absurd (cc), filled)
  seen_or_null Number v json filled = inr (λ e. absurd (cc), filled)
  seen_or_null Truth v json filled = inr (λ e. absurd (cc), filled)
  seen_or_null Date v json filled = inr (λ e. absurd (cc), filled)
  seen_or_null Moment v json filled = inr (λ e. absurd (cc), filled)
  seen_or_null Guid v json filled = inr (λ e. absurd (cc), filled)
  seen_or_null Member v json filled = inr (λ e. absurd (cc), filled)
  seen_or_null Record v json filled = inr (λ e. absurd (cc), filled)
  seen_or_null Items v json filled = inr (λ e. absurd (cc), filled)
  seen_or_null Any v json filled = inl (refl, filled)

-- ---- lists

module _ (slots : Slots) (Passed : Names) (nullable : Bool) (type : SingleType) where
  -- one item more
  pub but_push : (values : List Value) (found : Jsons) (v : Value) (json : Data) → AreFilledBut slots Passed nullable type values found → IsFilledBut slots Passed nullable nullable (single type) v json
      → AreFilledBut slots Passed nullable type (values ++ v ∷ []) (append_items found (item json no_items))
  but_push [] no_items v json filled here = (here, tt)
  but_push [] (item d found) v json filled here = absurd filled
  but_push (w ∷ values) no_items v json filled here = absurd filled
  but_push (w ∷ values) (item d found) v json filled here = (filled.0, but_push values found v json filled.1 here)

  items_seen : (values : List Value) (found : Jsons) → AreFilledBut slots Passed nullable type values found
      → (seens : Vals) × FitItems slots nullable type found seens × AllAlike Passed (items_of slots.properties type (map val_of values)) seens
  items_seen [] no_items filled = (val.no_items, tt, no_members)
  items_seen [] (item d found) filled = absurd filled
  items_seen (v ∷ values) no_items filled = absurd filled
  items_seen (v ∷ values) (item d found) filled =
      let more = items_seen values found filled.1 in
      let here = filled.0 in
      (val.item here.0 more.0, (here.1, more.1), one_member (val_of v slots.properties (single type)) here.0 (items_of slots.properties type (map val_of values)) more.0 here.2 more.2)

  pub list_but : (values : Vec Value Global) (found : Jsons) → AreFilledBut slots Passed nullable type values.items found → IsFilledBut slots Passed false nullable (collection type) (ListOf values) (array found)
  list_but values found filled =
      let seen = items_seen values.items found filled in (
        val.items seen.0,
        (found, refl, seen.1),
        subst (λ (v : Val). AreAlike Passed v (val.items seen.0)) (sym (val_of-List slots (collection type) values))
            (alike_lists (items_of slots.properties type (map val_of values.items)) seen.0 seen.2),
      )

-- ---- a slot's property

module _ (schema : SchemaModel) (steps : List StepModel) (plans : List TypePlan) (index : ℕ) (plan : SlotPlan) (slot : RowSlot) (is : IsRowSlot schema steps plans index plan slot) (Passed : Names) where
  -- what is stored is alike to what is seen of the property
  pub property_but : (v : Value) (json : Data) → FilledBut (slots_at schema steps slot.node) Passed (kinds_of schema plans slot) slot.is_nullable slot.item slot.task v json
      → (seen : ValAtType) × FitsSeen (slots_at schema steps plan.node) plan.property.nullable (property_type schema plan.property) (Some json) seen
      × SeenAlike (slots_at schema steps plan.node) Passed (property_type schema plan.property) (val_of v) seen
  property_but v json filled =
      ⊎_elim
      (λ none.
      let as_null : FilledAs (slots_at schema steps slot.node) (kinds_of schema plans slot) slot.is_nullable slot.item slot.task v json =
      subst (λ t. FilledAs (slots_at schema steps slot.node) (kinds_of schema plans slot) slot.is_nullable slot.item t v json) (sym none.0) none.1 in
      (val_of v, (is.fills v json as_null).0, seen_alike (slots_at schema steps plan.node) Passed (property_type schema plan.property) (val_of v) (val_of v) refl))
      (λ some. of_seen some.0 some.1.0 some.1.1 some.1.2)
      (seen_or_null (slots_at schema steps slot.node) Passed (kinds_of schema plans slot) slot.is_nullable slot.item slot.task v json filled)
    where
      field : ValAtType → FieldVal
      field = field_of (slots_of schema).properties (property_type schema plan.property)

      of_seen : slot.task ≢ Any → (seen : Val) → IsSeenAs (slots_at schema steps slot.node) (kinds_of schema plans slot) slot.is_nullable slot.item slot.task seen json
          → AreAlike Passed (val_of v (slots_of schema).properties (read_type (kinds_of schema plans slot) slot.item slot.task)) seen
          → (seen_as : ValAtType) × FitsSeen (slots_at schema steps plan.node) plan.property.nullable (property_type schema plan.property) (Some json) seen_as
          × SeenAlike (slots_at schema steps plan.node) Passed (property_type schema plan.property) (val_of v) seen_as
      of_seen some seen sees alike =
          let shown : ValAtType = λ _ _. seen in
          let stored = val_of v (slots_of schema).properties (read_type (kinds_of schema plans slot) slot.item slot.task) in (
            shown,
            is.sees seen json sees,
            subst (λ (f : FieldVal). FieldsAlike Passed f (field shown)) (sym (is.seen_at some (val_of v)))
                (subst (FieldsAlike Passed (present stored)) (sym (is.seen_at some shown)) (both_present stored seen alike)),
          )
