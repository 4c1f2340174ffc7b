-- Values that are read and not kept: some value fits each.
use Rattle.std.proofs.Common.{◌≡◌, ℕ, List, slice_get, Bool, false, Option, Some, None, IfSome, refl, sym, subst}
use Rattle.serde_json.specs.Data.{Data, array, object, Items, no_items as no_json, item as json_item, Members}
use Rattle.serde_json.specs.Find.{get}
use Rattle.edm_values.specs.Val.{Val, fields, items, no_items, item}
use Rattle.csdl_schema.specs.ExpansionView.{StepModel}
use Rattle.csdl_schema.specs.ExprType.{ExprType, single, collection, SingleType, structured}
use Rattle.csdl_schema.specs.PropertyView.{IsReadAs, property_type}
use Rattle.csdl_schema.specs.SchemaModel.{SchemaModel, PropertyModel, PropertyType, Slots, declared, opaque, navigation, HasDistinctNames, properties_at, slots_behind, type_name_at}
use Rattle.csdl_schema.specs.declared.property.Property.{Property}
use Rattle.edm_entities.specs.Fits.{takes_null, FitsFound, FitsNavigation, FitsType}
use Rattle.edm_row_plans.specs.Plans.{IsSlotPlan}
use Rattle.edm_entities.specs.Row.{ValAtType, field_by_name}
use Rattle.edm_row_plans.specs.Expanded.{slots_at}
use Rattle.edm_rows.specs.private.Held.{IsSeenOf}
use Rattle.edm_rows.specs.private.Passed.{FitSomeItems, FitSomeSlots, FitsSeen, FitsSome, FitsSomeHowever, FitsSomeProperty, every_name}
use Rattle.json_room.specs.private.ItemTokens.{append_items}
use Rattle.edm_row_plans.specs.declared.type_plan.SlotPlan.{SlotPlan}
use Rattle.edm_row_plans.specs.declared.type_plan.TypePlan.{TypePlan}
use Rattle.edm_rows.proofs.RowLemmas.Passing.{record_seen, seen_record}
use Rattle.edm_rows.proofs.RowLemmas.Plans.{slot_slots}
use Rattle.edm_rows.proofs.RowLemmas.Properties.{found_by, single_fits}
use Rattle.edm_rows.proofs.RowLemmas.SlotsRead.{behind_named}
use Rattle.edm_entities.proofs.SlotLemmas.EachSlot.{IsLookedAt}
use Rattle.edm_entities.proofs.SlotLemmas.FoundWalk.{items_null}

-- ---- values without parts

-- ---- properties

-- what is seen of a property that is looked at
pub property_as : (slots : Slots) (nullable : Bool) (type : PropertyType) (wanted : ExprType) (takes inner : Bool) (json : Data) (v : Val) → IsLookedAt slots type wanted → takes ≡ takes_null wanted nullable
    → inner ≡ items_null type nullable → IsSeenOf slots takes inner wanted v json → FitsSeen slots nullable type (Some json) (λ _ _. v)
property_as slots nullable (declared type) wanted takes inner json v is same_takes same_items fits =
    subst (λ (t : ExprType). FitsFound (Some json) (takes_null t nullable) v (λ there. FitsType slots nullable t there v)) (sym is)
    (subst (λ (b : Bool). FitsFound (Some json) (takes_null wanted nullable) v (λ there. FitsType slots b wanted there v)) same_items
    (subst (λ (b : Bool). FitsFound (Some json) b v (λ there. FitsType slots inner wanted there v)) same_takes fits))
property_as slots nullable opaque wanted takes inner json v is same_takes same_items fits = absurd is
property_as slots nullable (navigation None) wanted takes inner json v is same_takes same_items fits = absurd is
property_as slots nullable (navigation (Some type)) wanted takes inner json v is same_takes same_items fits =
    subst (λ (b : Bool). FitsNavigation b (Some json) (takes_null type nullable) v (λ there. FitsType slots false type there v)) (sym is.0)
    (subst (λ (t : ExprType). FitsFound (Some json) (takes_null t nullable) v (λ there. FitsType slots false t there v)) (sym is.1)
    (subst (λ (b : Bool). FitsFound (Some json) (takes_null wanted nullable) v (λ there. FitsType slots b wanted there v)) same_items
    (subst (λ (b : Bool). FitsFound (Some json) b v (λ there. FitsType slots inner wanted there v)) same_takes fits)))

pub single_as : (slots : Slots) (nullable : Bool) (type : PropertyType) (wanted : SingleType) (json : Data) (v : Val) → IsLookedAt slots type (single wanted)
    → IsSeenOf slots nullable nullable (single wanted) v json → FitsSeen slots nullable type (Some json) (λ _ _. v)
single_as slots nullable type wanted json v seen fits =
    let inner = items_null type nullable in
    property_as slots nullable type (single wanted) nullable inner json v seen refl refl
    (found_by json nullable v (λ there. FitsType slots nullable (single wanted) there v) (λ there. FitsType slots inner (single wanted) there v)
    (λ there fits_there. single_fits slots nullable inner wanted there v fits_there) fits)

-- some value of it
pub property_some : (slots : Slots) (nullable : Bool) (type : PropertyType) (wanted : ExprType) (takes inner : Bool) (json : Data) → IsLookedAt slots type wanted → takes ≡ takes_null wanted nullable
    → inner ≡ items_null type nullable → FitsSome slots takes inner wanted json → FitsSomeProperty slots nullable type (Some json)
property_some slots nullable type wanted takes inner json is same_takes same_items (v, fits) = (λ _ _. v, property_as slots nullable type wanted takes inner json v is same_takes same_items fits)

pub single_some : (slots : Slots) (nullable : Bool) (type : PropertyType) (wanted : SingleType) (json : Data) → IsLookedAt slots type (single wanted)
    → FitsSome slots nullable nullable (single wanted) json → FitsSomeProperty slots nullable type (Some json)
single_some slots nullable type wanted json seen (v, fits) = (λ _ _. v, single_as slots nullable type wanted json v seen fits)

-- ---- arrays and objects

-- one item more
pub item_some : (slots : Slots) (nullable : Bool) (type : SingleType) (found : Items) (json : Data) → FitSomeItems slots nullable type found → FitsSome slots nullable nullable (single type) json
    → FitSomeItems slots nullable type (append_items found (json_item json no_json))
item_some slots nullable type no_json json (no_items, fits) (v, one) = (item v no_items, (one, tt))
item_some slots nullable type no_json json (item w values, fits) (v, one) = absurd fits
item_some slots nullable type (json_item d found) json (no_items, fits) (v, one) = absurd fits
item_some slots nullable type (json_item d found) json (item w values, fits) (v, one) =
    let more = item_some slots nullable type found json (values, fits.1) (v, one) in
    (item w more.0, (fits.0, more.1))

pub array_some : (slots : Slots) (nullable : Bool) (type : SingleType) (jsons : Items) → FitSomeItems slots nullable type jsons → FitsSome slots false nullable (collection type) (array jsons)
array_some slots nullable type jsons (values, fits) = (items values, (jsons, refl, fits))

pub object_some : (schema : SchemaModel) (steps : List StepModel) (node : Option ℕ) (id : ℕ) (found : Members) → HasDistinctNames (properties_at schema id)
    → FitSomeSlots (slots_at schema steps node) (properties_at schema id) (object found) → FitsSomeHowever (slots_at schema steps node) (single (structured (type_name_at schema id))) (object found)
object_some schema steps node id found distinct (values, fits) nullable =
    let slots = slots_at schema steps node in
    let ps = properties_at schema id in
    let seen = seen_record slots every_name (λ name. get name (object found)) ps values distinct fits in
    (fields (field_by_name slots.properties ps seen.seens), record_seen slots every_name (object found) ps values refl seen)

-- ---- members

pub property_seen : (schema : SchemaModel) (slots : Slots) (o : Option PropertyModel) (property : Property) (found : Option Data) (seen : ValAtType) → IfSome o (λ p. IsReadAs schema p property)
    → FitsSeen slots property.nullable (property_type schema property) found seen → IfSome o (λ p. FitsSeen slots p.nullable p.type_of found seen)
property_seen schema slots None property found seen is fits = tt
property_seen schema slots (Some p) property found seen is fits =
    subst (λ (nullable : Bool). FitsSeen slots nullable p.type_of found seen) is.nullable
    (subst (λ (type : PropertyType). FitsSeen slots property.nullable type found seen) is.type_of fits)

-- what is seen of a slot's plan is seen of its property
pub slot_seen : (schema : SchemaModel) (steps : List StepModel) (plan : TypePlan) (slot : ℕ) (s : SlotPlan) (found : Option Data) (seen : ValAtType) → IsSlotPlan schema steps plan.type_id plan.node slot s
    → FitsSeen (slots_at schema steps s.node) s.property.nullable (property_type schema s.property) found seen
    → IfSome (slice_get (properties_at schema plan.type_id) slot) (λ p. FitsSeen (slots_behind (slots_at schema steps plan.node) p.name) p.nullable p.type_of found seen)
slot_seen schema steps plan slot s found seen planned fits =
    let slots = slots_at schema steps plan.node in
    let inner = slots_at schema steps s.node in
    let ps = properties_at schema plan.type_id in
    behind_named (λ t p. FitsSeen t p.nullable p.type_of found seen) slots inner ps slot planned.name (slot_slots schema steps plan.type_id plan.node slot s planned) planned.named.0
    (property_seen schema inner (slice_get ps slot) s.property found seen planned.named.1 fits)
