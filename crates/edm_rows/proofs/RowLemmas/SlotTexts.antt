-- The value of one slot of a row.
use Rattle.std.proofs.Common.{ℕ, List, Bool, Option, Some, None, IfSome, slice_get, subst}
use Rattle.csdl_schema.specs.ExpansionView.{StepModel}
use Rattle.csdl_schema.specs.PropertyView.{IsReadAs, property_type}
use Rattle.csdl_schema.specs.SchemaModel.{PropertyModel, PropertyType, SchemaModel, Slots, properties_at, slots_behind}
use Rattle.csdl_schema.specs.declared.property.Property.{Property}
use Rattle.edm_row_plans.specs.Expanded.{slots_at}
use Rattle.edm_row_plans.specs.Plans.{IsSlotPlan}
use Rattle.edm_row_plans.specs.declared.type_plan.SlotPlan.{SlotPlan}
use Rattle.edm_row_plans.specs.declared.type_plan.TypePlan.{TypePlan}
use Rattle.edm_rows.proofs.RowLemmas.Plans.{slot_slots}
use Rattle.edm_rows.proofs.RowLemmas.SlotsRead.{behind_named}

-- what holds by a property of the code holds by the declared one
pub as_declared : (schema : SchemaModel) (o : Option PropertyModel) (property : Property) (P : Bool → PropertyType → Type 0) → IfSome o (λ p. IsReadAs schema p property)
    → P property.nullable (property_type schema property) → IfSome o (λ p. P p.nullable p.type_of)
as_declared schema None property P is holds = tt
as_declared schema (Some p) property P is holds = subst (λ (nullable : Bool). P nullable p.type_of) is.nullable (subst (λ (type : PropertyType). P property.nullable type) is.type_of holds)

-- and of a slot's plan, with the types after it
pub slot_declared : (schema : SchemaModel) (steps : List StepModel) (plan : TypePlan) (slot : ℕ) (s : SlotPlan) (P : Slots → Bool → PropertyType → Type 0) → IsSlotPlan schema steps plan.type_id plan.node slot s
    → P (slots_at schema steps s.node) s.property.nullable (property_type schema s.property)
    → IfSome (slice_get (properties_at schema plan.type_id) slot) (λ p. P (slots_behind (slots_at schema steps plan.node) p.name) p.nullable p.type_of)
slot_declared schema steps plan slot s P planned holds =
    let inner = slots_at schema steps s.node in
    let ps = properties_at schema plan.type_id in
    behind_named (λ t p. P t p.nullable p.type_of) (slots_at schema steps plan.node) inner ps slot planned.name (slot_slots schema steps plan.type_id plan.node slot s planned) planned.named.0
    (as_declared schema (slice_get ps slot) s.property (P inner) planned.named.1 holds)
