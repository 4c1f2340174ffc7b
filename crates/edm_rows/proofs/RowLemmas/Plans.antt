-- Types that were looked up once, and the members of an object among their slots.
use Rattle.std.proofs.Common.{◌≡◌, ℕ, List, Option, Some, IfSome, slice_get, ap, ◌∙◌, subst}
use Rattle.csdl_schema.specs.ExpansionView.{StepModel}
use Rattle.csdl_schema.specs.SchemaModel.{SchemaModel, slots_behind}
use Rattle.edm_row_plans.specs.Expanded.{slots_at}
use Rattle.edm_row_plans.specs.Plans.{IsPlan, IsSlotPlan}
use Rattle.edm_row_plans.specs.declared.type_plan.SlotPlan.{SlotPlan}
use Rattle.edm_row_plans.specs.declared.type_plan.TypePlan.{TypePlan}
use Rattle.edm_entities.proofs.SlotLemmas.FoundWalk.{node_slots}

-- ---- lists by their indexes

pub each_at : {X : Type 0} (Q : ℕ → X → Type 0) (items : List X) (k : ℕ) (x : X) → ((n : ℕ) → IfSome (slice_get items n) (Q n)) → slice_get items k ≡ Some x → Q k x
each_at Q items k x each at = subst (λ o. IfSome o (Q k)) at (each k)

-- ---- plans

pub slot_planned : (schema : SchemaModel) (steps : List StepModel) (plan : TypePlan) (slot : ℕ) (s : SlotPlan) → IsPlan schema steps plan → slice_get plan.slots.items slot ≡ Some s
    → IsSlotPlan schema steps plan.type_id plan.node slot s
slot_planned schema steps plan slot s is at = each_at (IsSlotPlan schema steps plan.type_id plan.node) plan.slots.items slot s is.planned.each at

-- what is expanded after a planned slot
pub slot_slots : (schema : SchemaModel) (steps : List StepModel) (id : ℕ) (node : Option ℕ) (slot : ℕ) (s : SlotPlan) → (is : IsSlotPlan schema steps id node slot s)
    → slots_at schema steps s.node ≡ slots_behind (slots_at schema steps node) is.name
slot_slots schema steps id node slot s is = ap (slots_at schema steps) is.behind ∙ node_slots schema steps node is.name

-- ---- members

-- ---- numbers one after another
