-- Types that were looked up once, slot by slot.
use Rattle.std.proofs.Common.{◌≡◌, ℕ, zero, suc, ◌+◌, ◌<◌, ◌==◌, Bool, true, false, lt_of_not-le, List, [], ◌∷◌, ◌++◌, length, map, Option, Some, None, IfSome, slice_get, refl, sym, ap, ap₂, ◌∙◌, subst, arith}
use Rattle.std.proofs.lemmas.Bool.{eqb-true, eqb-false}
use Rattle.csdl_schema.specs.ExpansionView.{StepModel}
use Rattle.csdl_schema.specs.PropertyView.{IsReadAs}
use Rattle.csdl_schema.specs.SchemaModel.{PropertyModel, SchemaModel, properties_at}
use Rattle.csdl_schema.specs.declared.property.Property.{Property}
use Rattle.edm_row_plans.specs.ExpandedNodes.{node_behind}
use Rattle.edm_row_plans.specs.Plans.{ArePlans, IsPlan, IsSlotPlan, target_at}
use Rattle.edm_row_plans.specs.declared.type_plan.SlotPlan.{SlotPlan}
use Rattle.edm_row_plans.specs.declared.type_plan.TypePlan.{TypePlan}

pub none_each : {X : Type 0} (Q : ℕ → X → Type 0) (k : ℕ) → IfSome (slice_get [] k) (Q k)
none_each Q zero = tt
none_each Q (suc k) = tt

-- one more after the others
pub each_push : {X : Type 0} (Q : ℕ → X → Type 0) (items : List X) (x : X) → ((k : ℕ) → IfSome (slice_get items k) (Q k)) → Q (length items) x
    → (k : ℕ) → IfSome (slice_get (items ++ x ∷ []) k) (Q k)
each_push Q [] x each here zero = here
each_push Q [] x each here (suc k) = tt
each_push Q (y ∷ items) x each here zero = each zero
each_push Q (y ∷ items) x each here (suc k) = each_push (λ n. Q (suc n)) items x (λ n. each (suc n)) here k

pub long_push : {X : Type 0} (items : List X) (x : X) → length (items ++ x ∷ []) ≡ length items + 1
long_push [] x = refl
long_push (y ∷ items) x = omega (arith, long_push items x)

pub each_at : {X : Type 0} (Q : ℕ → X → Type 0) (items : List X) (k : ℕ) (x : X) → ((n : ℕ) → IfSome (slice_get items n) (Q n)) → slice_get items k ≡ Some x → Q k x
each_at Q items k x each at = subst (λ o. IfSome o (Q k)) at (each k)

-- a slot by its name and its property, and by what follows it
pub slot_made : (schema : SchemaModel) (steps : List StepModel) (id : ℕ) (node : Option ℕ) (slot : ℕ) (name : List ℕ) (property : Property) (behind : Option ℕ) (plan : SlotPlan)
    → (plan.property ≡ property) × (plan.node ≡ behind) × (plan.target ≡ target_at steps behind property)
    → slice_get (map (λ p. p.name) (properties_at schema id)) slot ≡ Some name → IfSome (slice_get (properties_at schema id) slot) (λ p. IsReadAs schema p property)
    → behind ≡ node_behind steps node name → IsSlotPlan schema steps id node slot plan
slot_made schema steps id node slot name property behind plan made at read stands =
    record {
      name = name;
      named = (at, subst (λ (q : Property). IfSome (slice_get (properties_at schema id) slot) (λ p. IsReadAs schema p q)) (sym made.0) read);
      behind = made.1 ∙ stands;
      leads = made.2 ∙ ap₂ (target_at steps) (sym made.1) (sym made.0);
    }

pub plan_there : (schema : SchemaModel) (steps : List StepModel) (plans : List TypePlan) (place : ℕ) (plan : TypePlan) → ArePlans schema steps plans → slice_get plans place ≡ Some plan
    → IsPlan schema steps plan
plan_there schema steps plans place plan are at = each_at (λ _. IsPlan schema steps) plans place plan are at
