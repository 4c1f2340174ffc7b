use Rattle.std.proofs.Common.{◌≡◌, ℕ, ◌∷◌, ◌++◌, [], IfSome, slice_get, length, sym, ap, ◌∙◌, subst, arith}
use Rattle.std.proofs.lemmas.Grind.{common_steps}
use Rattle.edm_row_plans.specs.Plans.{IsSlotPlan}
use Rattle.edm_row_plans.specs.declared.type_plan.SlotPlan.{SlotPlan}
use Rattle.edm_row_plans.proofs.PlanLemmas.{none_each, each_push, long_push, slot_made}
use Rattle.edm_row_plans.proofs.type_plan.slot_plans.Goals as goal

pub loop-slot-init : goal.loop-slot-init
loop-slot-init c =
    let Q : (ℕ → SlotPlan → Type 0) = IsSlotPlan c.args.context.now.schema.now c.args.context.now.expansion.now c.args.type_id c.args.node in
    (ap length c.new-slots.ensures.items, subst (λ items. (k : ℕ) → IfSome (slice_get items k) (Q k)) (sym c.new-slots.ensures.items) (none_each Q))

pub loop-slot-preserved : goal.loop-slot-preserved
loop-slot-preserved c =
    let l = c.loop-slot in
    let schema = c.args.context.now.schema.now in
    let steps = c.args.context.now.expansion.now in
    let plan = c.slot_plan.result in
    let Q : (ℕ → SlotPlan → Type 0) = IsSlotPlan schema steps c.args.type_id c.args.node in
    let pushed : c.push.new.self.items ≡ l.slots.items ++ plan ∷ [] = grind (arith, common_steps) in
    let made : Q l.slot plan =
    slot_made schema steps c.args.type_id c.args.node l.slot c.slot_name.result.now c.property-property.result.now c.node_behind-after.result plan
    (c.slot_plan.ensures.property, c.slot_plan.ensures.node, c.slot_plan.ensures.target) c.slot_name.ensures c.property-property.ensures c.node_behind-after.ensures in
    let here : Q (length l.slots.items) plan = subst (λ n. Q n plan) (sym l.invariant.0) made in
    (ap length pushed ∙ long_push l.slots.items plan ∙ omega (arith, l.invariant.0), subst (λ items. (k : ℕ) → IfSome (slice_get items k) (Q k)) (sym pushed) (each_push Q l.slots.items plan l.invariant.1 here))
