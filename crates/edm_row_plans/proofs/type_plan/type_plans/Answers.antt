use Rattle.std.proofs.Common.{◌≡◌, ◌∷◌, ◌++◌, [], sym, subst, arith}
use Rattle.std.proofs.lemmas.Grind.{common_steps}
use Rattle.edm_row_plans.specs.Plans.{ArePlans, IsPlan}
use Rattle.edm_row_plans.proofs.PlanLemmas.{none_each, each_push}
use Rattle.edm_row_plans.proofs.type_plan.type_plans.Goals as goal

pub returns-then-is_err : goal.returns-then-is_err
returns-then-is_err c = subst (ArePlans c.args.schema.now c.args.expansion.now) (sym c.new-plans.ensures.items) (none_each (λ _. IsPlan c.args.schema.now c.args.expansion.now))

pub loop-place-init : goal.loop-place-init
loop-place-init c = subst (ArePlans c.args.schema.now c.args.expansion.now) (sym c.new-plans.ensures.items) (none_each (λ _. IsPlan c.args.schema.now c.args.expansion.now))

pub loop-place-preserved : goal.loop-place-preserved
loop-place-preserved c =
    let l = c.loop-place in
    let plan = c.in-Some.plan in
    let pushed : c.push-in-loop-place.new.self.items ≡ l.plans.items ++ plan ∷ [] = grind (arith, common_steps) in
    subst (ArePlans c.args.schema.now c.args.expansion.now) (sym pushed) (each_push (λ _. IsPlan c.args.schema.now c.args.expansion.now) l.plans.items plan l.invariant c.in-Some.ensures)
