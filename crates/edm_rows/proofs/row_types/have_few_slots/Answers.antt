use Rattle.std.proofs.Common.{◌≤◌, ◌≡◌, ℕ, IfSome, Option, Some, get_or, length, slice_get, ⊎_elim, sym, subst, arith}
use Rattle.std.proofs.lemmas.Bool.{cases_lt}
use Rattle.std.proofs.lemmas.Option.{slice_get-get_or}
use Rattle.edm_row_plans.specs.declared.type_plan.TypePlan.{TypePlan}
use Rattle.edm_rows.proofs.Indexes.{past_end}
use Rattle.edm_rows.proofs.row_types.have_few_slots.Goals as goal

pub loop-place-init : goal.loop-place-init
loop-place-init c k less = absurd (omega (arith, less))

pub loop-place-preserved : goal.loop-place-preserved
loop-place-preserved c k less =
    let l = c.loop-place in
    let plans = c.args.plans.now in
    let p : TypePlan = get_or plans l.place c.index-plans-place.result in
    let at : slice_get plans l.place ≡ Some p = slice_get-get_or plans l.place c.index-plans-place.result c.loop-place-test.true in
    let few : length p.slots.items ≤ 64 = omega (arith, c.len.ensures, c.if-len-gt-FEW_SLOTS.false, p.slots.ok.0) in
    ⊎_elim (l.invariant k)
    (λ more.
    let here : k ≡ l.place = omega (arith, more, less) in
    subst (λ (i : ℕ). IfSome (slice_get plans i) (λ plan. length plan.slots.items ≤ 64)) (sym here) (subst (λ (o : Option TypePlan). IfSome o (λ plan. length plan.slots.items ≤ 64)) (sym at) few)) (cases_lt k l.place)

pub returns : goal.returns
returns c _ k =
    ⊎_elim (λ low. c.loop-place.invariant k (omega (arith, low, c.loop-place-test.false))) (λ past. past_end (λ plan. length plan.slots.items ≤ 64) c.args.plans.now k past) (cases_lt k (length c.args.plans.now))
