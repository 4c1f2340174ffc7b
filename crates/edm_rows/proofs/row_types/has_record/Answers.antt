use Rattle.std.proofs.Common.{◌≡◌, Some, None, IfSome, sym, ap, ◌∙◌, subst}
use Rattle.edm_row_plans.specs.declared.wanted.Wanted.TheVariants.{Complex, Enum, Prim}
use Rattle.edm_rows.proofs.NextMembers.{at_within}
use Rattle.edm_rows.proofs.row_types.has_record.Goals as goal

pub returns-in_default : goal.returns-in_default
returns-in_default c _ id is =
    let wrong : None ≡ Some (Complex id) = sym c.in_default.is ∙ c.wanted_with.ensures ∙ is in
    absurd (cc)

pub returns-in-Some-plan_at : goal.returns-in-Some-plan_at
returns-in-Some-plan_at c _ id is =
    let plans = c.args.plans.now in
    let p = c.in-Some-plan_at.field-0.now in
    let known : Some (Complex c.in-Complex.id) ≡ Some (Complex id) = sym (c.in-Some.is ∙ ap Some c.in-Complex.is) ∙ c.wanted_with.ensures ∙ is in
    let same : c.in-Complex.id ≡ id = cc in
    let e = c.in-Some-plan_at.ensures in (
      at_within plans c.args.plan.now.record p e.at,
      subst (λ o. IfSome o (λ q. (q.type_id ≡ id) × (q.node ≡ c.args.plan.now.node))) (sym e.at) (e.of_type ∙ same, e.of_node),
    )

pub returns-in-Prim : goal.returns-in-Prim
returns-in-Prim c _ id is =
    let wrong : Some (Prim c.in-Prim.field-0) ≡ Some (Complex id) = sym (c.in-Some.is ∙ ap Some c.in-Prim.is) ∙ c.wanted_with.ensures ∙ is in
    absurd (cc)

pub returns-in-Enum : goal.returns-in-Enum
returns-in-Enum c _ id is =
    let wrong : Some (Enum c.in-Enum.field-0) ≡ Some (Complex id) = sym (c.in-Some.is ∙ ap Some c.in-Enum.is) ∙ c.wanted_with.ensures ∙ is in
    absurd (cc)
