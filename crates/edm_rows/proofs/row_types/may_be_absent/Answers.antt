use Rattle.std.proofs.Common.{None, refl, sym, ap, ◌∙◌}
use Rattle.std.proofs.lemmas.Bool.{not-true}
use Rattle.edm_values.specs.declared.value.Value.{Null}
use Rattle.csdl_schema.specs.PropertyView.{target_of}
use Rattle.edm_row_plans.specs.Expanded.{wanted_with}
use Rattle.edm_entities.proofs.SlotLemmas.FoundWalk.{nothing_fits, unwanted_fits}
use Rattle.edm_rows.proofs.row_types.may_be_absent.Goals as goal

pub returns-in_default : goal.returns-in_default
returns-in_default c schema slots leads _ =
    let p = c.args.plan.now.property in
    unwanted_fits schema slots p.nullable p.kind (target_of p) p.many None Null (ap (wanted_with p.kind) (sym leads) ∙ sym c.wanted_with.ensures ∙ c.in_default.is) refl

pub returns : goal.returns
returns c schema slots leads done =
    let p = c.args.plan.now.property in
    nothing_fits schema slots p.nullable p.kind (target_of p) p.many c.in-Some._wanted Null (ap (wanted_with p.kind) (sym leads) ∙ sym c.wanted_with.ensures ∙ c.in-Some.is)
    (sym c.navigates.ensures ∙ not-true c.navigates.result done) c.if-plan.false c.if-not-plan.false refl
