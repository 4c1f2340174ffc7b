use Rattle.std.proofs.Common.{◌≡◌, None, Some, List, map, length, sym, ap, ◌∙◌, subst}
use Rattle.std.proofs.lemmas.List.{length-map}
use Rattle.odata_expansion.specs.ExpansionView.{StepModel, next_node}
use Rattle.odata_expansion.specs.private.StepView.{AreSteps, step_model}
use Rattle.odata_expansion.proofs.Nodes.{leads_on, reached_within}
use Rattle.odata_expansion.proofs.Marks.{grown, step_pushed}
use Rattle.odata_expansion.proofs.expansion.Expansion.step_on.Goals as goal

pub returns-in-Some-clause-leads : goal.returns-in-Some-clause-leads
returns-in-Some-clause-leads c path leads =
    leads_on c.args.self.now path c.args.node c.args.name.now c.in-Some.next leads (sym c.in-Some.ensures)

pub invariant_of-self-2 : goal.invariant_of-self-2
invariant_of-self-2 c =
    let old = c.args.self.now in
    let fresh : next_node old c.args.node c.args.name.now ≡ None = sym c.next_node.ensures ∙ c.in_default.is in
    let kept = subst AreSteps c.self.view_is c.self.invariant in
    let within = reached_within old c.requires.0 c.args.node c.requires.1 in
    (grown old _ c.args.node c.args.name.now kept within fresh
    (step_pushed c.self.inside.steps.items c.push.new.self.items _ old c.args.name.now c.in_ok-push.ensures.items c.self.view_is c.in_ok-name.ensures.ok)).steps

pub returns-clause-leads : goal.returns-clause-leads
returns-clause-leads c path leads =
    let old = c.args.self.now in
    let fresh : next_node old c.args.node c.args.name.now ≡ None = sym c.next_node.ensures ∙ c.in_default.is in
    let kept = subst AreSteps c.self.view_is c.self.invariant in
    let new : List StepModel = map step_model c.push.new.self.items in
    let within = reached_within old path c.args.node leads in
    let all = grown old new c.args.node c.args.name.now kept within fresh
    (step_pushed c.self.inside.steps.items c.push.new.self.items _ old c.args.name.now c.in_ok-push.ensures.items c.self.view_is c.in_ok-name.ensures.ok) in
    let count : length new ≡ c.len.result = length-map c.push.new.self.items step_model ∙ sym (c.len.ensures ∙ c.push.new.self.ok.0) in
    leads_on new path c.args.node c.args.name.now c.len.result (all.kept.leads path c.args.node leads) (all.step.leads ∙ ap Some count)

pub returns-clause-kept : goal.returns-clause-kept
returns-clause-kept c =
    let old = c.args.self.now in
    let fresh : next_node old c.args.node c.args.name.now ≡ None = sym c.next_node.ensures ∙ c.in_default.is in
    let kept = subst AreSteps c.self.view_is c.self.invariant in
    let within = reached_within old c.requires.0 c.args.node c.requires.1 in
    (grown old _ c.args.node c.args.name.now kept within fresh
    (step_pushed c.self.inside.steps.items c.push.new.self.items _ old c.args.name.now c.in_ok-push.ensures.items c.self.view_is c.in_ok-name.ensures.ok)).kept
