use Rattle.std.proofs.Common.{◌-◌, ◌<◌, length, map, sym, ap, ◌∙◌, subst, arith}
use Rattle.std.proofs.lemmas.List.{length-map}
use Rattle.odata_expansion.specs.private.StepView.{AreSteps, mark_step, step_model}
use Rattle.odata_expansion.proofs.Marks.{mark_set, marked_at, steps-marked}
use Rattle.odata_expansion.proofs.expansion.Expansion.set_flag.Goals as goal

pub invariant_of-self : goal.invariant_of-self
invariant_of-self c =
    let items = c.self.inside.steps.items in
    let i = c.args.node - 1 in
    let within : i < length items = omega (arith, c.requires, ap length c.self.view_is, length-map items step_model, c.if-node-gt0.true) in
    subst AreSteps (sym (mark_set items i c.index_mut.result.now within c.index_mut.ensures.value)) (steps-marked i (map step_model items) c.self.invariant)

pub returns-then-node-gt0 : goal.returns-then-node-gt0
returns-then-node-gt0 c =
    let items = c.self.inside.steps.items in
    let i = c.args.node - 1 in
    let within : i < length items = omega (arith, c.requires, ap length c.self.view_is, length-map items step_model, c.if-node-gt0.true) in
    mark_set items i c.index_mut.result.now within c.index_mut.ensures.value
    ∙ ap (mark_step i) c.self.view_is
    ∙ marked_at c.args.node c.args.self.now c.if-node-gt0.true
