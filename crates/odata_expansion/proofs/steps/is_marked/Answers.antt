use Rattle.std.proofs.Common.{◌≡◌, ◌-◌, ◌≤◌, suc, map, length, ap, sym, ◌∙◌, arith}
use Rattle.std.proofs.lemmas.List.{length-map}
use Rattle.std.proofs.lemmas.Option.{slice_get_past}
use Rattle.odata_expansion.specs.ExpansionView.{is_needed_at, is_needed_step}
use Rattle.odata_expansion.specs.private.StepView.{step_model}
use Rattle.odata_expansion.proofs.Nodes.{step_got}
use Rattle.odata_expansion.proofs.steps.is_marked.Goals as goal

pub returns-in-Some : goal.returns-in-Some
returns-in-Some c =
    let steps = c.args.steps.now in
    let k = c.args.node - 1 in
    let is : suc k ≡ c.args.node = omega arith in
    let at = step_got steps k c.in-Some.step.now c.in-Some.ensures.lookup.3.0 c.in-Some.ensures.lookup.1 in
    ap is_needed_step (sym at) ∙ ap (is_needed_at (map step_model steps)) is

pub returns-in-None : goal.returns-in-None
returns-in-None c =
    let steps = map step_model c.args.steps.now in
    let k = c.args.node - 1 in
    let is : suc k ≡ c.args.node = omega arith in
    let past : length steps ≤ k = omega (arith, c.in-None.ensures.lookup.3, length-map c.args.steps.now step_model) in
    ap is_needed_step (sym (slice_get_past steps k past)) ∙ ap (is_needed_at steps) is
