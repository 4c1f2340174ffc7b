use Rattle.std.proofs.Common.{◌≡◌, ◌+◌, ◌≤◌, true, true≢false, map, length, refl, sym, arith}
use Rattle.std.proofs.lemmas.List.{length-map}
use Rattle.odata_expansion.specs.ExpansionView.{is_needed_at}
use Rattle.odata_expansion.specs.private.StepView.{step_model}
use Rattle.odata_expansion.proofs.Nodes.{all_covered, not_covered, one_more_in, truth_of}
use Rattle.odata_expansion.proofs.steps.covers.Goals as goal

pub returns-then-not-is_covered : goal.returns-then-not-is_covered
returns-then-not-is_covered c =
    let own = map step_model c.args.own.now in
    let other = map step_model c.args.other.now in
    let node = c.loop-index.index + 1 in
    let within : node ≤ length other = omega (arith, c.loop-index-test.true, length-map c.args.other.now step_model) in
    let needed : is_needed_at other node ≡ true = truth_of (is_needed_at other node) (λ off. true≢false (sym (c.if-not-is_covered.ensures.other off))) in
    (λ h. absurd (true≢false (sym h)), λ all. absurd (not_covered own other c.requires.other node within needed (c.if-not-is_covered.ensures.needed needed) all))

pub loop-index-preserved : goal.loop-index-preserved
loop-index-preserved c =
    one_more_in (map step_model c.args.own.now) (map step_model c.args.other.now) c.loop-index.index (c.loop-index.index + 1) refl c.loop-index.invariant c.if-not-is_covered.ensures.needed

pub returns : goal.returns
returns c =
    let own = map step_model c.args.own.now in
    let other = map step_model c.args.other.now in
    (λ h. all_covered own other (λ k within needed names back. c.loop-index.invariant k (omega (arith, within, c.loop-index-test.false, length-map c.args.other.now step_model)) needed names back), λ all. refl)
