use Rattle.sql_forms.proofs.Common.{◌≡◌, ◌<◌, ℕ, arith, false, get_or, length, sym, ◌∙◌, slice_get-get_or, slice_get, goes_there, Range}
use Rattle.sql_forms.proofs.answers.LoopAnswers.{faultless_on}
use Rattle.sql_outcomes.proofs.outcomes.Elements.{at_all}
use Rattle.sql_forms.proofs.keeps.faultless_terms.Goals as goal

pub may_fault-requires : goal.may_fault-requires
may_fault-requires c =
    let terms = c.args.terms.now in
    let term = get_or terms c.loop-count.count 0 in
    let at = slice_get-get_or terms c.loop-count.count 0 c.loop-count-test.true in
    at_all (λ (t : ℕ). t < length c.args.context.now.ranges.now) terms c.loop-count.count term c.requires.ranged at

pub loop-count-preserved : goal.loop-count-preserved
loop-count-preserved c =
    let terms = c.args.terms.now in
    let ranges = c.args.context.now.ranges.now in
    let below = c.loop-count-test.true in
    let term = get_or terms c.loop-count.count 0 in
    let at = slice_get-get_or terms c.loop-count.count 0 below in
    let faultless = goes_there (slice_get ranges term) (λ (r : Range). c.may_fault.result ≡ r.may_fault) (λ (r : Range). r.may_fault ≡ false) (λ r is. sym is ∙ c.if-not-may_fault.true) c.may_fault.ensures in
    record {
      within = omega (arith, below);
      are = faultless_on ranges terms c.loop-count.count term at faultless c.loop-count.invariant.are;
    }
