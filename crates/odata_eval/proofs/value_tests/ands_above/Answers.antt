use Rattle.std.proofs.Common.{arith}
use Rattle.odata_eval.proofs.walking.FalseTerms.{ands_further}
use Rattle.odata_eval.proofs.value_tests.ands_above.Goals as goal

pub loop-place-init : goal.loop-place-init
loop-place-init c k below = absurd (omega (arith, below))

pub loop-place-preserved : goal.loop-place-preserved
loop-place-preserved c = ands_further c.args.checked.now c.loop-place.place c.loop-place.invariant (c.is_and.ensures.here c.loop-place-test.true)
