use Rattle.std.proofs.Common.{◌≡◌, ◌<◌, List, length, take, subst, arith}
use Rattle.std.specs.Prelude.{All}
use Rattle.std.proofs.lemmas.List.{take_all}
use Rattle.std.proofs.lemmas.List.Elements.{All-more}
use Rattle.odata_eval.specs.declared.value_tests.SlotSieve.{SlotSieve}
use Rattle.odata_eval.specs.private.PassedTests.{PassesAt}
use Rattle.odata_eval.proofs.passed_tests.pass_all.Goals as goal

pub loop-place-preserved : goal.loop-place-preserved
loop-place-preserved c =
    let l = c.loop-place in
    let slots = c.args.slots.now in
    let test = c.index-tests-place.result in
    All-more (PassesAt slots) c.args.tests.now l.place test (omega arith) l.invariant (subst (PassesAt slots) c.index-tests-place.is (c.passes_at.ensures c.if-not-passes_at.false))

pub returns-clause-pass : goal.returns-clause-pass
returns-clause-pass c _ =
    let l = c.loop-place in
    subst (All (PassesAt c.args.slots.now)) (take_all l.place c.args.tests.now (omega arith)) l.invariant
