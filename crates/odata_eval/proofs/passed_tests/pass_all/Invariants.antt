use Rattle.std.proofs.Common.{take}
use Rattle.std.specs.Prelude.{All}
use Rattle.odata_eval.specs.private.PassedTests.{PassesAt}
use Rattle.odata_eval.proofs.passed_tests.pass_all.Given as goal

-- the values pass the tests so far
abbrev pub invariant-loop-place : goal.invariant-loop-place
invariant-loop-place l = All (PassesAt l.slots) (take l.place l.tests)
