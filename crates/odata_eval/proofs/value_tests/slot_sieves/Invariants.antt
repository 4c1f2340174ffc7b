use Rattle.std.specs.Prelude.{All}
use Rattle.odata_eval.specs.FalseWhere.{IsSieveOf}
use Rattle.odata_eval.specs.private.ValueTests.{AndsAbove, AreAllBut, GoesUp}
use Rattle.odata_eval.proofs.value_tests.slot_sieves.Given as goal

-- the tests so far are the filter's; only `and`s stand above, and what holds of the term holds of the chain from there;
-- where these tests pass and the term is true, that is true
abbrev pub invariant-loop-test : goal.invariant-loop-test
invariant-loop-test l = record {
  sieves : All (IsSieveOf l.checked) l.sieves.items;
  ands : AndsAbove l.checked l.at;
  goes_up : GoesUp l.checked l.term l.at;
  but : AreAllBut l.checked l.sieves.items l.term l.at;
}

abbrev pub decreases-loop-test : goal.decreases-loop-test
decreases-loop-test l = l.at
