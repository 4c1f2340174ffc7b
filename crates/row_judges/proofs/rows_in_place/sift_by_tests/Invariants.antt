use Rattle.std.proofs.Common.{ℕ, length, slice_get}
use Rattle.std.specs.Prelude.{All, IfSome}
use Rattle.odata_eval.specs.FalseWhere.{IsSieveOf}
use Rattle.row_judges.specs.private.RowsInPlace.{IsSameButSieves, IsTestAt}
use Rattle.row_judges.proofs.rows_in_place.sift_by_tests.Given as goal

-- only the sieves have changed, each is a test of the filter, and so are those that are left
abbrev pub invariant-loop-test : goal.invariant-loop-test
invariant-loop-test l = record {
  same : IsSameButSieves l.initial.rows l.rows;
  tests : (slot : ℕ) → IfSome (slice_get l.rows.sieves slot) (IsTestAt l.checked slot);
  left : All (IsSieveOf l.checked) l.tests.items;
}

abbrev pub decreases-loop-test : goal.decreases-loop-test
decreases-loop-test l = length l.tests.items
