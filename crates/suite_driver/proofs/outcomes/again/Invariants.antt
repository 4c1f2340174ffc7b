use Rattle.row_judges.specs.FilterRows.{AreRowsOfFilter}
use Rattle.suite_driver.proofs.outcomes.again.Given as goal

-- what is kept from row to row stays the filter's
abbrev pub invariant-loop : goal.invariant-loop
invariant-loop l = AreRowsOfFilter l.checked l.rows
