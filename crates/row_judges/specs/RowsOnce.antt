-- What can be said of a row once only.
use Rattle.std.specs.Prelude.{◌≡◌}
use Rattle.line_filter.specs.declared.judge.Judgment.{Judgment}
use Rattle.fault_numbers.specs.FaultNumbers.{flaw_reported}
use Rattle.row_judges.specs.declared.bad_row.BadRow.{BadRow}

-- the same judgment: of two faults of an entity, the same fault at the same path
abbrev pub AreSameJudgment : Judgment BadRow → Judgment BadRow → Type 0
AreSameJudgment Judgment.Kept Judgment.Kept = Unit {0}
AreSameJudgment Judgment.LeftOut Judgment.LeftOut = Unit {0}
AreSameJudgment (Judgment.Fault BadRow.NotJson) (Judgment.Fault BadRow.NotJson) = Unit {0}
AreSameJudgment (Judgment.Fault (BadRow.NoEntity f)) (Judgment.Fault (BadRow.NoEntity g)) = flaw_reported f
    ≡ flaw_reported g
AreSameJudgment (Judgment.Fault (BadRow.NoValue f)) (Judgment.Fault (BadRow.NoValue g)) = f ≡ g
AreSameJudgment _ _ = ⊥
