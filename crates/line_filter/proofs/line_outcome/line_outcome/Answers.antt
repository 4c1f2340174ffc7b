use Rattle.std.proofs.Common.{inr}
use Rattle.line_filter.specs.Kept.{LineClass}
use Rattle.line_filter.specs.Lines.{IsBlank}
use Rattle.line_filter.proofs.line_outcome.line_outcome.Goals as goal

pub returns-in-Ok-clause-comes : goal.returns-in-Ok-clause-comes
returns-in-Ok-clause-comes g c =
    let not_blank = λ (blank : IsBlank c.args.line.now). let is = c.if-is_blank.ensures.1 blank in absurd {A = ⊥} (cc) in
    inr (LineClass.judged c.in-Ok.judgment, (c.if-line-gt-LONGEST_LINE.false, not_blank, c.in-Ok.ensures.said), c.outcome_of.ensures)
