use Rattle.std.proofs.Common.{List, ℕ, inr, subst}
use Rattle.line_filter.specs.Kept.{LineClass}
use Rattle.line_filter.specs.Lines.{IsBlank}
use Rattle.line_filter.proofs.line_outcome.outcome_at_front.Goals as goal

pub returns-in-Some-clause-comes : goal.returns-in-Some-clause-comes
returns-in-Some-clause-comes g c =
    let not_blank = subst (λ (l : List ℕ). IsBlank l → ⊥) c.requires c.in-Some.ensures.not_blank in
    let said = subst (λ (l : List ℕ). g.J.Judge.says c.args.judge.now l c.in-Some.judgment) c.requires c.in-Some.ensures.said in
    inr (LineClass.judged c.in-Some.judgment, (c.if-line-gt-LONGEST_LINE.false, not_blank, said), c.outcome_of.ensures)
