use Rattle.std.proofs.Common.{Ok, Some, ap, sym, ◌∙◌}
use Rattle.row_judges.proofs.RowLemmas.BoundedLines.{costly_within, false_within, fault_within, kept_within, null_within}
use Rattle.row_judges.proofs.bounded_line_judge.judgment_within.Goals as goal

pub returns-in-True : goal.returns-in-True
returns-in-True c filter now line most reported =
    kept_within filter now line most c.args.answer reported (c.in-Ok.is ∙ ap Ok (c.in-Some.is ∙ ap Some c.in-True.is))

pub returns-in-False : goal.returns-in-False
returns-in-False c filter now line most reported =
    false_within filter now line most c.args.answer reported (c.in-Ok.is ∙ ap Ok (c.in-Some.is ∙ ap Some c.in-False.is))

pub returns-in-Null : goal.returns-in-Null
returns-in-Null c filter now line most reported =
    null_within filter now line most c.args.answer reported (c.in-Ok.is ∙ ap Ok (c.in-Some.is ∙ ap Some c.in-Null.is))

pub returns-in-None : goal.returns-in-None
returns-in-None c filter now line most reported =
    costly_within filter now line most c.args.answer reported (c.in-Ok.is ∙ ap Ok c.in-None.is)

pub returns-else-is_memory : goal.returns-else-is_memory
returns-else-is_memory c filter now line most reported =
    fault_within filter now line most c.args.answer reported c.in-Err.bad c.in-Err.is (sym c.is_memory.ensures ∙ c.if-is_memory.false)
