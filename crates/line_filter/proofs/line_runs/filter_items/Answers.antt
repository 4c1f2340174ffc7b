use Rattle.line_filter.specs.ItemIndexes.{indexed_items}
use Rattle.line_filter.proofs.RunLaws.Answers.{held_answered-ok, held_answered-err}
use Rattle.line_filter.proofs.RunLaws.Called.{Closes-written, IsOfItem-all}
use Rattle.line_filter.proofs.line_runs.filter_items.Goals as goal

pub returns-in-Ok-clause-filters : goal.returns-in-Ok-clause-filters
returns-in-Ok-clause-filters g c =
    held_answered-ok (indexed_items (g.J.JudgeItem.says c.args.judge.now) c.args.items.now) _ _ _ c.in-Ok.outcome c.finish.result c.in-Ok.ensures.ok c.finish.ensures.kept c.finish.ensures.answer

pub returns-in-Ok-clause-stops : goal.returns-in-Ok-clause-stops
returns-in-Ok-clause-stops g c =
    held_answered-err (indexed_items (g.J.JudgeItem.says c.args.judge.now) c.args.items.now) _ _ _ c.in-Ok.outcome c.finish.result c.in-Ok.ensures.ok c.finish.ensures.kept c.finish.ensures.answer

pub returns-in-Ok-clause-writes : goal.returns-in-Ok-clause-writes
returns-in-Ok-clause-writes g c =
    Closes-written _ _ _ c.in-Ok.ensures.well c.in-Ok.outcome c.finish.result (IsOfItem-all c.in-Ok.outcome c.in-Ok.ensures.of_item) c.finish.ensures.calls c.finish.ensures.answer
