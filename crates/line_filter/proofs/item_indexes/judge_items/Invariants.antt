-- The items so far passed, and as many as were looked at.
use Rattle.std.proofs.Common.{◌≡◌, drop}
use Rattle.line_filter.specs.ItemIndexes.{indexed_from, indexed_items}
use Rattle.line_filter.specs.CallLogs.{StaysWell}
use Rattle.line_filter.proofs.ItemLaws.Walked.{HasWalked}
use Rattle.line_filter.proofs.item_indexes.judge_items.Given as goal

abbrev pub invariant-loop-item : goal.invariant-loop-item
invariant-loop-item g l = (l.index ≡ l.item-index)
    × HasWalked (indexed_items (g.J.JudgeItem.says l.judge) l.items) (indexed_from l.item-index (drop l.item-index l.items)) (g.T.Writes.contents l.initial.out) (g.T.Writes.contents l.out) l.held.items l.index l.tally
    × StaysWell (g.T.Writes.calls l.initial.out) (g.T.Writes.calls l.out)
