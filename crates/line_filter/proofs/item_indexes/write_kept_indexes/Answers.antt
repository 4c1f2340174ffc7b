use Rattle.line_filter.specs.ItemIndexes.{indexed_items}
use Rattle.line_filter.proofs.RunLaws.Answers.{Goes-failed}
use Rattle.line_filter.proofs.WriteLaws.HeldBack.{OnErr-from}
use Rattle.line_filter.proofs.item_indexes.write_kept_indexes.Goals as goal

pub returns-in_err-release-clause-err : goal.returns-in_err-release-clause-err
returns-in_err-release-clause-err g c =
    let (text, holds, goes) = c.in_ok-outcome.ensures.ok in
    OnErr-from c.from_residual-in_err-release.result _
    (Goes-failed (indexed_items (g.J.JudgeItem.says c.args.judge.now) c.args.items.now) c.in_ok-outcome.outcome _ _ _ c.judge_items.new.held.items text holds goes c.in_err-release.ensures.err)
