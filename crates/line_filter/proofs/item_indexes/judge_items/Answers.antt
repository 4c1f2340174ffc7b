use Rattle.std.proofs.Common.{◌+◌, ◌∙◌, ap, refl}
use Rattle.line_filter.specs.ItemIndexes.{indexed_items}
use Rattle.line_filter.proofs.DeviceLaws.Called.{stays_well_refl, stays_well_trans, fails_last_after}
use Rattle.line_filter.proofs.ItemLaws.Walked.{HasWalked-none}
use Rattle.line_filter.proofs.IndexLaws.Walked.{HasIndexed-more, HasIndexed-failed, HasIndexed-stopped}
use Rattle.line_filter.proofs.WriteLaws.HeldBack.{OnErr-from}
use Rattle.line_filter.proofs.item_indexes.judge_items.Goals as goal

pub loop-item-init : goal.loop-item-init
loop-item-init g c = (refl, HasWalked-none (indexed_items (g.J.JudgeItem.says c.args.judge.now) c.args.items.now) _ c.args.held.now.items c.requires, stays_well_refl (g.T.Writes.calls c.args.out.now))

pub returns-in_err-keep_where-in-Ok-clause-err : goal.returns-in_err-keep_where-in-Ok-clause-err
returns-in_err-keep_where-in-Ok-clause-err g c =
    OnErr-from c.from_residual.result _
    (HasIndexed-failed (g.J.JudgeItem.says c.args.judge.now) c.args.items.now c.loop-item.item-index c.loop-item.index c.item-item.result _ _ c.loop-item.held.items c.loop-item.tally c.item_outcome.result
    c.loop-item.invariant.0 c.loop-item-test.true c.item-item.is c.item_outcome.ensures c.loop-item.invariant.1 c.in-Ok.one c.as_bytes.result.now _ c.in-Ok.is (c.as_bytes.ensures.value ∙ c.format-text.ensures.text)
    c.in_err-keep_where-in-Ok.ensures.kept c.in_err-keep_where-in-Ok.ensures.err)

pub returns-in-Err-clause-ok : goal.returns-in-Err-clause-ok
returns-in-Err-clause-ok g c =
    HasIndexed-stopped (g.J.JudgeItem.says c.args.judge.now) c.args.items.now c.loop-item.item-index c.loop-item.index c.item-item.result _ _ c.loop-item.held.items c.loop-item.tally c.item_outcome.result
    c.loop-item.invariant.0 c.loop-item-test.true c.item-item.is c.item_outcome.ensures c.loop-item.invariant.1 c.in-Err.stop c.in-Err.is

pub loop-item-preserved : goal.loop-item-preserved
loop-item-preserved g c = (
  ap (λ k. k + 1) c.loop-item.invariant.0,
  HasIndexed-more (g.J.JudgeItem.says c.args.judge.now) c.args.items.now c.loop-item.item-index c.loop-item.index c.item-item.result _ _ c.loop-item.held.items c.loop-item.tally c.item_outcome.result
      c.loop-item.invariant.0 c.loop-item-test.true c.item-item.is c.item_outcome.ensures c.loop-item.invariant.1 c.in-Ok.one c.as_bytes.result.now _ c.keep_where.new.held.items c.in-Ok.is (c.as_bytes.ensures.value ∙ c.format-text.ensures.text)
      c.in_ok-keep_where-in-Ok.ensures.ok,
  stays_well_trans _ _ _ c.loop-item.invariant.2 c.in_ok-keep_where-in-Ok.ensures.well,
)

pub returns-in_err-keep_where-in-Ok-clause-failed : goal.returns-in_err-keep_where-in-Ok-clause-failed
returns-in_err-keep_where-in-Ok-clause-failed g c =
    OnErr-from c.from_residual.result _ (fails_last_after _ _ _ c.loop-item.invariant.2 c.in_err-keep_where-in-Ok.ensures.failed)
