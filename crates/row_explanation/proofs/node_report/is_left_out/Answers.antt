use Rattle.std.proofs.Common.{◌<◌, ℕ, arith, below_more, inl, inr}
use Rattle.row_explanation.specs.NodeReports.{IsUndecidedAround}
use Rattle.row_explanation.proofs.node_report.is_left_out.Goals as goal

pub returns-then-is_after_stop-clause-left_out : goal.returns-then-is_after_stop-clause-left_out
returns-then-is_after_stop-clause-left_out c = λ _. inl (c.is_after_stop.ensures.after c.if-is_after_stop.true)

pub loop-outer-init : goal.loop-outer-init
loop-outer-init c = λ k before. absurd (omega arith)

pub returns-then-is_decided-clause-left_out : goal.returns-then-is_decided-clause-left_out
returns-then-is_decided-clause-left_out c = λ _. inr (c.loop-outer.outer, c.in_ok-is_decided.ensures.decided c.if-is_decided.true)

pub loop-outer-preserved : goal.loop-outer-preserved
loop-outer-preserved c =
    let e = c.args.evaluation.now in
    below_more (λ (k : ℕ). IsUndecidedAround e.entity.now e.moment.now e.filter.now.list k c.args.index) c.loop-outer.outer c.loop-outer.invariant (c.in_ok-is_decided.ensures.undecided c.if-is_decided.false)

pub returns-clause-reached : goal.returns-clause-reached
returns-clause-reached c = λ _. record {
  before_stop = c.is_after_stop.ensures.not_after c.if-is_after_stop.false;
  needed = λ outer operator lies. let after : outer < c.args.index = lies.after in c.loop-outer.invariant outer (omega arith) operator lies;
}
