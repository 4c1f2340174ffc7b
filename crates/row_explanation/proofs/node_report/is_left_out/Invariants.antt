use Rattle.std.proofs.Common.{ℕ, ◌<◌}
use Rattle.row_explanation.specs.NodeReports.{IsUndecidedAround}
use Rattle.row_explanation.proofs.node_report.is_left_out.Given as goal

-- no operator before decides
abbrev pub invariant-loop-outer : goal.invariant-loop-outer
invariant-loop-outer l =
    (k : ℕ) → k < l.outer → IsUndecidedAround l.evaluation.entity.now l.evaluation.moment.now l.evaluation.filter.now.list k l.index
