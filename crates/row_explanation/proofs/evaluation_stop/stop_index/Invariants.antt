use Rattle.std.proofs.Common.{◌-◌, ℕ, List, length, true}
use Rattle.row_explanation.specs.NodeReports.{AreAround, HasFault}
use Rattle.row_explanation.proofs.evaluation_stop.stop_index.Given as goal

-- the node has a fault, and is where the first faults lead
abbrev pub invariant-down : goal.invariant-down
invariant-down l = record {
  faulty : HasFault l.evaluation.entity.now l.evaluation.moment.now l.evaluation.filter.now.list l.at true;
  way : (around : List ℕ) × AreAround l.evaluation.entity.now l.evaluation.moment.now l.evaluation.filter.now.list l.at around;
}

abbrev pub decreases-down : goal.decreases-down
decreases-down l = length l.evaluation.filter.now.list.nodes - l.at
