use Rattle.std.proofs.Common.{◌<◌}
use Rattle.row_explanation.proofs.Faults.{IsPassed, NoneBefore, StopBy}
use Rattle.row_explanation.proofs.evaluation_stop.fault_below.Given as goal

-- no child before has a fault, and each stops by what is asked next
abbrev pub invariant-loop-child : goal.invariant-loop-child
invariant-loop-child l = record {
  after : l.index < l.child;
  none : NoneBefore l.evaluation.entity.now l.evaluation.moment.now l.evaluation.filter.now.list l.index l.child;
  passed : IsPassed l.evaluation.entity.now l.evaluation.moment.now l.evaluation.filter.now.list l.index l.next l.child;
  stops : StopBy l.evaluation.entity.now l.evaluation.moment.now l.evaluation.filter.now.list l.index l.next l.child;
}
