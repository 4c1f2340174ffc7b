use Rattle.std.proofs.Common.{take}
use Rattle.sql_outcomes.proofs.outcomes.LiftWalk.{Taken}
use Rattle.sql_forms.proofs.lift.bind_operands.Given as goal

abbrev pub invariant-loop-operand : goal.invariant-loop-operand
invariant-loop-operand l = record {
  taken : Taken l.level (take l.operand-index l.operands) l.inner.items l.bound.items;
}
