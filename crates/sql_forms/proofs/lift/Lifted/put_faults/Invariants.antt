use Rattle.sql_forms.proofs.Common.{take, Grows, faults_front}
use Rattle.sql_forms.proofs.lift.Lifted.put_faults.Given as goal

abbrev pub invariant-loop-place : goal.invariant-loop-place
invariant-loop-place l = record {
  grown : Grows l.fn.draft l.draft (faults_front l.carrier l.self.level (take l.place l.self.bound.items));
}
