use Rattle.std.proofs.Common.{slice_index_or}
use Rattle.odata_text.proofs.Common.{ℕ, ◌<◌, ◌≤◌, Contains, Form}
use Rattle.odata_text.proofs.longest.best_of.Given as goal

abbrev pub invariant-loop-candidate : goal.invariant-loop-candidate
invariant-loop-candidate l = record {
  among : Contains l.candidates l.best;
  most : (k : ℕ) (d : Form × ℕ) → k < l.candidate-index → (slice_index_or l.candidates k d).1 ≤ l.best.1;
}
