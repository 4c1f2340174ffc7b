use Rattle.sql_forms.proofs.Common.{◌≡◌, ◌<◌, ◌≤◌, ◌-◌, ℕ, Some, length, slice_get, IsFaultless}
use Rattle.sql_forms.proofs.keeps.faultless_terms.Given as goal

abbrev pub invariant-loop-count : goal.invariant-loop-count
invariant-loop-count l = record {
  within : l.count ≤ length l.terms;
  are : (k term : ℕ) → k < l.count → slice_get l.terms k ≡ Some term → IsFaultless l.context.ranges.now term;
}

abbrev pub decreases-loop-count : goal.decreases-loop-count
decreases-loop-count l = length l.terms - l.count
