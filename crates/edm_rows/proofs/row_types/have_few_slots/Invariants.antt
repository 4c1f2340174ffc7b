use Rattle.std.proofs.Common.{◌<◌, ◌≤◌, ℕ, IfSome, length, slice_get}
use Rattle.edm_rows.proofs.row_types.have_few_slots.Given as goal

-- the plans so far have few slots
abbrev pub invariant-loop-place : goal.invariant-loop-place
invariant-loop-place l = (k : ℕ) → k < l.place → IfSome (slice_get l.plans k) (λ plan. length plan.slots.items ≤ 64)
