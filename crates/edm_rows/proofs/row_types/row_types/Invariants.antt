use Rattle.std.proofs.Common.{◌≡◌, ◌<◌, ℕ, IfSome, length, slice_get}
use Rattle.edm_rows.specs.private.RowSlots.{IsFreshType, IsRowType}
use Rattle.edm_rows.proofs.row_types.row_types.Given as goal

-- the types so far are those of the plans at their indexes, and nothing is kept
abbrev pub invariant-loop-place : goal.invariant-loop-place
invariant-loop-place l =
    (length l.types.items ≡ l.place) × (l.order < 1024)
    × ((k : ℕ) → IfSome (slice_get l.types.items k) (λ t. IfSome (slice_get l.plan.plans.items k) (λ p. IsRowType l.schema l.plan.expansion l.plan.plans.items p t)))
    × ((k : ℕ) → IfSome (slice_get l.types.items k) IsFreshType)
