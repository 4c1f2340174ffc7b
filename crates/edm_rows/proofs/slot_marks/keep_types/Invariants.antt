use Rattle.std.proofs.Common.{◌≡◌, ◌≢◌, ◌<◌, ℕ, Some, false, IfSome, map, slice_get}
use Rattle.edm_rows.specs.private.HeldRows.{AreSameTypes, keeps_of, sieves_of}
use Rattle.edm_rows.proofs.slot_marks.keep_types.Given as goal

-- the types so far keep all
abbrev pub invariant-loop-place : goal.invariant-loop-place
invariant-loop-place l =
    AreSameTypes l.initial.types.items l.types.items
    × (map sieves_of l.types.items ≡ map sieves_of l.initial.types.items)
    × ((k : ℕ) → k < l.place → IfSome (slice_get l.types.items k) (λ t. (slot : ℕ) → slice_get (keeps_of t) slot ≢ Some false))
