use Rattle.std.proofs.Common.{◌≡◌, ◌≢◌, ◌<◌, ℕ, length, Some, false, slice_get}
use Rattle.edm_rows.specs.private.HeldRows.{IsSameType, keeps_of, sieves_of}
use Rattle.edm_rows.proofs.slot_marks.keep_slots.Given as goal

-- the slots so far are kept
abbrev pub invariant-loop-slot : goal.invariant-loop-slot
invariant-loop-slot l =
    IsSameType l.initial.of l.of
    × (length (keeps_of l.of) ≡ length (keeps_of l.initial.of))
    × (sieves_of l.of ≡ sieves_of l.initial.of)
    × ((k : ℕ) → k < l.slot → slice_get (keeps_of l.of) k ≢ Some false)
