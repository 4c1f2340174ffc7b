use Rattle.edm_rows.proofs.UnseenNull.{NullsBelow}
use Rattle.edm_rows.proofs.absent_slots.null_absent.Given as goal

-- the slots so far that were not seen are null
abbrev pub invariant-loop-slot : goal.invariant-loop-slot
invariant-loop-slot g l = NullsBelow (g.M.SeenSlots.bits l.seen) l.slot l.initial.values l.values
