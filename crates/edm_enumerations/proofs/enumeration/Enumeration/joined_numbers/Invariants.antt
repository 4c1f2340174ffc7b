use Rattle.std.proofs.Common.{length}
use denote.Text.{Utf8}
use denote.Shadow.{shadow}
use Rattle.edm_enumerations.proofs.Joining.{IsJoinedSoFar}
use Rattle.edm_enumerations.proofs.enumeration.Enumeration.joined_numbers.Given as goal

-- from the number so far the pieces that are left are joined to what all are joined to
abbrev pub invariant-loop-piece : goal.invariant-loop-piece
invariant-loop-piece l = shadow (Utf8 l.rest) × IsJoinedSoFar l.self l.text l.rest l.joined

abbrev pub decreases-loop-piece : goal.decreases-loop-piece
decreases-loop-piece l = length l.rest
