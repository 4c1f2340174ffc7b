use Rattle.std.proofs.Common.{◌≤◌, ◌-◌}
use Rattle.std.specs.Prelude.{IsTrue}
use Rattle.memchr.specs.Find.{Nowhere, Passes, is_byte}
use Rattle.line_filter.specs.private.Ascii.{AsciiBetween}
use Rattle.line_filter.proofs.line_feeds.first_line_feed.Given as goal

-- no LF stands before the offset; where it is noted so, the bytes before it are of ASCII
abbrev pub invariant-loop-offset : goal.invariant-loop-offset
invariant-loop-offset l = (l.from ≤ l.offset) × (l.offset ≤ l.to) × Nowhere (Passes (is_byte 10) l.bytes) l.from l.offset
    × (IsTrue l.is_ascii → AsciiBetween l.bytes l.from l.offset)

abbrev pub decreases-loop-offset : goal.decreases-loop-offset
decreases-loop-offset l = l.to - l.offset
