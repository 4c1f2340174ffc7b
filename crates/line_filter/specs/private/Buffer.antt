-- What waits in the buffer of a reader of lines. Private clauses alone cite these.
use Rattle.std.specs.Prelude.{◌-◌, ◌≤◌, IsTrue, slice_range, vec_len}
use Rattle.memchr.specs.Find.{Nowhere, Passes, is_byte}
use Rattle.line_filter.specs.Lines.{most_held}
use Rattle.line_filter.specs.private.Ascii.{AsciiBetween}
use Rattle.line_filter.specs.private.Waits.{Waits}
use Rattle.line_filter.specs.declared.buffer.Buffer.TheInside.{Inside}

-- the bytes from the first one not given to the last one read, and the line given last
abbrev pub waits : Inside → Waits
waits b = record {
  waiting = slice_range b.bytes.items b.start b.filled;
  line = slice_range b.bytes.items b.line b.line_end;
  held = vec_len b.bytes;
  room = vec_len b.bytes - b.filled;
}

-- The offsets are in order and within the vector, which is not too long, and no byte that was searched is an LF. Where
-- it is noted so, the searched bytes are of ASCII, and those of the line given last.
pub record IsBuffer (b : Inside) : Type 0 where
  pub line_in_order : b.line ≤ b.line_end
  pub line_within : b.line_end ≤ b.filled
  pub started : b.start ≤ b.searched
  pub in_order : b.searched ≤ b.filled
  pub within : b.filled ≤ vec_len b.bytes
  pub bounded : vec_len b.bytes ≤ most_held
  pub none : Nowhere (Passes (is_byte 10) b.bytes.items) b.start b.searched
  pub ascii : IsTrue b.is_ascii → AsciiBetween b.bytes.items b.start b.searched
  pub line_ascii : IsTrue b.is_line_ascii → AsciiBetween b.bytes.items b.line b.line_end
