-- What the fields of a reader of lines stand for. Private clauses alone cite these.
use Rattle.std.specs.Prelude.{◌≡◌, List, ℕ, ◌<◌, ◌^◌, Option}
use Rattle.std.specs.Io.KnownBytes.{IsAtEnd}
use Rattle.line_filter.specs.declared.line_reader.LineFault.{LineFault}
use Rattle.line_filter.specs.declared.line_reader.Course.{Course}
use Rattle.line_filter.specs.declared.line_reader.LineReader.TheInside.{Inside}
use Rattle.line_filter.specs.LineSource.{LineSource, IsNoWholeLine}
use Rattle.line_filter.specs.private.Giving.{IsLongBy}

-- the buffer's bytes and line, and the fields
abbrev pub source : {R : Type 0} → Inside R → LineSource R
source l = record {
  reader = l.reader;
  waiting = l.buffer.waiting;
  line = l.buffer.line;
  held = l.buffer.held;
  unread = l.unread;
  course = l.course;
}

-- At the end the reader reported its end, and what waits is no over-long line; after TooLong it begins one. After
-- another fault no whole line waits. At most 2^63 - 1 bytes more may be read.
pub record IsSource {R : Type 0} (remaining : R → Option (List ℕ)) (l : Inside R) : Type 0 where
  pub at_end : l.course ≡ Course.AtEnd → IsAtEnd (remaining l.reader) × IsNoWholeLine l.buffer.waiting
  pub too_long : l.course ≡ Course.Failed LineFault.TooLong → IsLongBy l.buffer.waiting
  pub not_read : l.course ≡ Course.Failed LineFault.Read → IsNoWholeLine l.buffer.waiting
  pub not_held : l.course ≡ Course.Failed LineFault.Memory → IsNoWholeLine l.buffer.waiting
  pub bounded : l.unread < 2 ^ 63
