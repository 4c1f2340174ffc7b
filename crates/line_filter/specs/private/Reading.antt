-- What the reads between two lines make of a reader of lines. Private clauses alone cite these.
use Rattle.std.specs.Prelude.{◌≡◌, ℕ, ◌+◌, List, length, Option}
use Rattle.std.specs.Io.KnownBytes.{Consumes}
use Rattle.line_filter.specs.declared.call_log.CallLog.{CallLog}
use Rattle.line_filter.specs.declared.line_reader.Course.{Course}
use Rattle.line_filter.specs.declared.line_reader.LineFault.{LineFault}
use Rattle.line_filter.specs.LineSource.{LineSource}
use Rattle.line_filter.specs.LineStreams.{ReadWell, WhyUnread}

-- a read was reported as failed
abbrev pub IsUnread : {R : Type 0} → LineSource R → Type 0
IsUnread source = source.course ≡ Course.Failed LineFault.Read

-- the reader gave so many bytes as fewer may be read now
abbrev pub ReadsCounted : {R : Type 0} → (R → Option (List ℕ)) → LineSource R → LineSource R → Type 0
ReadsCounted remaining old new =
    (bytes : List ℕ) × Consumes (remaining old.reader) (remaining new.reader) bytes
    × (length bytes + new.unread ≡ old.unread)

-- Each read did its work, but where one is reported as failed, and then it is said why.
pub record ReadsOn {R : Type 0}
    (calls : R → CallLog) (remaining : R → Option (List ℕ)) (old new : LineSource R) : Type 0 where
  pub counted : ReadsCounted remaining old new
  pub well : ¬ IsUnread new → ReadWell calls old new
  pub unread : IsUnread new → WhyUnread calls remaining old new

-- Each read did its work, and a read that is reported as failed was reported so before.
pub record ReadsWell {R : Type 0}
    (calls : R → CallLog) (remaining : R → Option (List ℕ)) (old new : LineSource R) : Type 0 where
  pub counted : ReadsCounted remaining old new
  pub well : ReadWell calls old new
  pub before : IsUnread new → IsUnread old
