-- What each step of a reader of lines gives. Private clauses alone cite these.
use Rattle.std.specs.Prelude.{◌≡◌, ◌≢◌, ℕ, ◌+◌, ◌-◌, ◌<◌, ◌≤◌, List, [], ◌∷◌, ◌++◌, length, Option, IfSome, ◌⊎◌}
use Rattle.std.specs.Io.KnownBytes.{Keeps, IsAtEnd}
use Rattle.line_filter.specs.declared.line_reader.LineFault.{LineFault}
use Rattle.line_filter.specs.declared.line_reader.Course.{Course}
use Rattle.line_filter.specs.declared.line_reader.Next.{Next}
use Rattle.line_filter.specs.Lines.{longest_line}
use Rattle.line_filter.specs.LineSource.{LineSource, left_of, GivesLine, BeginsTooLong, IsNoWholeLine, IsOver, WhereKnown}

-- these bytes begin an over-long line, whatever follows them
abbrev pub IsLongBy : List ℕ → Type 0
IsLongBy bytes = (more : List ℕ) → BeginsTooLong (bytes ++ more)

-- how many bytes may still be given
abbrev pub bytes_to_come : {R : Type 0} → LineSource R → ℕ
bytes_to_come source = length source.waiting + source.unread

-- how many bytes more may come before the line is whole or too long
abbrev pub to_come_by : Course → ℕ → ℕ
to_come_by Course.Open waiting = longest_line + 2 - waiting
to_come_by _ waiting = 0

-- that, at this reader of lines
abbrev pub line_to_come : {R : Type 0} → LineSource R → ℕ
line_to_come source = to_come_by source.course (length source.waiting)

-- it is open or at its end
abbrev pub IsGoing : Course → Type 0
IsGoing Course.Open = Unit {0}
IsGoing Course.AtEnd = Unit {0}
IsGoing (Course.Failed fault) = ⊥

-- A line is given: the first one of what was left. It is not over-long, and an LF stands after it, unless all is given
-- then.
pub record IsGiven {R : Type 0} (remaining : R → Option (List ℕ)) (old new : LineSource R) : Type 0 where
  pub first : GivesLine (left_of remaining old) (left_of remaining new) new.line
  pub short : length new.line ≤ longest_line
  pub whole : IsOver new
      ⊎ WhereKnown (left_of remaining old) (left_of remaining new) (λ bytes rest. bytes ≡ new.line ++ 10 ∷ rest)
  pub fewer : bytes_to_come new < bytes_to_come old
  pub going : IsGoing new.course

-- Nothing was left, and the end is reported from now on.
pub record IsEnd {R : Type 0} (remaining : R → Option (List ℕ)) (old new : LineSource R) : Type 0 where
  pub none_left : IsAtEnd (left_of remaining old)
  pub over : IsOver new
  pub left : Keeps (left_of remaining old) (left_of remaining new)

-- The fault is reported from now on, and what was left is left. TooLong says that the first line is over-long; at
-- another fault no whole line waited, and none that was too long, and none does.
pub record IsFault
    {R : Type 0} (remaining : R → Option (List ℕ)) (old new : LineSource R) (fault : LineFault) : Type 0 where
  pub long : fault ≡ LineFault.TooLong → IfSome (left_of remaining old) BeginsTooLong
  pub held : fault ≢ LineFault.TooLong → IsNoWholeLine old.waiting
  pub unended : fault ≢ LineFault.TooLong → IsNoWholeLine new.waiting
  pub failed : new.course ≡ Course.Failed fault
  pub left : Keeps (left_of remaining old) (left_of remaining new)

-- what comes next: a line, of which it is said where it is empty; or that there is none
abbrev pub Gives : {R : Type 0} → (R → Option (List ℕ)) → LineSource R → LineSource R → Next → Type 0
Gives remaining old new Next.Line = IsGiven remaining old new
Gives remaining old new Next.Empty = IsGiven remaining old new × (new.line ≡ [])
Gives remaining old new Next.End = IsEnd remaining old new
Gives remaining old new (Next.Fault fault) = IsFault remaining old new fault

-- At the end and after a fault the same is reported again.
pub record GivesAgain {R : Type 0} (old : LineSource R) (next : Next) : Type 0 where
  pub over : IsOver old → next ≡ Next.End
  pub failed : (fault : LineFault) → old.course ≡ Course.Failed fault → next ≡ Next.Fault fault
