-- What a filter keeps of a page, a collection of entities whose document comes in pieces (OData JSON Format 4.01,
-- section 13).
use Rattle.std.specs.Prelude.{◌≡◌, ◌⊎◌, ℕ, List, ◌++◌}
use Rattle.edm_values.specs.MomentParts.{MomentParts}
use Rattle.line_filter.specs.Kept.{Filters, LineClass, Passes, StopsAt}
use Rattle.line_filter.specs.LineItems.{line_sieve}
use Rattle.line_filter.specs.Lines.{lines_of}
use Rattle.line_filter.specs.declared.judge.Judgment.{Judgment}
use Rattle.line_filter.specs.declared.tally.Tally.{Tally}
use Rattle.collection_reader.specs.Pages.{AreItemLinesOf, BreaksOff}
use Rattle.odata_checked_filter.specs.Filter.{Filter}
use Rattle.filter_runs.specs.RunStops.{StopsBy}
use Rattle.filter_runs.specs.declared.run_fault.RunFault.{RunFault}
use Rattle.row_judges.specs.RowJudgment.{JudgesRow, rows_of}
use Rattle.row_judges.specs.declared.bad_row.BadRow.{BadRow}

-- The document is a collection, and the text is that of the lines of its items that the filter keeps, in their order;
-- none is at fault, and the tally counts all and those.
pub record FiltersPage (filter : Filter) (now : MomentParts) (document text : List ℕ) (tally : Tally) : Type 0 where
  pub lines : List ℕ
  pub are_lines : AreItemLinesOf document lines
  pub filters : Filters (rows_of filter now lines) text tally

-- The text is that of the kept ones among some first lines, of which none is at fault.
pub record KeepsFirst (filter : Filter) (now : MomentParts) (lines text : List ℕ) : Type 0 where
  pub before : List (List ℕ)
  pub after : List (List ℕ)
  pub tally : Tally
  pub whole : lines_of lines ≡ before ++ after
  pub passes : Passes (line_sieve (JudgesRow filter now)) before text tally

-- One of the lines is the first at fault; the text is that of the kept ones before it.
abbrev pub HasFault : Filter → MomentParts → List ℕ → List ℕ → Type 0
HasFault filter now lines text =
    (number : ℕ) × (fault : BadRow)
    × StopsAt (rows_of filter now lines) text number (LineClass.judged (Judgment.Fault fault))

-- What a fault of a page says of the lines of its items and of the text that was written: an item is the first at
-- fault, and where the document is none, it or one after it is no JSON; a write failed; or a read or an allocation
-- failed.
abbrev pub StopsPage : Filter → MomentParts → List ℕ → List ℕ → RunFault → Type 0
StopsPage filter now lines text (RunFault.Row line fault) =
    StopsBy (rows_of filter now lines) text (RunFault.Row line fault)
StopsPage filter now lines text (RunFault.Arithmetic line fault) =
    StopsBy (rows_of filter now lines) text (RunFault.Arithmetic line fault)
StopsPage filter now lines text (RunFault.LineTooLong line) =
    StopsBy (rows_of filter now lines) text (RunFault.LineTooLong line)
StopsPage filter now lines text RunFault.Write = StopsBy (rows_of filter now lines) text RunFault.Write
StopsPage filter now lines text RunFault.NotACollection = HasFault filter now lines text
StopsPage filter now lines text (RunFault.Read line) = (line ≡ 0) × KeepsFirst filter now lines text
StopsPage filter now lines text (RunFault.Memory line) = KeepsFirst filter now lines text
StopsPage filter now lines text (RunFault.Json line) = ⊥

-- The lines are those of the document's items, or of its first ones up to where it breaks off; and the fault says that
-- of them.
pub record FailsPage (filter : Filter) (now : MomentParts) (document text : List ℕ) (fault : RunFault) : Type 0 where
  pub lines : List ℕ
  pub are_lines : AreItemLinesOf document lines ⊎ BreaksOff document lines
  pub stops : StopsPage filter now lines text fault
