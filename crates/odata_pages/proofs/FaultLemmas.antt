-- What a fault of a page says, by that of a run over the lines of its items.
use Rattle.std.proofs.Common.{◌≡◌, ◌⊎◌, inl, inr, ℕ, List, ◌∷◌, Option, None, Some, refl, sym, subst}
use Rattle.std.specs.Prelude.{IfSome, IsSomeAnd}
use Rattle.edm_values.specs.MomentParts.{MomentParts}
use Rattle.line_filter.specs.Growth.{Writes}
use Rattle.line_filter.specs.Kept.{LineClass, StopsAt, StopsOn}
use Rattle.line_filter.specs.LineStreams.{LacksLine}
use Rattle.collection_reader.specs.Pages.{AreItemLinesOf, BreaksOff}
use Rattle.odata_checked_filter.specs.Filter.{Filter}
use Rattle.filter_runs.specs.DeviceFaults.{StopsLines}
use Rattle.filter_runs.specs.declared.run_fault.RunFault.{RunFault}
use Rattle.row_judges.specs.RowJudgment.{JudgesRow, rows_of}
use Rattle.row_judges.specs.declared.bad_row.BadRow.{BadRow}
use Rattle.odata_pages.specs.Pages.{FailsPage, HasFault, KeepsFirst, StopsPage}
use Rattle.odata_pages.specs.private.PageFaults.{IsPageFault, StandsOrYields}

module _ (filter : Filter) (now : MomentParts) (lines waiting : List ℕ) (known : Option (List ℕ)) (text : List ℕ) where
  -- what was written before an item at fault, or one that did not come, is of the kept ones among the first
  before_fault : (number : ℕ) (found : LineClass BadRow) → StopsAt (rows_of filter now lines) text number found → KeepsFirst filter now lines text
  before_fault number found stops = record { before = stops.before; after = stops.bad ∷ stops.after; tally = stops.tally; whole = stops.whole; passes = stops.passes }

  before_lack : (number : ℕ) → LacksLine (JudgesRow filter now) lines waiting known text number → KeepsFirst filter now lines text
  before_lack number lacks = record { before = lacks.before; after = _; tally = lacks.tally; whole = lacks.lines; passes = lacks.passes }

  before_memory : (number : ℕ) → StopsOn (rows_of filter now lines) text number → KeepsFirst filter now lines text
  before_memory number stops = record { before = stops.before; after = stops.here ∷ stops.after; tally = stops.tally; whole = stops.whole; passes = stops.passes }

  same : (fault result : RunFault) → result ≡ fault → StopsPage filter now lines text fault → StopsPage filter now lines text result
  same fault result is stops = subst (StopsPage filter now lines text) (sym is) stops

  yields : (fault result : RunFault) → StandsOrYields fault result → StopsPage filter now lines text fault → (has : HasFault filter now lines text)
      → StopsPage filter now lines text result
  yields fault result (inl is) stops has = same fault result is stops
  yields fault result (inr (inl is)) stops has = same RunFault.NotACollection result is has
  yields fault result (inr (inr is)) stops has = same (RunFault.Memory 0) result is (before_fault has.0 _ has.2)

  -- the same for any fault
  pub page_stops : (fault result : RunFault) → StopsLines filter now lines waiting known text fault → IsPageFault fault result → StopsPage filter now lines text result
  page_stops (RunFault.Json line) result stops is = same RunFault.NotACollection result is (line, BadRow.NotJson, stops)
  page_stops (RunFault.Row line fault) result stops is = yields (RunFault.Row line fault) result is stops (line, BadRow.NoEntity fault, stops)
  page_stops (RunFault.Arithmetic line fault) result stops is = yields (RunFault.Arithmetic line fault) result is stops (line, BadRow.NoValue fault, stops)
  page_stops (RunFault.LineTooLong line) result stops is = same (RunFault.LineTooLong line) result is stops
  page_stops RunFault.NotACollection result stops is = absurd stops
  page_stops RunFault.Write result stops is = same RunFault.Write result is stops
  page_stops (RunFault.Read line) result stops (inl is) = same (RunFault.Memory 0) result is (before_lack line stops)
  page_stops (RunFault.Read line) result stops (inr is) = same (RunFault.Read 0) result is (refl, before_lack line stops)
  page_stops (RunFault.Memory line) result (inl lacks) is = same (RunFault.Memory line) result is (before_lack line lacks)
  page_stops (RunFault.Memory line) result (inr stops) is = same (RunFault.Memory line) result is (before_memory line stops)

-- the same of what the reader of the document had, and what the one of its lines had
pub page_failed : (filter : Filter) (now : MomentParts) (waiting : List ℕ) (known document lines left old new : Option (List ℕ)) (fault result : RunFault) → left ≡ lines
    → ((bytes : List ℕ) → document ≡ Some bytes → IsSomeAnd lines (λ text. AreItemLinesOf bytes text ⊎ BreaksOff bytes text))
    → IfSome left (λ bytes. Writes old new (λ text. StopsLines filter now bytes waiting known text fault))
    → IsPageFault fault result
    → IfSome document (λ bytes. Writes old new (λ text. FailsPage filter now bytes text result))
page_failed filter now waiting known None lines left old new fault result same are stops is = tt
page_failed filter now waiting known (Some bytes) lines left old new fault result same are stops is =
    here lines (are bytes refl) (subst (λ (o : Option (List ℕ)). IfSome o (λ bytes. Writes old new (λ text. StopsLines filter now bytes waiting known text fault))) same stops)
  where
    here : (lines : Option (List ℕ)) → IsSomeAnd lines (λ text. AreItemLinesOf bytes text ⊎ BreaksOff bytes text)
        → IfSome lines (λ bytes. Writes old new (λ text. StopsLines filter now bytes waiting known text fault))
        → Writes old new (λ text. FailsPage filter now bytes text result)
    here None are stops = absurd are
    here (Some lines) are (text, grows, stops) =
        (text, grows, record { lines = lines; are_lines = are; stops = page_stops filter now lines waiting known text fault result stops is })
