-- What a run past faults says, by the filter and the moment that its judge was made of.
use Rattle.std.proofs.Common.{◌≡◌, List, ℕ, Option, Some, None, subst, sym, IfSome}
use Rattle.std.specs.Prelude.{IsSomeAnd}
use Rattle.edm_values.specs.MomentParts.{MomentParts}
use Rattle.line_filter.specs.Growth.{Writes}
use Rattle.line_filter.specs.Kept.{Stops, StopsWith}
use Rattle.line_filter.specs.LineItems.{lines}
use Rattle.line_filter.specs.LineStreams.{LacksLine}
use Rattle.line_filter.specs.PastFaults.{KeepsPastFaults, past_faults}
use Rattle.line_filter.specs.declared.run_stop.RunStop.{RunStop}
use Rattle.line_filter.specs.declared.tally.Tally.{Tally}
use Rattle.odata_checked_filter.specs.Filter.{Filter}
use Rattle.row_judges.specs.RowJudgment.{JudgesRow, rows_of}
use Rattle.row_judges.specs.declared.bad_row.BadRow.{BadRow}
use Rattle.filter_runs.specs.RunStops.{StopsBy, run_stop}
use Rattle.filter_runs.specs.declared.run_fault.RunFault.{RunFault}
use Rattle.filter_runs.proofs.RowLemmas.LinesOpen.{lines_open}
use Rattle.filter_runs.proofs.RowLemmas.RowLineJudges.{of_filter}

module _ (left remaining old new : Option (List ℕ)) (same : left ≡ remaining) where
  pub kept_past : (f g : Filter) (m n : MomentParts) → f ≡ g → m ≡ n → (tally : Tally)
      → IfSome left (λ bytes. Writes old new (λ text. KeepsPastFaults (rows_of f m bytes) text tally))
      → IfSome remaining (λ bytes. Writes old new (λ text. KeepsPastFaults (rows_of g n bytes) text tally))
  kept_past f g m n same_filter same_moment tally kept =
      let Kept : Filter → MomentParts → Type 0 = λ f' m'. IfSome remaining (λ bytes. Writes old new (λ text. KeepsPastFaults (rows_of f' m' bytes) text tally)) in
      of_filter Kept f g m n same_filter same_moment
      (subst (λ known. IfSome known (λ bytes. Writes old new (λ text. KeepsPastFaults (rows_of f m bytes) text tally))) same kept)

  abbrev Stopped : Filter → MomentParts → RunFault → Option (List ℕ) → Type 0
  Stopped f m fault known = IfSome known (λ bytes. Writes old new (λ text. StopsBy (lines (past_faults (JudgesRow f m)) bytes) text fault))

  stopped_past : (f : Filter) (m : MomentParts) (waiting : List ℕ) (known all : Option (List ℕ)) (stop : RunStop BadRow) (fault : RunFault) → run_stop fault ≡ Some stop
      → IfSome all (λ bytes. Writes old new (λ text. StopsWith (lines (past_faults (JudgesRow f m)) bytes) (LacksLine (past_faults (JudgesRow f m)) bytes waiting known) text stop))
      → Stopped f m fault all
  stopped_past f m waiting known None stop fault is stops = tt
  stopped_past f m waiting known (Some bytes) stop fault is (text, appends, at) =
      (text, appends, subst (λ reported. IsSomeAnd reported (Stops (lines (past_faults (JudgesRow f m)) bytes) text)) (sym is) (lines_open (past_faults (JudgesRow f m)) bytes waiting known text stop at))

  pub stops_past : (f g : Filter) (m n : MomentParts) → f ≡ g → m ≡ n → (waiting : List ℕ) (known : Option (List ℕ)) (stop : RunStop BadRow) (fault : RunFault) → run_stop fault ≡ Some stop
      → IfSome left (λ bytes. Writes old new (λ text. StopsWith (lines (past_faults (JudgesRow f m)) bytes) (LacksLine (past_faults (JudgesRow f m)) bytes waiting known) text stop))
      → IfSome remaining (λ bytes. Writes old new (λ text. StopsBy (lines (past_faults (JudgesRow g n)) bytes) text fault))
  stops_past f g m n same_filter same_moment waiting known stop fault is stops =
      of_filter (λ f' m'. Stopped f' m' fault remaining) f g m n same_filter same_moment
      (subst (λ all. Stopped f m fault all) same (stopped_past f m waiting known left stop fault is stops))
