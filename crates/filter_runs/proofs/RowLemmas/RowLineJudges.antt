-- What is said by a judge's filter and moment is said by those that it was made of.
use Rattle.std.proofs.Common.{◌≡◌, ◌≢◌, ◌∙◌, ◌⊎◌, ℕ, List, Option, Some, None, Result, Ok, Err, inl, inr, refl, ap, subst, sym, IfSome}
use Rattle.edm_values.specs.MomentParts.{MomentParts}
use Rattle.odata_checked_filter.specs.Filter.{Filter}
use Rattle.line_filter.specs.Growth.{Writes}
use Rattle.line_filter.specs.Kept.{Items, Filters, IsOfItem, Stops, StopsHeld, StopsOn, StopsWith}
use Rattle.line_filter.specs.LineStreams.{LacksLine}
use Rattle.line_filter.specs.declared.run_stop.RunStop.{RunStop}
use Rattle.line_filter.specs.declared.tally.Tally.{Tally}
use Rattle.std.specs.Prelude.{IfErr, IfOk, IsSomeAnd}
use Rattle.row_judges.specs.declared.bad_row.BadRow.{BadRow}
use Rattle.filter_runs.specs.declared.run_fault.RunFault.{RunFault}
use Rattle.filter_runs.specs.DeviceFaults.{LacksRow, StopsLines}
use Rattle.row_judges.specs.RowJudgment.{JudgesRow, rows_of}
use Rattle.filter_runs.specs.RunStops.{run_stop, StopsBy}
use Rattle.filter_runs.proofs.RowLemmas.LinesOpen.{held_open, lines_open}

pub of_filter : (P : Filter → MomentParts → Type 0) (f g : Filter) (m n : MomentParts) → f ≡ g → m ≡ n → P f m → P g n
of_filter P f g m n same_filter same_moment said = subst (P g) same_moment (subst (λ f'. P f' m) same_filter said)

-- a stop that was reported as a fault
module _ (f : Filter) (m : MomentParts) (waiting : List ℕ) (known : Option (List ℕ)) where
  abbrev lacks : List ℕ → List ℕ → ℕ → Type 0
  lacks bytes = LacksLine (JudgesRow f m) bytes waiting known

  pub stops_lines : (left old new : Option (List ℕ)) (stop : RunStop BadRow) (fault : RunFault) → run_stop fault ≡ Some stop
      → IfSome left (λ bytes. Writes old new (λ text. StopsWith (rows_of f m bytes) (lacks bytes) text stop))
      → IfSome left (λ bytes. Writes old new (λ text. StopsLines f m bytes waiting known text fault))
  stops_lines None old new stop fault is stops = tt
  stops_lines (Some bytes) old new stop fault is (text, appends, stops) =
      (text, appends, subst (λ reported. IsSomeAnd reported (StopsWith (rows_of f m bytes) (lacks bytes) text)) (sym is) stops)

  left_open : (bytes text : List ℕ) (reported : Option (RunStop BadRow)) → IsSomeAnd reported (StopsWith (rows_of f m bytes) (lacks bytes) text) → IsSomeAnd reported (Stops (rows_of f m bytes) text)
  left_open bytes text None stops = absurd stops
  left_open bytes text (Some stop) stops = lines_open (JudgesRow f m) bytes waiting known text stop stops

  open_known : (left old new : Option (List ℕ)) (fault : RunFault) → IfSome left (λ bytes. Writes old new (λ text. StopsLines f m bytes waiting known text fault))
      → IfSome left (λ bytes. Writes old new (λ text. StopsBy (rows_of f m bytes) text fault))
  open_known None old new fault stops = tt
  open_known (Some bytes) old new fault (text, appends, stops) = (text, appends, left_open bytes text (run_stop fault) stops)

  pub lines_stop : (left remaining old new : Option (List ℕ)) (answer : Result Tally RunFault) → left ≡ remaining
      → IfErr answer (λ fault. IfSome left (λ bytes. Writes old new (λ text. StopsLines f m bytes waiting known text fault)))
      → IfErr answer (λ fault. IfSome remaining (λ bytes. Writes old new (λ text. StopsBy (rows_of f m bytes) text fault)))
  lines_stop left remaining old new (Ok tally) same stops = tt
  lines_stop left remaining old new (Err fault) same stops =
      subst (λ known. IfSome known (λ bytes. Writes old new (λ text. StopsBy (rows_of f m bytes) text fault))) same (open_known left old new fault stops)

  lack_known : (left old new : Option (List ℕ)) (line : ℕ) → IfSome left (λ bytes. Writes old new (λ text. StopsLines f m bytes waiting known text (RunFault.Read line)))
      → IfSome left (λ bytes. Writes old new (λ text. LacksRow f m bytes text line))
  lack_known None old new line stops = tt
  lack_known (Some bytes) old new line (text, appends, lacks) = (
    text,
    appends,
    record {
      before = lacks.before;
      begun = waiting;
      rest = lacks.rest;
      tally = lacks.tally;
      came = lacks.came;
      lines = lacks.lines;
      unended = lacks.unended;
      short = lacks.short;
      counted = lacks.counted;
      passes = lacks.passes;
    },
  )

  -- the line that a read left out
  pub lines_lack : (left remaining old new : Option (List ℕ)) (answer : Result Tally RunFault) (line : ℕ) → left ≡ remaining → answer ≡ Err (RunFault.Read line)
      → IfErr answer (λ fault. IfSome left (λ bytes. Writes old new (λ text. StopsLines f m bytes waiting known text fault)))
      → IfSome remaining (λ bytes. Writes old new (λ text. LacksRow f m bytes text line))
  lines_lack left remaining old new answer line same is stops =
      subst (λ all. IfSome all (λ bytes. Writes old new (λ text. LacksRow f m bytes text line))) same
      (lack_known left old new line
      (subst (λ r. IfErr r (λ fault. IfSome left (λ bytes. Writes old new (λ text. StopsLines f m bytes waiting known text fault)))) is stops))

pub lines_pass : (f : Filter) (m : MomentParts) (left remaining old new : Option (List ℕ)) (answer : Result Tally RunFault) → left ≡ remaining
    → IfOk answer (λ tally. IfSome left (λ bytes. Writes old new (λ text. Filters (rows_of f m bytes) text tally)))
    → IfOk answer (λ tally. IfSome remaining (λ bytes. Writes old new (λ text. Filters (rows_of f m bytes) text tally)))
lines_pass f m left remaining old new (Err fault) same filters = tt
lines_pass f m left remaining old new (Ok tally) same filters =
    subst (λ known. IfSome known (λ bytes. Writes old new (λ text. Filters (rows_of f m bytes) text tally))) same filters

-- ---- rows that stand in memory

module _ {X : Type 0} (items : Items X BadRow) (text : List ℕ) (fault : RunFault) (stop : RunStop BadRow) (reported : run_stop fault ≡ Some stop) (stops : StopsHeld items text stop) where
  reported_of : (other : RunFault) (last : RunStop BadRow) → fault ≡ other → run_stop other ≡ Some last → stop ≡ last
  reported_of other last same is = let e : Some stop ≡ Some last = sym reported ∙ ap run_stop same ∙ is in cc

  pub held_unread : (line : ℕ) → fault ≢ RunFault.Read line
  held_unread line same = subst (StopsHeld items text) (reported_of (RunFault.Read line) (RunStop.Read line) same refl) stops

  pub held_unwritten : IsOfItem stop → fault ≢ RunFault.Write
  held_unwritten of_item same = subst IsOfItem (reported_of RunFault.Write RunStop.Write same refl) of_item

  never_lacks : {A : Type 0} → ⊥ ⊎ A → A
  never_lacks (inl never) = absurd never
  never_lacks (inr is) = is

  pub held_memory : (line : ℕ) → fault ≡ RunFault.Memory line → StopsOn items text line
  held_memory line same = never_lacks (subst (StopsHeld items text) (reported_of (RunFault.Memory line) (RunStop.Memory line) same refl) stops)

  pub held_stops : IsSomeAnd (run_stop fault) (Stops items text)
  held_stops = subst (λ s. IsSomeAnd s (Stops items text)) (sym reported) (held_open items text stop stops)
