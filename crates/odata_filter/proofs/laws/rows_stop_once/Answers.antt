use Rattle.std.proofs.Common.{◌≡◌, ℕ, List}
use Rattle.edm_values.specs.MomentParts.{MomentParts}
use Rattle.odata_checked_filter.specs.Filter.{Filter}
use Rattle.line_filter.specs.Kept.{Filters}
use Rattle.line_filter.specs.declared.tally.Tally.{Tally}
use Rattle.filter_runs.specs.declared.run_fault.RunFault.{RunFault}
use Rattle.row_judges.specs.RowJudgment.{JudgesRow, rows_of}
use Rattle.odata_filter.specs.StopsOnce.{AreSameFault, IsOfRow}
use Rattle.filter_runs.specs.RunStops.{StopsBy}
use Rattle.filter_runs.proofs.RowLemmas.RowLineJudges.{of_filter}
use Rattle.odata_filter.proofs.RowLemmas.OneFault.{same_kind, faults_once, faults_never}
use Rattle.odata_filter.proofs.laws.rows_stop_once.Goals as goal

pub lines_stop_once-requires : goal.lines_stop_once-requires
lines_stop_once-requires c =
    let judge = c.new-judge.result in
    λ line j k p q. same_kind j k (c.rows_are_judged_once.ensures.line judge.filter judge.moment line j k p q)

pub returns-clause-judged : goal.returns-clause-judged
returns-clause-judged c = c.rows_are_judged_once.ensures.line c.args.checked.now c.args.now.now

pub returns-clause-stopped : goal.returns-clause-stopped
returns-clause-stopped c =
    let judge = c.new-judge.result in
    let once = c.rows_are_judged_once.ensures.line judge.filter judge.moment in
    let Once : Filter → MomentParts → Type 0 = λ f m. (bytes text other : List ℕ) (d e : RunFault) → IsOfRow d → IsOfRow e
    → StopsBy (rows_of f m bytes) text d → StopsBy (rows_of f m bytes) other e → AreSameFault d e × (text ≡ other) in
    of_filter Once judge.filter c.args.checked.now judge.moment c.args.now.now c.new-judge.ensures.filter c.new-judge.ensures.moment
    (λ bytes. faults_once (JudgesRow judge.filter judge.moment) bytes once c.lines_stop_once.ensures.stopped)

pub returns-clause-filtered : goal.returns-clause-filtered
returns-clause-filtered c =
    let judge = c.new-judge.result in
    let Never : Filter → MomentParts → Type 0 = λ f m. (bytes text other : List ℕ) (tally : Tally) (d : RunFault)
    → Filters (rows_of f m bytes) text tally → IsOfRow d → StopsBy (rows_of f m bytes) other d → ⊥ in
    of_filter Never judge.filter c.args.checked.now judge.moment c.args.now.now c.new-judge.ensures.filter c.new-judge.ensures.moment
    (λ bytes text other tally d filters. faults_never (JudgesRow judge.filter judge.moment) bytes text (λ l n found faulty stop. c.lines_stop_once.ensures.filtered bytes text l tally n found filters faulty stop) other d)

pub returns-clause-kept : goal.returns-clause-kept
returns-clause-kept c =
    let judge = c.new-judge.result in
    let Once : Filter → MomentParts → Type 0 = λ f m. (bytes text other : List ℕ) (i j : Tally)
    → Filters (rows_of f m bytes) text i → Filters (rows_of f m bytes) other j → (text ≡ other) × (i ≡ j) in
    of_filter Once judge.filter c.args.checked.now judge.moment c.args.now.now c.new-judge.ensures.filter c.new-judge.ensures.moment c.lines_stop_once.ensures.kept
