-- What a run says that passes over rows at fault.
use Rattle.std.specs.Prelude.{List, ℕ}
use Rattle.command_plan.specs.declared.command_line.Plan.{Plan}
use Rattle.command_plan.specs.declared.command_line.Verb.TheVariants.{Filter as ByRows}
use Rattle.edm_values.specs.MomentParts.{MomentParts}
use Rattle.line_filter.specs.LineItems.{lines}
use Rattle.line_filter.specs.PastFaults.{KeepsPastFaults, past_faults}
use Rattle.line_filter.specs.declared.tally.Tally.{Tally}
use Rattle.odata_checked_filter.specs.Filter.{Filter}
use Rattle.odata_filter.specs.Run.{IsReady, OverRows, Status, StatusSays, StopsAtFault, Streams, at_fault}
use Rattle.row_judges.specs.RowJudgment.{JudgesRow, rows_of}

-- The plan's text is a filter, and what was written is the text of the rows that it keeps, in their order, whatever is
-- found of the others; the tally counts both.
pub record FiltersPastFaults (plan : Plan) (document : List ℕ) (streams : Streams) (tally : Tally) : Type 0 where
  pub filter : Filter
  pub now : MomentParts
  pub is_ready : IsReady plan document filter now
  pub written : OverRows streams (λ bytes text. KeepsPastFaults (rows_of filter now bytes) text tally)

-- The plan's text is a filter, some row is at fault, and the text is that of the kept ones before it, where rows at
-- fault may have been passed over.
pub record StopsPastFaults (plan : Plan) (document : List ℕ) (streams : Streams) : Type 0 where
  pub filter : Filter
  pub now : MomentParts
  pub is_ready : IsReady plan document filter now
  pub written : OverRows streams (λ bytes text.
      StopsAtFault (List ℕ) (lines (past_faults (JudgesRow filter now)) bytes) text)

-- what a status says of such a run that failed: of a row at fault that, else what it says of any run over rows
abbrev pub FailsPastFaults : Status → Plan → List ℕ → Streams → Type 0
FailsPastFaults at_fault plan document streams = StopsPastFaults plan document streams
FailsPastFaults status plan document streams = StatusSays status ByRows plan document streams
