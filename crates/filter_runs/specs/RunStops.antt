-- What a fault of a run over rows says.
use Rattle.std.specs.Prelude.{ℕ, List, Option, Some, None, IsSomeAnd}
use Rattle.line_filter.specs.Kept.{Items, Stops}
use Rattle.line_filter.specs.declared.run_stop.RunStop.{RunStop}
use Rattle.row_judges.specs.declared.bad_row.BadRow.{BadRow}
use Rattle.filter_runs.specs.declared.run_fault.RunFault.{RunFault}

-- the stop that it reports; none where a document is not a collection
abbrev pub run_stop : RunFault → Option (RunStop BadRow)
run_stop (RunFault.Json line) = Some (RunStop.Fault line BadRow.NotJson)
run_stop (RunFault.Row line fault) = Some (RunStop.Fault line (BadRow.NoEntity fault))
run_stop (RunFault.Arithmetic line fault) = Some (RunStop.Fault line (BadRow.NoValue fault))
run_stop (RunFault.LineTooLong line) = Some (RunStop.TooLong line)
run_stop RunFault.NotACollection = None
run_stop (RunFault.Read line) = Some (RunStop.Read line)
run_stop RunFault.Write = Some RunStop.Write
run_stop (RunFault.Memory line) = Some (RunStop.Memory line)

-- it reports a stop, and that says this of the rows and of the text that was written
abbrev pub StopsBy : {X : Type 0} → Items X BadRow → List ℕ → RunFault → Type 0
StopsBy rows text fault = IsSomeAnd (run_stop fault) (Stops rows text)
