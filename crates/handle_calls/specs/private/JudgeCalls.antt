-- The fault of a row that is judged by itself.
use Rattle.std.specs.Prelude.{if◌then◌else◌}
use Rattle.row_judges.specs.RowAnswer.{is_memory}
use Rattle.row_judges.specs.declared.bad_row.BadRow.{BadRow}
use Rattle.call_handles.specs.declared.call_fault.Fault.{Fault}

-- a row by itself has no line, which is reported as 0
abbrev pub fault_at_no_line : BadRow → Fault
fault_at_no_line BadRow.NotJson = Fault.Json 0
fault_at_no_line (BadRow.NoEntity fault) = Fault.Row 0 fault
fault_at_no_line (BadRow.NoValue fault) = Fault.Evaluation 0 fault

-- running out of memory is no fault of the row
abbrev pub row_fault : BadRow → Fault
row_fault bad = if is_memory bad then Fault.Memory else fault_at_no_line bad
