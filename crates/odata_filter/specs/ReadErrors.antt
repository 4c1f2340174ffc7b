-- What an error says of a reader that was not read whole.
use Rattle.line_filter.specs.declared.call_log.CallLog.{CallLog}
use Rattle.line_filter.specs.CallLogs.{StaysWell, FailsLast}
use Rattle.odata_filter.specs.declared.command.whole_input.ReadAllError.{ReadAllError}

-- which reads were made by then: at Read the last one failed, at Memory each did its work
abbrev pub ReadsUntilError : CallLog → CallLog → ReadAllError → Type 0
ReadsUntilError old new ReadAllError.Read = FailsLast old new
ReadsUntilError old new ReadAllError.Memory = StaysWell old new
