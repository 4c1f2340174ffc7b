-- What is reported about a fault: the status and the numbers, as the header of the library has them.
use Rattle.std.specs.Prelude.{ℕ, List, [], length, Option, None, Some}
use Rattle.odata_queries.specs.declared.find_fault.FindFault.{FindFault}
use Rattle.odata_queries.specs.declared.query_fault.QueryFault.{QueryFault}
use Rattle.odata_text.specs.declared.span.Span.{Span}
use Rattle.odata_signatures.specs.declared.refusal.Refusal.{Refusal}
use Rattle.edm_entities.specs.declared.row_fault.RowFault.{RowFault}
use Rattle.fault_numbers.specs.FaultNumbers.{evaluation_number, path_reported, query_number, row_number, schema_number, span_reported, syntax_number, text_number, type_number}
use Rattle.call_handles.specs.declared.answer.Answer.{Answer}
use Rattle.call_handles.specs.declared.call_fault.Fault.{Fault}

-- an answer that reports nothing
abbrev pub empty_answer : Answer
empty_answer = record {
  fault = 0;
  verdict = 0;
  start = 0;
  stop = 0;
  number = 0;
  length = 0;
  first = 0;
  rows = 0;
  kept = 0;
  piece_start = 0;
  piece_stop = 0;
  value_start = 0;
  value_stop = 0;
}

-- the status of a refusal: which step refused the text
abbrev pub refusal_status : Refusal → ℕ
refusal_status (Refusal.Text fault) = 17
refusal_status (Refusal.Syntax fault) = 18
refusal_status (Refusal.Typing fault) = 19
refusal_status Refusal.Memory = 5

-- its number among the faults of that step
abbrev pub refusal_number : Refusal → ℕ
refusal_number (Refusal.Text fault) = text_number fault
refusal_number (Refusal.Syntax fault) = syntax_number fault
refusal_number (Refusal.Typing fault) = type_number fault.code
refusal_number Refusal.Memory = 0

-- where a filter's text is at fault; nowhere is 0 to 0
abbrev pub span_start : Option Span → ℕ
span_start (Some span) = span.start
span_start None = 0

abbrev pub span_stop : Option Span → ℕ
span_stop (Some span) = span.stop
span_stop None = 0

-- the number that a query's fault carries
abbrev pub query_place : QueryFault → ℕ
query_place (QueryFault.BadEscape place) = place
query_place (QueryFault.NotUtf8 option) = option
query_place (QueryFault.Repeated option) = option
query_place (QueryFault.OtherOption option) = option
query_place QueryFault.Memory = 0

-- the number of a whole query's fault, and the number that it carries
abbrev pub find_number : FindFault → ℕ
find_number (FindFault.BadEscape place) = 1
find_number (FindFault.NotUtf8 option) = 2
find_number (FindFault.Repeated option) = 3
find_number (FindFault.Disguised option) = 5
find_number FindFault.Memory = 0

abbrev pub find_place : FindFault → ℕ
find_place (FindFault.BadEscape place) = place
find_place (FindFault.NotUtf8 option) = option
find_place (FindFault.Repeated option) = option
find_place (FindFault.Disguised option) = option
find_place FindFault.Memory = 0

-- the path of a row's fault, or no bytes
abbrev pub path_or_none : Option (List ℕ) → List ℕ
path_or_none (Some path) = path
path_or_none None = []

abbrev pub path_bytes : RowFault → List ℕ
path_bytes fault = path_or_none (path_reported fault)

-- the status that reports a fault
abbrev pub fault_status : Fault → ℕ
fault_status Fault.OtherKind = 2
fault_status Fault.NotUtf8 = 3
fault_status (Fault.TooSmall wanted) = 4
fault_status Fault.Memory = 5
fault_status Fault.UnknownType = 6
fault_status Fault.NoFilter = 7
fault_status Fault.MomentNeeded = 8
fault_status Fault.NotAMoment = 9
fault_status Fault.UnknownNumber = 10
fault_status (Fault.Schema fault) = 16
fault_status (Fault.Refused refusal) = refusal_status refusal
fault_status (Fault.Query fault) = 20
fault_status (Fault.Whole fault) = 20
fault_status (Fault.Json line) = 21
fault_status (Fault.Row line fault) = 22
fault_status (Fault.Evaluation line fault) = 23
fault_status (Fault.LineTooLong line) = 24
fault_status (Fault.TooCostly line) = 25
fault_status Fault.Unsayable = 26
fault_status Fault.TooDeep = 27
fault_status Fault.UnknownColumn = 28

-- and what is reported in addition
abbrev pub fault_answer : Fault → Answer
fault_answer Fault.OtherKind = empty_answer
fault_answer Fault.NotUtf8 = empty_answer
fault_answer (Fault.TooSmall wanted) = record empty_answer { length = wanted }
fault_answer Fault.Memory = empty_answer
fault_answer Fault.UnknownType = empty_answer
fault_answer Fault.NoFilter = empty_answer
fault_answer Fault.MomentNeeded = empty_answer
fault_answer Fault.NotAMoment = empty_answer
fault_answer Fault.UnknownNumber = empty_answer
fault_answer (Fault.Schema fault) = record empty_answer { fault = schema_number fault }
fault_answer (Fault.Refused refusal) = record empty_answer {
  fault = refusal_number refusal;
  start = span_start (span_reported refusal);
  stop = span_stop
      (span_reported refusal);
}
fault_answer (Fault.Query fault) = record empty_answer { fault = query_number fault; number = query_place fault }
fault_answer (Fault.Whole fault) = record empty_answer { fault = find_number fault; number = find_place fault }
fault_answer (Fault.Json line) = record empty_answer { number = line }
fault_answer (Fault.Row line fault) = record empty_answer
    { fault = row_number fault; number = line; length = length (path_bytes fault) }
fault_answer (Fault.Evaluation line fault) = record empty_answer { fault = evaluation_number fault; number = line }
fault_answer (Fault.LineTooLong line) = record empty_answer { number = line }
fault_answer (Fault.TooCostly line) = record empty_answer { number = line }
fault_answer Fault.Unsayable = empty_answer
fault_answer Fault.TooDeep = empty_answer
fault_answer Fault.UnknownColumn = empty_answer
