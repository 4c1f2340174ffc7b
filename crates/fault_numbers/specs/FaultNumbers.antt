-- The numbers and names of faults, for callers that have no enums. Names are those by which the faults are shown.
use Rattle.std.specs.Prelude.{ℕ, zero, suc, List, [], ◌∷◌, Option, Some, None, codes, slice_get, option_and_then, string_bytes}
use Rattle.std.specs.Option.{option_map}
use Rattle.csdl_declarations.specs.declared.schema_fault.SchemaFault.{SchemaFault}
use Rattle.odata_queries.specs.declared.query_fault.QueryFault.{QueryFault}
use Rattle.odata_text.specs.declared.text_fault.TextFault.{TextFault}
use Rattle.odata_text.specs.declared.span.Span.{Span}
use Rattle.odata_syntax.specs.declared.syntax_fault.SyntaxFault.{SyntaxFault}
use Rattle.odata_signatures.specs.declared.refusal.Refusal.{Refusal}
use Rattle.odata_signatures.specs.declared.refusal.TypeFaultCode.{TypeFaultCode}
use Rattle.edm_entities.specs.FitsPrimitive.{Flaw, missing, wrong_kind, null_not_allowed, out_of_range, bad_text, not_expanded}
use Rattle.edm_entities.specs.declared.row_fault.RowFault.{RowFault}
use Rattle.odata_filter_operations.specs.declared.eval_fault.EvalFault.{EvalFault}
use Rattle.fault_numbers.specs.declared.fault_number.FaultKind.{FaultKind}

-- why a document is not a schema
abbrev pub schema_number : SchemaFault → ℕ
schema_number SchemaFault.NotJson = 1
schema_number SchemaFault.NotObject = 2
schema_number SchemaFault.Version = 3
schema_number (SchemaFault.BadType name) = 4
schema_number (SchemaFault.BadProperty owner name) = 5
schema_number (SchemaFault.UnknownBase owner) = 6
schema_number (SchemaFault.BaseCycle owner) = 7
schema_number (SchemaFault.PropertyTwice owner name) = 8
schema_number (SchemaFault.BadEnumMember owner name) = 9
schema_number SchemaFault.TooLarge = 10
schema_number SchemaFault.Memory = 11

-- why a query has no filter to give
abbrev pub query_number : QueryFault → ℕ
query_number (QueryFault.BadEscape place) = 1
query_number (QueryFault.NotUtf8 option) = 2
query_number (QueryFault.Repeated option) = 3
query_number (QueryFault.OtherOption option) = 4
query_number QueryFault.Memory = 5

-- why a text has no tokens
abbrev pub text_number : TextFault → ℕ
text_number (TextFault.BadCharacter span) = 1
text_number (TextFault.UnclosedString span) = 2
text_number (TextFault.LeftOutLiteral span) = 3
text_number (TextFault.RunOn span) = 4
text_number (TextFault.TooLong span) = 5
text_number TextFault.Memory = 6

-- why tokens are no expression
abbrev pub syntax_number : SyntaxFault → ℕ
syntax_number (SyntaxFault.Unexpected span) = 1
syntax_number (SyntaxFault.TooDeep span) = 2
syntax_number SyntaxFault.Memory = 3

-- why a node has no type
abbrev pub type_number : TypeFaultCode → ℕ
type_number TypeFaultCode.UnknownProperty = 1
type_number TypeFaultCode.UnknownFunction = 2
type_number TypeFaultCode.ArgumentCount = 3
type_number TypeFaultCode.ArgumentType = 4
type_number TypeFaultCode.OperandTypes = 5
type_number TypeFaultCode.NotCollection = 6
type_number TypeFaultCode.VariableTaken = 7
type_number TypeFaultCode.BodyNotBoolean = 8
type_number TypeFaultCode.LiteralRange = 9
type_number TypeFaultCode.UnknownEnum = 10
type_number TypeFaultCode.TypeLeftOut = 11
type_number TypeFaultCode.NotBoolean = 12

-- why a row is not an entity of its type
abbrev pub row_number : RowFault → ℕ
row_number RowFault.NotObject = 1
row_number (RowFault.Missing path) = 2
row_number (RowFault.WrongKind path) = 3
row_number (RowFault.NullNotAllowed path) = 4
row_number (RowFault.OutOfRange path) = 5
row_number (RowFault.BadText path) = 6
row_number RowFault.Memory = 7
row_number (RowFault.NotExpanded path) = 8

-- why a filter has no value
abbrev pub evaluation_number : EvalFault → ℕ
evaluation_number EvalFault.Overflow = 1
evaluation_number EvalFault.DivideByZero = 2
evaluation_number EvalFault.Memory = 3

-- the names of a kind's faults in the order of their numbers; running out of memory has none, or the empty one where
-- others follow
abbrev pub names_of : FaultKind → List (List ℕ)
names_of FaultKind.Schema =
    codes "NotJson" ∷ codes "NotObject" ∷ codes "Version" ∷ codes "BadType" ∷ codes "BadProperty"
    ∷ codes "UnknownBase" ∷ codes "BaseCycle" ∷ codes "PropertyTwice" ∷ codes "BadEnumMember" ∷ codes "TooLarge" ∷ []
names_of FaultKind.Query =
    codes "BadEscape" ∷ codes "NotUtf8" ∷ codes "Repeated" ∷ codes "OtherOption" ∷ []
names_of FaultKind.Text =
    codes "BadCharacter" ∷ codes "UnclosedString" ∷ codes "LeftOutLiteral" ∷ codes "RunOn" ∷ codes "TooLong" ∷ []
names_of FaultKind.Syntax = codes "Unexpected" ∷ codes "TooDeep" ∷ []
names_of FaultKind.Typing =
    codes "UnknownProperty" ∷ codes "UnknownFunction" ∷ codes "ArgumentCount" ∷ codes "ArgumentType"
    ∷ codes "OperandTypes" ∷ codes "NotCollection" ∷ codes "VariableTaken" ∷ codes "BodyNotBoolean"
    ∷ codes "LiteralRange" ∷ codes "UnknownEnum" ∷ codes "TypeLeftOut" ∷ codes "NotBoolean" ∷ []
names_of FaultKind.Row =
    codes "NotObject" ∷ codes "Missing" ∷ codes "WrongKind" ∷ codes "NullNotAllowed" ∷ codes "OutOfRange"
    ∷ codes "BadText" ∷ [] ∷ codes "NotExpanded" ∷ []
names_of FaultKind.Evaluation = codes "Overflow" ∷ codes "DivideByZero" ∷ []

abbrev pub unless_empty : List ℕ → Option (List ℕ)
unless_empty [] = None
unless_empty (letter ∷ letters) = Some (letter ∷ letters)

-- the name of a number, counted from 1
abbrev pub name_at : List (List ℕ) → ℕ → Option (List ℕ)
name_at names zero = None
name_at names (suc place) = option_and_then unless_empty (slice_get names place)

-- where in its text a filter is refused
abbrev pub span_reported : Refusal → Option Span
span_reported (Refusal.Text (TextFault.BadCharacter span)) = Some span
span_reported (Refusal.Text (TextFault.UnclosedString span)) = Some span
span_reported (Refusal.Text (TextFault.LeftOutLiteral span)) = Some span
span_reported (Refusal.Text (TextFault.RunOn span)) = Some span
span_reported (Refusal.Text (TextFault.TooLong span)) = Some span
span_reported (Refusal.Syntax (SyntaxFault.Unexpected span)) = Some span
span_reported (Refusal.Syntax (SyntaxFault.TooDeep span)) = Some span
span_reported (Refusal.Typing fault) = Some fault.span
span_reported refusal = None

-- the bytes of a fault's path and what is wrong there; a row that is not an object has no path, and running out of
-- memory, which is not a fault of a row, has neither
abbrev pub flaw_reported : RowFault → Option (List ℕ × Flaw)
flaw_reported RowFault.NotObject = None
flaw_reported (RowFault.Missing path) = Some (string_bytes path, missing)
flaw_reported (RowFault.WrongKind path) = Some (string_bytes path, wrong_kind)
flaw_reported (RowFault.NullNotAllowed path) = Some (string_bytes path, null_not_allowed)
flaw_reported (RowFault.OutOfRange path) = Some (string_bytes path, out_of_range)
flaw_reported (RowFault.BadText path) = Some (string_bytes path, bad_text)
flaw_reported RowFault.Memory = None
flaw_reported (RowFault.NotExpanded path) = Some (string_bytes path, not_expanded)

-- the bytes of the path to a row's fault
abbrev pub path_reported : RowFault → Option (List ℕ)
path_reported fault = option_map (λ reported. reported.0) (flaw_reported fault)
