-- Which faults have a sentence.
use Rattle.std.specs.Prelude.{◌≡◌, ℕ, Bool, false, IsTrue, IsUtf8, List, [], ◌∷◌, Option, None, Some}
use Rattle.fault_sentences.specs.Numbers.{is_known}
use Rattle.fault_sentences.specs.declared.fault_class.FaultClass.{FaultClass}
use Rattle.call_handles.specs.Kinds.{IsType}
use Rattle.report_calls.specs.Names.{beside}
use Rattle.call_handles.specs.Texts.{Reports}
use Rattle.call_handles.specs.declared.answer.Answer.{Answer}
use Rattle.call_handles.specs.declared.call_fault.Fault.{Fault}
use Rattle.call_handles.specs.declared.handle.Handle.{Handle}

-- what is at fault under a status
abbrev pub classes : List (ℕ × FaultClass)
classes =
    (6, FaultClass.UnknownType)
    ∷ (7, FaultClass.NoFilter)
    ∷ (8, FaultClass.MomentNeeded)
    ∷ (9, FaultClass.NotAMoment)
    ∷ (16, FaultClass.Schema)
    ∷ (17, FaultClass.Text)
    ∷ (18, FaultClass.Syntax)
    ∷ (19, FaultClass.Typing)
    ∷ (20, FaultClass.Query)
    ∷ (21, FaultClass.Json)
    ∷ (22, FaultClass.Row)
    ∷ (23, FaultClass.Evaluation)
    ∷ (24, FaultClass.Line)
    ∷ (25, FaultClass.TooCostly)
    ∷ (26, FaultClass.Unsayable)
    ∷ (27, FaultClass.TooDeep)
    ∷ (28, FaultClass.UnknownColumn) ∷ []

abbrev pub class_under : ℕ → Option FaultClass
class_under status = beside classes status

-- some fault under the status has that number
abbrev pub is_known_in : Option FaultClass → ℕ → Bool
is_known_in (Some class) number = is_known class number
is_known_in None number = false

abbrev pub has_fault : ℕ → ℕ → Bool
has_fault status number = is_known_in (class_under status) number

-- why there is no sentence: no such fault, or a text that is none
abbrev pub IsNoSentence : ℕ → ℕ → List ℕ → Fault → Type 0
IsNoSentence status number text Fault.UnknownNumber = has_fault status number ≡ false
IsNoSentence status number text Fault.NotUtf8 = ¬ IsUtf8 text
IsNoSentence status number text Fault.Memory = Unit {0}
IsNoSentence status number text fault = ⊥

-- a sentence about a fault
abbrev pub ReportsSentence : ℕ → List ℕ → List ℕ → List ℕ → Answer → Answer → ℕ → Type 0
ReportsSentence status text old new fault =
    Reports (λ sentence. IsTrue (has_fault status fault.fault)) (IsNoSentence status fault.fault text) old new

-- likewise for a type
abbrev pub IsSentenceFor : Handle → ℕ → ℕ → Type 0
IsSentenceFor (Handle.Type held) status number = IsTrue (has_fault status number)
IsSentenceFor given status number = ⊥

abbrev pub IsNoSentenceFor : Handle → ℕ → ℕ → List ℕ → Fault → Type 0
IsNoSentenceFor given status number text Fault.OtherKind = ¬ IsType given
IsNoSentenceFor (Handle.Type held) status number text fault = IsNoSentence status number text fault
IsNoSentenceFor given status number text fault = ⊥

abbrev pub ReportsSentenceFor : Handle → ℕ → List ℕ → List ℕ → List ℕ → Answer → Answer → ℕ → Type 0
ReportsSentenceFor given status text old new fault =
    Reports (λ sentence. IsSentenceFor given status fault.fault) (IsNoSentenceFor given status fault.fault text) old new
