-- The names of statuses, and of the faults under them.
use Rattle.std.specs.Prelude.{ℕ, ◌&&◌, List, [], ◌∷◌, cond, eqb, codes, Option, None, Some, Result, Ok, Err}
use Rattle.fault_numbers.specs.FaultNumbers.{name_at, names_of}
use Rattle.fault_numbers.specs.declared.fault_number.FaultKind.{FaultKind}
use Rattle.call_handles.specs.declared.call_fault.Fault.{Fault}

-- what a list has for a number
abbrev pub beside : {X : Type 0} → List (ℕ × X) → ℕ → Option X
beside [] number = None
beside (row ∷ rows) number = cond (eqb number row.0) (Some row.1) (beside rows number)

-- the names of the statuses
abbrev pub statuses : List (ℕ × List ℕ)
statuses =
    (0, codes "OK")
    ∷ (1, codes "NULL")
    ∷ (2, codes "OTHER_KIND")
    ∷ (3, codes "NOT_UTF8")
    ∷ (4, codes "TOO_SMALL")
    ∷ (5, codes "MEMORY")
    ∷ (6, codes "UNKNOWN_TYPE")
    ∷ (7, codes "NO_FILTER")
    ∷ (8, codes "MOMENT_NEEDED")
    ∷ (9, codes "NOT_A_MOMENT")
    ∷ (10, codes "UNKNOWN_NUMBER")
    ∷ (16, codes "SCHEMA_FAULT")
    ∷ (17, codes "TEXT_FAULT")
    ∷ (18, codes "SYNTAX_FAULT")
    ∷ (19, codes "TYPE_FAULT")
    ∷ (20, codes "QUERY_FAULT")
    ∷ (21, codes "JSON_FAULT")
    ∷ (22, codes "ROW_FAULT")
    ∷ (23, codes "EVAL_FAULT")
    ∷ (24, codes "LINE_TOO_LONG")
    ∷ (25, codes "TOO_COSTLY")
    ∷ (26, codes "UNSAYABLE")
    ∷ (27, codes "TOO_DEEP")
    ∷ (28, codes "UNKNOWN_COLUMN") ∷ []

-- what has numbered faults under a status
abbrev pub kinds : List (ℕ × FaultKind)
kinds =
    (16, FaultKind.Schema)
    ∷ (17, FaultKind.Text)
    ∷ (18, FaultKind.Syntax)
    ∷ (19, FaultKind.Typing)
    ∷ (20, FaultKind.Query)
    ∷ (22, FaultKind.Row)
    ∷ (23, FaultKind.Evaluation) ∷ []

abbrev pub kind_under : ℕ → Option FaultKind
kind_under status = beside kinds status

-- a name, or that there is none of the number
abbrev pub named : Option (List ℕ) → Result (List ℕ) Fault
named (Some name) = Ok name
named None = Err Fault.UnknownNumber

-- the statuses with one fault each, which has the number 0, and its name
abbrev pub lone_faults : List (ℕ × List ℕ)
lone_faults =
    (6, codes "UnknownType")
    ∷ (7, codes "NoFilter")
    ∷ (8, codes "MomentNeeded")
    ∷ (9, codes "NotAMoment")
    ∷ (21, codes "Json")
    ∷ (24, codes "LineTooLong")
    ∷ (25, codes "TooCostly")
    ∷ (26, codes "Nul")
    ∷ (27, codes "TooDeep")
    ∷ (28, codes "UnknownColumn") ∷ []

abbrev pub lone_named : ℕ → ℕ → Result (List ℕ) Fault
lone_named status fault = cond (eqb fault 0) (named (beside lone_faults status)) (Err Fault.UnknownNumber)

-- the name of a fault of a kind, and under a status; the fifth of a query is one of whole queries alone
abbrev pub kind_named : Option FaultKind → ℕ → ℕ → Result (List ℕ) Fault
kind_named (Some kind) status fault = named (name_at (names_of kind) fault)
kind_named None status fault = lone_named status fault

abbrev pub fault_named : ℕ → ℕ → Result (List ℕ) Fault
fault_named status fault =
    cond (eqb status 20 && eqb fault 5) (Ok (codes "Disguised")) (kind_named (kind_under status) status fault)

-- the name of a status
abbrev pub status_named : ℕ → Result (List ℕ) Fault
status_named status = named (beside statuses status)
