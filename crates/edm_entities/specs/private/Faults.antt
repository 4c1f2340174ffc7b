-- For private clauses: faults and paths, as the walk reports them.
use Rattle.std.specs.Prelude.{◌≡◌, ◌⊎◌, ℕ, List, [], ◌∷◌, Option, Some, None, String, string_bytes}
use Rattle.std.specs.declared.alloc.Global.{Global}
use Rattle.std.specs.List.{join_with_byte}
use Rattle.edm_entities.specs.FitsPrimitive.{Flaw, missing, wrong_kind, null_not_allowed, out_of_range, bad_text, not_expanded}
use Rattle.edm_entities.specs.RowFaults.{Path}
use Rattle.edm_entities.specs.declared.flaw.ReadFlaw.{ReadFlaw}
use Rattle.edm_entities.specs.declared.flaw.ReadFlaw.TheVariants.{Missing, WrongKind, NullNotAllowed, OutOfRange, BadText, NotExpanded, Memory}
use Rattle.edm_entities.specs.declared.flaw.ReadFault.{ReadFault}
use Rattle.edm_entities.specs.declared.row_fault.RowFault.{RowFault}
use Rattle.edm_entities.specs.declared.row_fault.RowFault.TheVariants as fault

-- P of the flaw that the code reports; running out of memory reports none
abbrev pub OnFlaw : ReadFlaw → (Flaw → Type 0) → Type 0
OnFlaw Missing P = P missing
OnFlaw WrongKind P = P wrong_kind
OnFlaw NullNotAllowed P = P null_not_allowed
OnFlaw OutOfRange P = P out_of_range
OnFlaw BadText P = P bad_text
OnFlaw NotExpanded P = P not_expanded
OnFlaw Memory P = Unit {0}

-- the text of a path; none of the path without steps
abbrev pub IsPathText : Path → Option (String Global) → Type 0
IsPathText [] None = Unit {0}
IsPathText (step ∷ path) (Some reported) = string_bytes reported ≡ join_with_byte 47 (step ∷ path)
IsPathText path reported = ⊥

-- P of the path and the flaw that the code reports
abbrev pub IsFaultOf : (Path → Flaw → Type 0) → ReadFault → Type 0
IsFaultOf P reported = OnFlaw reported.flaw (λ flaw. (path : Path) × IsPathText path reported.path × P path flaw)

-- the text of a path with one step more before it
abbrev pub IsPathBelow : List ℕ → Option (String Global) → String Global → Type 0
IsPathBelow step reported result = (path : Path) → IsPathText path reported → IsPathText (step ∷ path) (Some result)

-- the same fault, reported from a step further up; running out of memory comes from anywhere
abbrev pub IsBelow : List ℕ → ReadFault → ReadFault → Type 0
IsBelow step reported result =
    (result.flaw ≡ Memory)
    ⊎ ((result.flaw ≡ reported.flaw)
    × ((path : Path) → IsPathText path reported.path → IsPathText (step ∷ path) result.path))

-- the fault of a row, from that of its value
abbrev pub IsReportedAs : ReadFault → RowFault → Type 0
IsReportedAs reported fault.NotObject = (reported.path ≡ None) × (¬ (reported.flaw ≡ Memory))
IsReportedAs reported (fault.Missing path) = (reported.flaw ≡ Missing) × (reported.path ≡ Some path)
IsReportedAs reported (fault.WrongKind path) = (reported.flaw ≡ WrongKind) × (reported.path ≡ Some path)
IsReportedAs reported (fault.NullNotAllowed path) = (reported.flaw ≡ NullNotAllowed) × (reported.path ≡ Some path)
IsReportedAs reported (fault.OutOfRange path) = (reported.flaw ≡ OutOfRange) × (reported.path ≡ Some path)
IsReportedAs reported (fault.BadText path) = (reported.flaw ≡ BadText) × (reported.path ≡ Some path)
IsReportedAs reported (fault.NotExpanded path) = (reported.flaw ≡ NotExpanded) × (reported.path ≡ Some path)
IsReportedAs reported fault.Memory = reported.flaw ≡ Memory
