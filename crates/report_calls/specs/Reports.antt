-- What each call reports of what it borrows.
use Rattle.std.specs.Prelude.{ℕ, List, codes, Ok}
use Rattle.call_handles.specs.Texts.{Reports, Writes}
use Rattle.call_handles.specs.declared.answer.Answer.{Answer}
use Rattle.call_handles.specs.declared.handle.Handle.{Handle}
use Rattle.report_calls.specs.Names.{fault_named, status_named}
use Rattle.report_calls.specs.SqlCalls.{IsNoSql, IsSqlOf}
use Rattle.report_calls.specs.TypeLines.{IsListingOf, IsNoListing}

-- the conditions of SQL, by a form and lines about the table
abbrev pub ReportsSql : Handle → ℕ → List ℕ → List ℕ → List ℕ → Answer → ℕ → Type 0
ReportsSql filter form how = Reports (IsSqlOf filter form how) (IsNoSql filter form how)

-- the types of a schema, or one type
abbrev pub ReportsTypes : Handle → List ℕ → List ℕ → Answer → ℕ → Type 0
ReportsTypes given = Reports (IsListingOf given) (IsNoListing given)

-- the version, and names of numbers
abbrev pub ReportsVersion : List ℕ → List ℕ → Answer → ℕ → Type 0
ReportsVersion = Writes (Ok (codes "0.1.0"))

abbrev pub ReportsStatus : ℕ → List ℕ → List ℕ → Answer → ℕ → Type 0
ReportsStatus status = Writes (status_named status)

abbrev pub ReportsFault : ℕ → ℕ → List ℕ → List ℕ → Answer → ℕ → Type 0
ReportsFault status fault = Writes (fault_named status fault)
