-- What each call reports of what it borrows.
use Rattle.std.specs.Prelude.{◌≡◌, ◌++◌, ◌⊎◌, ℕ, List, length, Option, None, Some, Result, Ok, Err, MatchResult}
use Rattle.csdl_declarations.specs.declared.schema_fault.SchemaFault.{SchemaFault}
use Rattle.call_handles.specs.Answers.{fault_answer, fault_status}
use Rattle.handle_calls.specs.FilterCalls.{IsCanonicalOf, IsExplanationOf, IsFilterIn, IsFilterOfQuery, IsNoFilter, IsNoQueryFilter, IsNoText}
use Rattle.call_handles.specs.Outcomes.{Gives, Makes}
use Rattle.handle_calls.specs.SchemaCalls.{IsNoSchema, IsNoType, IsSchemaOf, IsTypeOf, first_name, second_name}
use Rattle.call_handles.specs.Texts.{IsTooSmall, IsWritten, Reports}
use Rattle.call_handles.specs.declared.answer.Answer.{Answer}
use Rattle.call_handles.specs.declared.call_fault.Fault.{Fault}
use Rattle.call_handles.specs.declared.handle.Handle.{Handle}
use Rattle.call_handles.specs.declared.owned.Owned.{Owned}

-- the names that a schema's fault carries, one after the other, and how long both and the first are
pub record ReportsNames (fault : SchemaFault) (old new : List ℕ) (answer : Answer) : Type 0 where
  pub reported : answer ≡ record (fault_answer (Fault.Schema fault))
      { length = length (first_name fault ++ second_name fault); first = length (first_name fault) }
  pub names : IsWritten (first_name fault ++ second_name fault) old new
      ⊎ IsTooSmall (first_name fault ++ second_name fault) old new

-- of a schema's fault the names are reported too; of anything else none
abbrev pub GivesSchema : Result Handle Fault → List ℕ → List ℕ → Option Handle → Answer → ℕ → Type 0
GivesSchema (Err (Fault.Schema fault)) old new made answer status =
    (made ≡ None) × (status ≡ fault_status (Fault.Schema fault)) × ReportsNames fault old new answer
GivesSchema outcome old new made answer status = (new ≡ old) × Gives outcome made answer status

-- reading a schema
pub record ReadsSchema (document names names' : List ℕ) (schema : Owned) (answer : Answer) (status : ℕ) : Type 0 where
  pub outcome : Result Handle Fault
  pub right : MatchResult outcome (IsSchemaOf document) (IsNoSchema document)
  pub gives : GivesSchema outcome names names' schema.value answer status

-- finding a type, which has no answer of its own
pub record FindsType (schema : Handle) (name : List ℕ) (made : Owned) (status : ℕ) : Type 0 where
  pub answer : Answer
  pub makes : Makes (IsTypeOf schema name) (IsNoType schema name) made.value answer status

-- checking a filter, and that of a query
abbrev pub ChecksText : Handle → List ℕ → Owned → Answer → ℕ → Type 0
ChecksText given text made = Makes (IsFilterIn given text) (IsNoFilter given text) made.value

abbrev pub ChecksQuery : Handle → List ℕ → Owned → Answer → ℕ → Type 0
ChecksQuery given query made = Makes (IsFilterOfQuery given query) (IsNoQueryFilter given query) made.value

-- the canonical text, and what the nodes are
abbrev pub ReportsCanonical : Handle → List ℕ → List ℕ → Answer → ℕ → Type 0
ReportsCanonical filter = Reports (IsCanonicalOf filter) (IsNoText filter)

abbrev pub ReportsNodes : Handle → List ℕ → List ℕ → Answer → ℕ → Type 0
ReportsNodes filter = Reports (IsExplanationOf filter) (IsNoText filter)

-- freeing: what was held is gone, and no handle is there any more
abbrev pub free_status : Option Handle → ℕ
free_status (Some handle) = 0
free_status None = 1

abbrev pub Frees : Owned → Owned → ℕ → Type 0
Frees old new status = (new.value ≡ None) × (status ≡ free_status old.value)
