-- The result of checking a filter, and what a filter is asked for.
use Rattle.std.specs.Prelude.{◌≡◌, ◌≢◌, ℕ, IsUtf8, List, None, Some}
use Rattle.odata_queries.specs.declared.query_fault.QueryFault.{QueryFault}
use Rattle.odata_queries.specs.Query.{IsFilterOf, IsQueryFault}
use Rattle.csdl_schema.specs.SchemaModel.{slots_of, type_name_at}
use Rattle.odata_signatures.specs.HasTyping.{HasNoTyping, HasTyping, IsRefusal, UnlessMemory}
use Rattle.odata_signatures.specs.declared.refusal.Refusal.{Refusal}
use Rattle.odata_checked_filter.specs.Explanation.{IsExplanation}
use Rattle.odata_checked_filter.specs.Filter.{tree_of_filter}
use Rattle.odata_syntax.specs.CanonicalText.{IsCanonicalText}
use Rattle.call_handles.specs.Kinds.{IsFilterKind, IsType}
use Rattle.call_handles.specs.declared.call_fault.Fault.{Fault}
use Rattle.call_handles.specs.HeldType.{EntityType}
use Rattle.call_handles.specs.declared.handle.Handle.{Handle}

-- the text is a filter of the type, and this is it, with the type's schema
abbrev pub IsFilterMade : EntityType → List ℕ → Handle → Type 0
IsFilterMade held text (Handle.Filter made) =
    (made.schema ≡ held.schema) × (made.filtered ≡ held.id)
    × HasTyping (slots_of held.schema) (type_name_at held.schema held.id) text (tree_of_filter made)
IsFilterMade held text handle = ⊥

-- the text is not a filter of the type, and why
abbrev pub IsRefused : EntityType → List ℕ → Refusal → Type 0
IsRefused held text refusal =
    UnlessMemory refusal (IsRefusal (slots_of held.schema) (type_name_at held.schema held.id) text refusal)
    × UnlessMemory refusal (HasNoTyping (slots_of held.schema) (type_name_at held.schema held.id) text)

abbrev pub IsNotMade : EntityType → List ℕ → Fault → Type 0
IsNotMade held text (Fault.Refused refusal) = IsRefused held text refusal
IsNotMade held text Fault.Memory = Unit {0}
IsNotMade held text fault = ⊥

-- the filter of a text
abbrev pub IsFilterIn : Handle → List ℕ → Handle → Type 0
IsFilterIn (Handle.Type held) text made = IsFilterMade held text made
IsFilterIn given text made = ⊥

abbrev pub IsNoFilter : Handle → List ℕ → Fault → Type 0
IsNoFilter given text Fault.OtherKind = ¬ IsType given
IsNoFilter (Handle.Type held) text Fault.NotUtf8 = ¬ IsUtf8 text
IsNoFilter (Handle.Type held) text fault = IsNotMade held text fault
IsNoFilter given text fault = ⊥

-- the filter of a query
abbrev pub IsFilterOfQuery : Handle → List ℕ → Handle → Type 0
IsFilterOfQuery (Handle.Type held) query made =
    (text : List ℕ) × IsFilterOf query (Some text) × IsFilterMade held text made
IsFilterOfQuery given query made = ⊥

abbrev pub IsNoQueryFilter : Handle → List ℕ → Fault → Type 0
IsNoQueryFilter given query Fault.OtherKind = ¬ IsType given
IsNoQueryFilter (Handle.Type held) query Fault.NoFilter = IsFilterOf query None
IsNoQueryFilter (Handle.Type held) query Fault.Memory = Unit {0}
IsNoQueryFilter (Handle.Type held) query (Fault.Query fault) = (fault ≢ QueryFault.Memory) × IsQueryFault query fault
IsNoQueryFilter (Handle.Type held) query fault =
    (text : List ℕ) × IsFilterOf query (Some text) × IsNotMade held text fault
IsNoQueryFilter given query fault = ⊥

-- a filter's canonical text, and what its nodes are
abbrev pub IsCanonicalOf : Handle → List ℕ → Type 0
IsCanonicalOf (Handle.Filter held) text = IsCanonicalText (tree_of_filter held) text
IsCanonicalOf given text = ⊥

abbrev pub IsExplanationOf : Handle → List ℕ → Type 0
IsExplanationOf (Handle.Filter held) text = IsExplanation held text
IsExplanationOf given text = ⊥

abbrev pub IsNoText : Handle → Fault → Type 0
IsNoText given Fault.OtherKind = ¬ IsFilterKind given
IsNoText (Handle.Filter held) Fault.Memory = Unit {0}
IsNoText given fault = ⊥
