-- The outcome of a text, from that of a handle and its bytes, or of a query.
use Rattle.std.proofs.Common.{◌≡◌, ℕ, List, Result, Ok, Err, MatchResult, Some, sym, subst}
use Rattle.odata_queries.specs.Query.{IsFilterOf}
use Rattle.handle_calls.specs.FilterCalls.{IsFilterIn, IsFilterMade, IsFilterOfQuery, IsNoFilter, IsNoQueryFilter, IsNotMade}
use Rattle.call_handles.specs.declared.call_fault.Fault.{Fault}
use Rattle.call_handles.specs.declared.handle.Handle.{Handle}
use Rattle.call_handles.specs.HeldType.{EntityType}

-- why a text is not a filter of a type is why it is none of the type's handle
no_filter : (held : EntityType) (text : List ℕ) (fault : Fault) → IsNotMade held text fault → IsNoFilter (Handle.Type held) text fault
no_filter held text Fault.OtherKind wrong = absurd wrong
no_filter held text Fault.NotUtf8 wrong = absurd wrong
no_filter held text Fault.Memory wrong = wrong
no_filter held text Fault.UnknownType wrong = wrong
no_filter held text Fault.NoFilter wrong = wrong
no_filter held text Fault.MomentNeeded wrong = wrong
no_filter held text Fault.NotAMoment wrong = wrong
no_filter held text Fault.UnknownNumber wrong = wrong
no_filter held text (Fault.TooSmall wanted) wrong = wrong
no_filter held text (Fault.Schema why) wrong = wrong
no_filter held text (Fault.Refused why) wrong = wrong
no_filter held text (Fault.Query why) wrong = wrong
no_filter held text (Fault.Whole why) wrong = wrong
no_filter held text (Fault.Json line) wrong = wrong
no_filter held text (Fault.Row line why) wrong = wrong
no_filter held text (Fault.Evaluation line why) wrong = wrong
no_filter held text (Fault.LineTooLong line) wrong = wrong
no_filter held text (Fault.TooCostly line) wrong = wrong
no_filter held text Fault.Unsayable wrong = wrong
no_filter held text Fault.TooDeep wrong = wrong
no_filter held text Fault.UnknownColumn wrong = wrong

pub of_text : (given : Handle) (held : EntityType) (text : List ℕ) (result : Result Handle Fault) → given ≡ Handle.Type held
    → MatchResult result (IsFilterMade held text) (IsNotMade held text) → MatchResult result (IsFilterIn given text) (IsNoFilter given text)
of_text given held text (Ok made) is right = subst (λ (g : Handle). IsFilterIn g text made) (sym is) right
of_text given held text (Err fault) is wrong = subst (λ (g : Handle). IsNoFilter g text fault) (sym is) (no_filter held text fault wrong)

-- likewise of the query that has that text for its filter
no_query : (held : EntityType) (query text : List ℕ) (fault : Fault) → IsFilterOf query (Some text) → IsNotMade held text fault
    → IsNoQueryFilter (Handle.Type held) query fault
no_query held query text Fault.OtherKind filter wrong = absurd wrong
no_query held query text Fault.NotUtf8 filter wrong = absurd wrong
no_query held query text Fault.Memory filter wrong = tt
no_query held query text Fault.UnknownType filter wrong = absurd wrong
no_query held query text Fault.NoFilter filter wrong = absurd wrong
no_query held query text Fault.MomentNeeded filter wrong = absurd wrong
no_query held query text Fault.NotAMoment filter wrong = absurd wrong
no_query held query text Fault.UnknownNumber filter wrong = absurd wrong
no_query held query text (Fault.TooSmall wanted) filter wrong = absurd wrong
no_query held query text (Fault.Schema why) filter wrong = absurd wrong
no_query held query text (Fault.Refused why) filter wrong = (text, filter, wrong)
no_query held query text (Fault.Query why) filter wrong = absurd wrong
no_query held query text (Fault.Whole why) filter wrong = absurd wrong
no_query held query text (Fault.Json line) filter wrong = absurd wrong
no_query held query text (Fault.Row line why) filter wrong = absurd wrong
no_query held query text (Fault.Evaluation line why) filter wrong = absurd wrong
no_query held query text (Fault.LineTooLong line) filter wrong = absurd wrong
no_query held query text (Fault.TooCostly line) filter wrong = absurd wrong
no_query held query text Fault.Unsayable filter wrong = absurd wrong
no_query held query text Fault.TooDeep filter wrong = absurd wrong
no_query held query text Fault.UnknownColumn filter wrong = absurd wrong

pub of_query : (given : Handle) (held : EntityType) (query text : List ℕ) (result : Result Handle Fault) → given ≡ Handle.Type held
    → IsFilterOf query (Some text) → MatchResult result (IsFilterMade held text) (IsNotMade held text)
    → MatchResult result (IsFilterOfQuery given query) (IsNoQueryFilter given query)
of_query given held query text (Ok made) is filter right = subst (λ (g : Handle). IsFilterOfQuery g query made) (sym is) (text, filter, right)
of_query given held query text (Err fault) is filter wrong =
    subst (λ (g : Handle). IsNoQueryFilter g query fault) (sym is) (no_query held query text fault filter wrong)
