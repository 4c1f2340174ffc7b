use Rattle.std.proofs.Common.{◌≡◌, Result, Ok, Err, Some, MatchResult, refl, sym, subst}
use Rattle.std.specs.Prelude.{Box}
use Rattle.std.specs.declared.alloc.Global.{Global}
use Rattle.odata_checked_filter.specs.Filter.{Filter}
use Rattle.handle_calls.specs.RowCalls.{IsJudgeOf, IsNewJudge, IsNoJudgeOf, IsNoMemory}
use Rattle.call_handles.specs.declared.call_fault.Fault.{Fault}
use Rattle.call_handles.specs.declared.handle.Handle.{Handle}
use Rattle.handle_calls.proofs.judge_calls.judge_of.Goals as goal

no_judge : (filter : Filter) (fault : Fault) → IsNoMemory fault → IsNoJudgeOf (Handle.Filter filter) fault
no_judge filter Fault.Memory none = tt
no_judge filter Fault.OtherKind none = absurd none
no_judge filter Fault.NotUtf8 none = absurd none
no_judge filter Fault.UnknownType none = absurd none
no_judge filter Fault.NoFilter none = absurd none
no_judge filter Fault.MomentNeeded none = absurd none
no_judge filter Fault.NotAMoment none = absurd none
no_judge filter Fault.UnknownNumber none = absurd none
no_judge filter (Fault.TooSmall wanted) none = absurd none
no_judge filter (Fault.Schema why) none = absurd none
no_judge filter (Fault.Refused why) none = absurd none
no_judge filter (Fault.Query why) none = absurd none
no_judge filter (Fault.Whole why) none = absurd none
no_judge filter (Fault.Json line) none = absurd none
no_judge filter (Fault.Row line why) none = absurd none
no_judge filter (Fault.Evaluation line why) none = absurd none
no_judge filter (Fault.LineTooLong line) none = absurd none
no_judge filter (Fault.TooCostly line) none = absurd none
no_judge filter Fault.Unsayable none = absurd none
no_judge filter Fault.TooDeep none = absurd none
no_judge filter Fault.UnknownColumn none = absurd none

-- a new judge of a filter's box is one of the filter's handle
judge_with : (filter : Filter) (own : Box Filter Global) (result : Result Handle Fault) → own.value ≡ filter
    → MatchResult result (IsNewJudge (Some own)) IsNoMemory
    → MatchResult result (IsJudgeOf (Handle.Filter filter)) (IsNoJudgeOf (Handle.Filter filter))
judge_with filter own (Ok made) same new = (own, (same, new))
judge_with filter own (Err fault) same none = no_judge filter fault none

pub returns-in-Ok : goal.returns-in-Ok
returns-in-Ok c =
    let result = c.judge_with.result in
    subst (λ (given : Handle). MatchResult result (IsJudgeOf given) (IsNoJudgeOf given)) (sym c.in-Filter.is)
    (judge_with c.in-Filter.held c.in-Ok.own result c.in-Ok.ensures c.judge_with.ensures)
