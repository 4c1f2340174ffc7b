use Rattle.std.proofs.Common.{MatchResult, subst}
use Rattle.handle_calls.specs.FilterCalls.{IsFilterMade, IsNotMade}
use Rattle.handle_calls.proofs.FilterSteps.{of_text}
use Rattle.handle_calls.proofs.filter_calls.filter_of.Goals as goal

pub returns-in-Ok : goal.returns-in-Ok
returns-in-Ok c =
    let held = c.in-Type.held in let result = c.filter_of_text.result in
    let reported = subst (λ text. MatchResult result (IsFilterMade held text) (IsNotMade held text)) c.in-Ok.ensures.cases.0 c.filter_of_text.ensures in
    of_text c.args.handle.now held c.args.text.now result c.in-Type.is reported
