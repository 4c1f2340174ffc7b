use Rattle.std.proofs.Common.{MatchResult, string_bytes, subst}
use Rattle.handle_calls.specs.FilterCalls.{IsFilterMade, IsNotMade}
use Rattle.handle_calls.proofs.FilterSteps.{of_query}
use Rattle.handle_calls.proofs.filter_calls.filter_in_query.Goals as goal

pub returns-in-Ok-Some : goal.returns-in-Ok-Some
returns-in-Ok-Some c =
    let held = c.in-Type.held in let result = c.filter_of_text.result in
    let filter = rw c.in-Ok-Some.field-0-is at c.in-Ok-Some.ensures.filter in
    let reported = subst (λ text. MatchResult result (IsFilterMade held text) (IsNotMade held text)) c.deref.ensures c.filter_of_text.ensures in
    of_query c.args.handle.now held c.args.query.now (string_bytes c.in-Ok-Some.text) result c.in-Type.is filter reported
