use Rattle.std.proofs.Common.{Ok, Err, MatchResult, refl, subst}
use Rattle.odata_queries.specs.Find.{found_model}
use Rattle.handle_calls.specs.FilterCalls.{IsFilterIn, IsNoFilter}
use Rattle.handle_calls.proofs.calls.check_url.Goals as goal

pub returns-in-Ok : goal.returns-in-Ok
returns-in-Ok c =
    let given = c.args.given.now in let filter = c.filter_for-filter.result in
    record {
      outcome = Ok (found_model c.in-Ok.found);
      right = c.in-Ok.ensures;
      checks = record {
        plain = c.give-status.new.answer;
        makes = record {
          outcome = filter;
          right = subst (λ text. MatchResult filter (IsFilterIn given text) (IsNoFilter given text)) c.as_str.ensures.value c.filter_for-filter.ensures;
          gives = c.give-status.ensures;
        };
        reports = c.report_found.ensures;
      };
    }

pub returns-in-Err : goal.returns-in-Err
returns-in-Err c = record { outcome = Err c.in-Err.fault; right = c.in-Err.ensures; checks = (refl, c.give.ensures.0, c.give.ensures.1) }
