use Rattle.handle_calls.proofs.calls.check_query.Goals as goal

pub returns : goal.returns
returns c = record { outcome = c.filter_in_query.result; right = c.filter_in_query.ensures; gives = c.give.ensures }
