use Rattle.handle_calls.proofs.calls.check.Goals as goal

pub returns : goal.returns
returns c = record { outcome = c.filter_of.result; right = c.filter_of.ensures; gives = c.give.ensures }
