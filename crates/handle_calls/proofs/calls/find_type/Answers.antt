use Rattle.handle_calls.proofs.calls.find_type.Goals as goal

pub returns : goal.returns
returns c = record { answer = c.give.new.answer; makes = record { outcome = c.type_of.result; right = c.type_of.ensures; gives = c.give.ensures } }
