use Rattle.handle_calls.proofs.calls.new_judge_of.Goals as goal

pub returns : goal.returns
returns c = record {
  answer = c.give.new.answer;
  makes = record { outcome = c.judge_of.result; right = c.judge_of.ensures; gives = c.give.ensures };
}
