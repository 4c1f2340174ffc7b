use Rattle.handle_calls.proofs.calls.new_judge.Goals as goal

pub returns : goal.returns
returns c = record {
  answer = c.give.new.answer;
  makes = record { outcome = c.judge_with.result; right = c.judge_with.ensures; gives = c.give.ensures };
}
