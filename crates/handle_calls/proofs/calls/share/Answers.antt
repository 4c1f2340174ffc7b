use Rattle.handle_calls.proofs.calls.share.Goals as goal

pub returns : goal.returns
returns c = record {
  answer = c.give.new.answer;
  makes = record { outcome = c.share_of.result; right = c.share_of.ensures; gives = c.give.ensures };
}
