use Rattle.std.proofs.Common.{arith, rules}
use Rattle.std.proofs.lemmas.Grind.{common_steps}
use Rattle.collection_reader.specs.private.Kinds.{kind_of}
use Rattle.collection_reader.proofs.kind.kind_of.Goals as goal

pub returns-in-34 : goal.returns-in-34
unfolding kind_of
returns-in-34 c = search rules

pub returns-in-92 : goal.returns-in-92
unfolding kind_of
returns-in-92 c = search rules

pub returns-in-123 : goal.returns-in-123
unfolding kind_of
returns-in-123 c = search rules

pub returns-in-91 : goal.returns-in-91
unfolding kind_of
returns-in-91 c = search rules

pub returns-in-125 : goal.returns-in-125
unfolding kind_of
returns-in-125 c = search rules

pub returns-in-93 : goal.returns-in-93
unfolding kind_of
returns-in-93 c = search rules

pub returns-in-44 : goal.returns-in-44
unfolding kind_of
returns-in-44 c = search rules

pub returns-in-58 : goal.returns-in-58
unfolding kind_of
returns-in-58 c = search rules

pub returns-in-32 : goal.returns-in-32
unfolding kind_of
returns-in-32 c = search rules

pub returns-in-10 : goal.returns-in-10
unfolding kind_of
returns-in-10 c = search rules

pub returns-in_default : goal.returns-in_default
unfolding kind_of
returns-in_default c = grind (arith, common_steps)
