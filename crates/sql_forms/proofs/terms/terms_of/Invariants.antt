use Rattle.sql_forms.proofs.Common.{◌-◌, length, reverse, question_of}
use Rattle.sql_outcomes.proofs.outcomes.ChainWalk.{WalkLeft}
use Rattle.sql_forms.proofs.terms.terms_of.Given as goal

abbrev pub invariant-loop-connective : goal.invariant-loop-connective
invariant-loop-connective l = record {
  left : WalkLeft (question_of l.context) l.connective l.place l.at (reverse l.terms.items);
}

abbrev pub decreases-loop-connective : goal.decreases-loop-connective
decreases-loop-connective l = length l.context.checked.now.list.nodes - l.at
