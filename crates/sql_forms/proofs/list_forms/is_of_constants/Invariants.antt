use Rattle.sql_forms.proofs.answers.ConstantAnswers.{ConstantsSoFar}
use Rattle.sql_forms.proofs.list_forms.is_of_constants.Given as goal

abbrev pub invariant-loop-item : goal.invariant-loop-item
invariant-loop-item l = record { so : ConstantsSoFar l.context.checked.now l.left l.items l.all l.item-index }
