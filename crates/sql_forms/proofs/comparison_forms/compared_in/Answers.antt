use Rattle.sql_outcomes.proofs.outcomes.ComparedValues.{compared_other}
use Rattle.sql_forms.proofs.comparison_forms.compared_in.Goals as goal

pub returns-in_default : goal.returns-in_default
returns-in_default c = compared_other c.args.value_type c.in_default.not-Moment
