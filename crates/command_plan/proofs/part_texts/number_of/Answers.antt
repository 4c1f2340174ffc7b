use Rattle.command_plan.proofs.LineLemmas.PartLemmas.{number_read, number_unread}
use Rattle.command_plan.proofs.part_texts.number_of.Goals as goal

pub returns-in-Ok-clause-some : goal.returns-in-Ok-clause-some
returns-in-Ok-clause-some c = number_read c.args.text.now c.in-Ok.number c.in-Ok.ensures.value.0.0.0 c.in-Ok.ensures.value.0.0.1 c.in-Ok.ensures.value.0.1

pub returns-in-Err-clause-none : goal.returns-in-Err-clause-none
returns-in-Err-clause-none c = number_unread c.args.text.now c.in-Err.ensures.value.0
