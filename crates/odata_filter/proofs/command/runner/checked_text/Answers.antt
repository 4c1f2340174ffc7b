use Rattle.odata_filter.proofs.RunLemmas.RunEndings.{is_filter_of, lacking}
use Rattle.odata_filter.proofs.command.runner.checked_text.Goals as goal

pub returns-in-Ok-clause-right : goal.returns-in-Ok-clause-right
returns-in-Ok-clause-right c = λ document names.
    is_filter_of c.args.plan.now document c.args.schema.now c.args.id c.args.text.now c.in-Ok.checked
    names c.requires.asked c.in-Ok.ensures.schema c.in-Ok.ensures.filtered_type c.in-Ok.ensures.typing

pub returns-in-Err-clause-none : goal.returns-in-Err-clause-none
returns-in-Err-clause-none c = λ document names.
    lacking c.args.plan.now document c.args.schema.now c.args.id c.args.text.now c.in-Err.refusal names c.requires.asked c.in-Err.ensures.none
