use Rattle.std.proofs.Common.{subst}
use Rattle.odata_queries.specs.Query.{IsQueryFault}
use Rattle.odata_filter.proofs.RunLemmas.RunEndings.{query_lacking}
use Rattle.odata_filter.proofs.command.runner.checked_plan.Goals as goal

pub returns-in-Err-clause-none : goal.returns-in-Err-clause-none
returns-in-Err-clause-none c = λ document names.
    query_lacking c.args.plan.now document c.args.schema.now c.args.id c.in-None-Some.query c.in-Err.fault names c.in-None-Some.is-1
    (λ some. subst (λ bytes. IsQueryFault bytes c.in-Err.fault) c.as_bytes.ensures.value (c.in-Err.ensures.fault some))
