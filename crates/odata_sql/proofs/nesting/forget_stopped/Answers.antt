use Rattle.std.proofs.Common.{nat_lt, rules}
use Rattle.std.proofs.lemmas.Fn.{filter_same}
use Rattle.odata_sql.proofs.nesting.forget_stopped.Goals as goal

pub returns : goal.returns
returns c = filter_same _ (λ stop. nat_lt c.args.at stop) _ (λ x b f' k. search rules) _ _ c.retain.ensures.filtered
