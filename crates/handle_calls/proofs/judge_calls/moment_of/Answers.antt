use Rattle.std.proofs.Common.{sym, ◌∙◌, subst}
use Rattle.std.proofs.lemmas.Option.{none-some}
use Rattle.edm_values.specs.MomentLiteral.{MomentValue}
use Rattle.handle_calls.proofs.judge_calls.moment_of.Goals as goal

pub returns-in-None : goal.returns-in-None
returns-in-None c now value =
    let read = subst (λ text. MomentValue text now) (sym c.in-Ok.ensures.cases.0) value in
    none-some now (sym c.in-None.is ∙ c.read_moment.ensures.only now read)
