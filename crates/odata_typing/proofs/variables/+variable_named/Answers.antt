use Rattle.std.proofs.Common.{sym, ◌∙◌, refl}
use Rattle.odata_typing.proofs.scopes.Scopes.{named_outside, same_named}
use Rattle.odata_typing.proofs.variables.+variable_named.Goals as goal

pub returns-in-Some-clause-named : goal.returns-in-Some-clause-named
returns-in-Some-clause-named t c = λ schema.
    rw c.in-Bound.is
    (same_named schema c.in-Bound.name c.in-Bound.edm_type c.in-Bound.outer c.args.asked.now (record { level = c.in-Some.level; edm_type = c.in-Bound.edm_type })
    (sym c.eq.ensures ∙ c.if-eq.true) (c.in-Some.ensures schema) refl)

pub returns-else-eq-clause-named : goal.returns-else-eq-clause-named
returns-else-eq-clause-named t c = λ schema.
    rw c.in-Bound.is
    (named_outside schema c.in-Bound.name c.in-Bound.edm_type c.in-Bound.outer c.args.asked.now c.variable_named.result
    (sym c.eq.ensures ∙ c.if-eq.false) (c.variable_named.ensures.named schema))
