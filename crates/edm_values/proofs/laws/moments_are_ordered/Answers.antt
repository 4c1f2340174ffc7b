use Rattle.std.proofs.lemmas.Cmp.{int_cmp_total, on_total, then_total}
use Rattle.edm_values.specs.Instant.{instant, offset_of}
use Rattle.edm_values.proofs.moments.Instants.{moment_cmp-equal}
use Rattle.edm_values.proofs.laws.moments_are_ordered.Goals as goal

pub returns-clause-total : goal.returns-clause-total
returns-clause-total c = then_total (on_total instant int_cmp_total) (on_total offset_of int_cmp_total)

pub returns-clause-same : goal.returns-clause-same
returns-clause-same c = λ a b equal. moment_cmp-equal a b equal
