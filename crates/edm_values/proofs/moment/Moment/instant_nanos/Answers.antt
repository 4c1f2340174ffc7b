use Rattle.std.proofs.Common.{◌∙◌, ap}
use Rattle.std.specs.Int.{w32}
use Rattle.std.proofs.Common.{arith, FitsSigned}
use Rattle.std.proofs.lemmas.Int.{to_z-of_z}
use Rattle.jiff.proofs.SpanFacts.{signed_arith}
use Rattle.edm_values.specs.Instant.{instant}
use Rattle.edm_values.proofs.moments.Instants.{nanos_computed}
use Rattle.edm_values.proofs.moment.Moment.instant_nanos.Goals as goal

pub returns : goal.returns
returns c =
    let fits : FitsSigned w32 c.subsec_nanosecond.result = omega (arith, signed_arith, c.subsec_nanosecond.ensures, c.self.inside.civil.time.subsec_in) in
    nanos_computed (record { civil = c.self.inside.civil; offset_minutes = c.self.inside.offset_minutes }) c.self.inside.seconds c.from.result c.from-2.result
    c.self.invariant c.from.ensures
    (c.from-2.ensures ∙ to_z-of_z w32 c.subsec_nanosecond.result fits ∙ c.subsec_nanosecond.ensures)
    ∙ ap instant c.self.view_is
