use Rattle.std.proofs.Common.{rules, ◌∙◌, ap}
use Rattle.std.specs.Int.{w16}
use Rattle.std.proofs.lemmas.Int.{to_z-of_z}
use Rattle.jiff.specs.Words.{civil_seconds}
use Rattle.edm_values.specs.MomentParts.{IsMoment}
use Rattle.edm_values.proofs.moments.Instants.{seconds_computed}
use Rattle.edm_values.proofs.moment.Moment.new.Goals as goal

pub invariant_of-result : goal.invariant_of-result
invariant_of-result c =
    let within : IsMoment c.args.civil c.args.offset_minutes = search rules in
    let kept = to_z-of_z w16 c.args.offset_minutes c.ranges.offset_minutes in
    rw kept (seconds_computed c.args.civil c.args.offset_minutes c.to_second-on_clock.result c.from.result within
    (c.to_second-on_clock.ensures.value ∙ ap civil_seconds c.to_plain.ensures)
    c.to_second-on_clock.ensures.bound
    (c.from.ensures ∙ kept))
