use Rattle.std.proofs.Common.{◌∙◌}
use Rattle.edm_values.proofs.moments.Moments.{clock_made}
use Rattle.edm_values.proofs.moment_literal.clock_time.Goals as goal

pub returns-clause-only : goal.returns-clause-only
returns-clause-only c = λ t hms.
    c.ok.ensures.value ∙ clock_made c.new.result c.args.hour c.args.minute c.args.second c.args.nanosecond t
    c.requires.hour_in c.requires.minute_in c.requires.second_in c.requires.nanosecond_in hms c.new.ensures.succeeds c.new.ensures.value
