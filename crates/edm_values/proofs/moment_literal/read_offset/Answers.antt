use Rattle.std.proofs.Common.{◌+◌, ◌*◌, inl, inr, arith}
use Rattle.edm_values.proofs.moments.Offsets.{signed_clock, minutes_negated, ahead_kept}
use Rattle.edm_values.proofs.moment_literal.read_offset.Goals as goal

pub returns-in_ok-read_minutes_ahead-in-43-clause-value : goal.returns-in_ok-read_minutes_ahead-in-43-clause-value
returns-in_ok-read_minutes_ahead-in-43-clause-value c =
    let v = c.in_ok-read_minutes_ahead-in-43.ensures.value in
    inr (
      v.0,
      v.1,
      v.2,
      v.3,
      inl (
        signed_clock c.args.text.now 43 v.0 v.1 (omega arith) (omega arith) (omega arith) v.4,
        ahead_kept c.in_ok-read_minutes_ahead-in-43.field-0 (60 * v.0 + v.1) (omega (arith, v.2, v.3)) v.5,
      ),
    )

pub returns-in_ok-read_minutes_ahead-in-45-clause-value : goal.returns-in_ok-read_minutes_ahead-in-45-clause-value
returns-in_ok-read_minutes_ahead-in-45-clause-value c =
    let v = c.in_ok-read_minutes_ahead-in-45.ensures.value in
    inr (
      v.0,
      v.1,
      v.2,
      v.3,
      inr (
        signed_clock c.args.text.now 45 v.0 v.1 (omega arith) (omega arith) (omega arith) v.4,
        minutes_negated c.in_ok-read_minutes_ahead-in-45.field-0 (60 * v.0 + v.1) (omega (arith, v.2, v.3)) v.5,
      ),
    )
