use Rattle.std.proofs.Common.{inl, inr, refl}
use Rattle.edm_values.specs.GuidLiteral.{guid_spelling}
use Rattle.edm_values.specs.MomentLiteral.{moment_spelling}
use Rattle.odata_syntax.proofs.printing.Appended.{on_ok, pushed_ok}
use Rattle.odata_syntax.proofs.printer.literal_text.write_literal.Goals as goal

pub returns-in-Some-read_moment-clause-ok : goal.returns-in-Some-read_moment-clause-ok
returns-in-Some-read_moment-clause-ok c =
    rw c.in-Moment.is
    (on_ok c.write_moment.result
    (λ written. record {
      text = moment_spelling c.in-Some-read_moment.moment;
      is_text = record { is = inl (c.in-Some-read_moment.moment, c.in-Some-read_moment.ensures.value, refl) };
      whole = written;
    })
    c.write_moment.ensures.ok)

pub returns-in-None-read_moment-clause-ok : goal.returns-in-None-read_moment-clause-ok
returns-in-None-read_moment-clause-ok c =
    rw c.in-Moment.is
    (on_ok c.push_str-in-None-read_moment.result
    (λ pushed. record {
      text = c.args.text.now;
      is_text = record { is = inr ((λ valued. let same = c.in-None-read_moment.ensures.only valued.0 valued.1 in absurd (cc)), refl) };
      whole = pushed;
    })
    (pushed_ok c.push_str-in-None-read_moment.result _ _ _ c.push_str-in-None-read_moment.ensures.bytes))

pub returns-in-Some-read_guid-clause-ok : goal.returns-in-Some-read_guid-clause-ok
returns-in-Some-read_guid-clause-ok c =
    rw c.in-Guid.is
    (on_ok c.write_guid.result
    (λ written. record {
      text = guid_spelling c.in-Some-read_guid.guid;
      is_text = record { is = inl (c.in-Some-read_guid.guid, c.in-Some-read_guid.ensures.value, refl) };
      whole = written;
    })
    c.write_guid.ensures.ok)

pub returns-in-None-read_guid-clause-ok : goal.returns-in-None-read_guid-clause-ok
returns-in-None-read_guid-clause-ok c =
    rw c.in-Guid.is
    (on_ok c.push_str-in-None-read_guid.result
    (λ pushed. record {
      text = c.args.text.now;
      is_text = record { is = inr ((λ valued. let same = c.in-None-read_guid.ensures.only valued.0 valued.1 in absurd (cc)), refl) };
      whole = pushed;
    })
    (pushed_ok c.push_str-in-None-read_guid.result _ _ _ c.push_str-in-None-read_guid.ensures.bytes))
