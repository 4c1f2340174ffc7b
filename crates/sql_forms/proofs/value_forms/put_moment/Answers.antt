use Rattle.sql_forms.proofs.Common.{subst, string_bytes}
use Rattle.edm_values.specs.Civil.{DateTime}
use Rattle.edm_values.specs.MomentParts.{IsFourDigitYear, IsOffset}
use Rattle.sql_forms.proofs.answers.LiteralAnswers.{ok_moment_text}
use Rattle.sql_forms.proofs.value_forms.put_moment.Goals as goal

pub returns : goal.returns
returns c =
    let year : IsFourDigitYear c.args.moment.now.civil.date.year = subst (λ (d : DateTime). IsFourDigitYear d.date.year) c.civil-civil.ensures.value c.civil-civil.ensures.year in
    let offset : IsOffset c.args.moment.now.offset_minutes = subst IsOffset c.offset_minutes-offset.ensures.value c.offset_minutes-offset.ensures.within in
    ok_moment_text c.args.draft.now c.put_parameter.new.self c.put_parameter.result c.args.moment.now (string_bytes c.new-text.result) c.write_moment.new.out
    (c.moments_read_back.ensures.value c.args.moment.now (year, offset)) c.new-text.ensures.bytes c.in_ok-write_moment.ensures.ok c.put_parameter.ensures.ok
