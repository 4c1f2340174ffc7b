use Rattle.odata_text.proofs.canonical.Spellings.{AreLiteralValues, guid_values, int_values, moment_values, one_spelling, spelling_again, spelling_spelled}
use Rattle.odata_text.proofs.printing_laws.literals_have_one_spelling.Goals as goal

pub returns : goal.returns
returns c =
    let are : AreLiteralValues = record {
      ints = int_values c.texts_have_one_value.ensures.int c.ints_read_back.ensures;
      moments = moment_values c.texts_have_one_value.ensures.moment c.moments_read_back.ensures.value;
      guids = guid_values c.texts_have_one_value.ensures.guid c.guids_read_back.ensures;
      moment_spelled = c.moments_read_back.ensures.spelled;
    } in
    record { one = one_spelling are; spelled = spelling_spelled are; again = spelling_again are }
