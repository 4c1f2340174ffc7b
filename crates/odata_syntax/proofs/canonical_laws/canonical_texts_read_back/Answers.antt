use Rattle.odata_syntax.proofs.printing.ReadBack.{AreTexts, read_back}
use Rattle.odata_syntax.proofs.canonical_laws.canonical_texts_read_back.Goals as goal

pub returns : goal.returns
returns c =
    let law : AreTexts = record {
      spellings = record { one = c.literals_have_one_spelling.ensures.one; spelled = c.literals_have_one_spelling.ensures.spelled; again = c.literals_have_one_spelling.ensures.again };
      lowers = c.words_in_lower_case.ensures;
      letters = c.letters_are_an_identifier.ensures;
      printed = c.printed_list_of_any_length.ensures;
      one = c.one_list_of_any_length.ensures;
    } in read_back law
