use Rattle.odata_syntax.proofs.printing.ReadBack.{AreTexts, alike}
use Rattle.odata_syntax.proofs.canonical_laws.texts_determine_normal_forms.Goals as goal

pub returns : goal.returns
returns c =
    let law : AreTexts = record {
      spellings = record { one = c.literals_have_one_spelling.ensures.one; spelled = c.literals_have_one_spelling.ensures.spelled; again = c.literals_have_one_spelling.ensures.again };
      lowers = c.words_in_lower_case.ensures;
      letters = c.letters_are_an_identifier.ensures;
      printed = c.printed_list_of_any_length.ensures;
      one = c.one_list_of_any_length.ensures;
    } in alike law c.one_tree.ensures
