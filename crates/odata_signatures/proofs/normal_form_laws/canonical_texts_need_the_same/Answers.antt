use Rattle.odata_signatures.proofs.printed.Literals.{LiteralFacts}
use Rattle.odata_signatures.proofs.printed.Paths.{needs_bare, needs_normal, same_paths}
use Rattle.odata_signatures.proofs.printed.Readings.{ReadingFacts, read_again}
use Rattle.odata_signatures.proofs.printed.Values.{guid_values, int_values, moment_values}
use Rattle.odata_signatures.proofs.normal_form_laws.canonical_texts_need_the_same.Goals as goal

pub returns-clause-normal : goal.returns-clause-normal
returns-clause-normal c = λ tree normal is slots root scope paths path.
    let facts : LiteralFacts = record {
      ints = int_values c.texts_have_one_value.ensures.int c.ints_read_back.ensures;
      moments = moment_values c.texts_have_one_value.ensures.moment c.moments_read_back.ensures.value;
      guids = guid_values c.texts_have_one_value.ensures.guid c.guids_read_back.ensures;
    } in needs_normal slots root facts scope paths tree normal path is

pub returns-clause-places : goal.returns-clause-places
returns-clause-places c = λ tree slots root scope paths path. needs_bare slots root scope paths tree path

pub returns-clause-printed : goal.returns-clause-printed
returns-clause-printed c = λ tree again printed of_tree is other.
    let facts : ReadingFacts = record {
      literals = record {
        ints = int_values c.texts_have_one_value.ensures.int c.ints_read_back.ensures;
        moments = moment_values c.texts_have_one_value.ensures.moment c.moments_read_back.ensures.value;
        guids = guid_values c.texts_have_one_value.ensures.guid c.guids_read_back.ensures;
      };
      back = c.canonical_texts_read_back.ensures;
      list = c.one_list_of_any_length.ensures;
      spelled = c.tokens_are_spelled.ensures;
      tree = c.one_tree.ensures;
    } in same_paths facts.literals tree is.normal again is.is_normal (read_again facts printed tree again of_tree is other)
