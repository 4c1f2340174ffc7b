use Rattle.odata_signatures.proofs.printed.Readings.{ReadingFacts, printed_filters, printed_nodes, read_again}
use Rattle.odata_signatures.proofs.printed.Values.{guid_values, int_values, moment_values}
use Rattle.odata_signatures.proofs.normal_form_laws.canonical_texts_keep_types.Goals as goal

pub returns-clause-nodes : goal.returns-clause-nodes
returns-clause-nodes c =
    let facts : ReadingFacts = record {
      literals = record {
        ints = int_values c.texts_have_one_value.ensures.int c.ints_read_back.ensures;
        moments = moment_values c.texts_have_one_value.ensures.moment c.moments_read_back.ensures.value;
        guids = guid_values c.texts_have_one_value.ensures.guid c.guids_read_back.ensures;
      };
      back = c.canonical_texts_read_back.ensures;
      list = c.one_list_of_any_length.ensures;
      spelled = c.tokens_are_spelled.ensures;
      tree = c.one_tree.ensures;
    } in printed_nodes facts

pub returns-clause-form : goal.returns-clause-form
returns-clause-form c = λ printed tree again canonical of_tree other.
    let facts : ReadingFacts = record {
      literals = record {
        ints = int_values c.texts_have_one_value.ensures.int c.ints_read_back.ensures;
        moments = moment_values c.texts_have_one_value.ensures.moment c.moments_read_back.ensures.value;
        guids = guid_values c.texts_have_one_value.ensures.guid c.guids_read_back.ensures;
      };
      back = c.canonical_texts_read_back.ensures;
      list = c.one_list_of_any_length.ensures;
      spelled = c.tokens_are_spelled.ensures;
      tree = c.one_tree.ensures;
    } in read_again facts printed tree again of_tree canonical other

pub returns-clause-filters : goal.returns-clause-filters
returns-clause-filters c =
    let facts : ReadingFacts = record {
      literals = record {
        ints = int_values c.texts_have_one_value.ensures.int c.ints_read_back.ensures;
        moments = moment_values c.texts_have_one_value.ensures.moment c.moments_read_back.ensures.value;
        guids = guid_values c.texts_have_one_value.ensures.guid c.guids_read_back.ensures;
      };
      back = c.canonical_texts_read_back.ensures;
      list = c.one_list_of_any_length.ensures;
      spelled = c.tokens_are_spelled.ensures;
      tree = c.one_tree.ensures;
    } in printed_filters facts
