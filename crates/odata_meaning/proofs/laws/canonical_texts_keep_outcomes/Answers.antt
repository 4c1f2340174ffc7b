use Rattle.odata_meaning.proofs.meaning.SameForms.{KeptForms, normal_forms_same, printed_same}
use Rattle.odata_meaning.proofs.laws.canonical_texts_keep_outcomes.Goals as goal

pub returns : goal.returns
returns c =
    let kept : KeptForms = record {
      values = c.normal_forms_keep_types.ensures.values;
      types = c.normal_forms_keep_types.ensures.types;
      places = c.normal_forms_keep_types.ensures.places;
      quotes = c.normal_forms_keep_types.ensures.quotes;
      quotes_bare = c.normal_forms_keep_types.ensures.quotes_bare;
    } in
    record {
      normal = normal_forms_same kept;
      printed = printed_same kept c.canonical_texts_read_back.ensures c.one_list_of_any_length.ensures c.one_tree.ensures;
    }
