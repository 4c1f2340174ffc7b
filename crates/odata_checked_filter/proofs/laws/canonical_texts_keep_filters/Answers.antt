use Rattle.odata_checked_filter.proofs.flat.Alone.{one_type_at}
use Rattle.odata_checked_filter.proofs.same_forms.Filters.{TextFacts, as_many_nodes, covered_alike, expand_the_same, one_type_of_both, same_types_at}
use Rattle.odata_checked_filter.proofs.laws.canonical_texts_keep_filters.Goals as goal

pub returns : goal.returns
returns c =
    let facts : TextFacts = record {
      kept = record {
        types = c.normal_forms_keep_types.ensures.types;
        places = c.normal_forms_keep_types.ensures.places;
        nodes = c.normal_forms_keep_types.ensures.nodes;
        nodes_bare = c.normal_forms_keep_types.ensures.nodes_bare;
      };
      spelled = c.tokens_are_spelled.ensures;
      form = c.canonical_texts_keep_types.ensures.form;
      needs = c.canonical_texts_need_the_same.ensures.printed;
    } in
    record {
      count = as_many_nodes facts;
      types = same_types_at facts;
      one = one_type_of_both facts (one_type_at c.trees_have_one_type.ensures);
      paths = expand_the_same facts;
      covers = covered_alike facts;
    }
