use Rattle.odata_filter.proofs.RowLemmas.CanonicalRows.{FilterFacts, same_collection_stops, same_entities, same_items, same_lines, same_of_rows, same_of_values, same_outcomes, same_stops, same_answers}
use Rattle.odata_filter.proofs.headline.canonical_texts_keep_rows.Goals as goal

pub returns : goal.returns
returns c =
    let facts : FilterFacts = record {
      spelled = c.tokens_are_spelled.ensures;
      paths = c.canonical_texts_keep_filters.ensures.paths;
      covers = c.canonical_texts_keep_filters.ensures.covers;
      outcomes = c.canonical_texts_keep_outcomes.ensures.printed;
    } in
    record {
      entities = same_entities facts;
      outcomes = same_outcomes facts;
      rows = same_of_rows facts;
      values = same_of_values facts;
      answers = same_answers facts;
      lines = same_lines facts;
      stops = same_stops facts;
      items = same_items facts;
      collections = same_collection_stops facts;
    }
