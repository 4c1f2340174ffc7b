use Rattle.sql_outcomes.proofs.nodes.NodesGo.{calculations_go, calls_go, comparisons_go, connectives_go, flags_go, lambdas_go, lists_go, negations_go, paths_go}
use Rattle.sql_outcomes.proofs.laws.nodes_go_by_operands.Goals as goal

pub returns : goal.returns
returns c =
    let ends = c.typed_trees_end_once_on_entities.ensures in
    let types = c.trees_have_one_type.ensures in
    let one = c.quoted_texts_have_one_number.ensures in
    let decided = c.comparisons_are_decided.ensures.decided in
    record {
      comparisons = comparisons_go ends types one;
      connectives = connectives_go ends;
      negations = negations_go;
      calculations = calculations_go ends types;
      flags = flags_go ends types one;
      lists = lists_go ends types decided one;
      paths = paths_go ends types decided;
      lambdas = lambdas_go ends types c.what_fits_has_its_type.ensures c.entities_are_kept.ensures;
      calls = calls_go ends types c.calls_have_one_type.ensures.named;
    }
