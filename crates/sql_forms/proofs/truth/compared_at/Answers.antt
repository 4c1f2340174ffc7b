use Rattle.sql_forms.proofs.Common.{◌≡◌, ◌+◌, slice_get, CheckedNode, NodeKind, there_found, question_of}
use Rattle.sql_outcomes.proofs.nodes.ChildPlaces.{has_range, left_inside, right_inside}
use Rattle.sql_outcomes.proofs.nodes.ComparisonsAt.{binary_compares}
use Rattle.sql_forms.proofs.truth.compared_at.Goals as goal

pub side-requires-clause-there : goal.side-requires-clause-there
side-requires-clause-there c = left_inside c.args.context.now.checked.now c.requires.translated.right c.args.place c.node.result c.node.ensures c.in-Binary.operator c.in-Binary.is

pub side-requires-clause-ranged : goal.side-requires-clause-ranged
side-requires-clause-ranged c = has_range (question_of c.args.context.now) c.args.context.now.ranges.now c.requires.translated.ranges (c.args.place + 1) (left_inside c.args.context.now.checked.now c.requires.translated.right c.args.place c.node.result c.node.ensures c.in-Binary.operator c.in-Binary.is)

pub second-requires : goal.second-requires
second-requires c = left_inside c.args.context.now.checked.now c.requires.translated.right c.args.place c.node.result c.node.ensures c.in-Binary.operator c.in-Binary.is

pub side-requires-in-Comparison-clause-there : goal.side-requires-in-Comparison-clause-there
side-requires-in-Comparison-clause-there c = right_inside c.args.context.now.checked.now c.requires.translated.right c.args.place c.node.result c.node.ensures c.in-Binary.operator c.in-Binary.is c.second.result c.second.ensures

pub side-requires-in-Comparison-clause-ranged : goal.side-requires-in-Comparison-clause-ranged
side-requires-in-Comparison-clause-ranged c =
    has_range (question_of c.args.context.now) c.args.context.now.ranges.now c.requires.translated.ranges c.second.result (right_inside c.args.context.now.checked.now c.requires.translated.right c.args.place c.node.result c.node.ensures c.in-Binary.operator c.in-Binary.is c.second.result c.second.ensures)

pub returns-in-Comparison-clause-some : goal.returns-in-Comparison-clause-some
returns-in-Comparison-clause-some c =
    let filter = c.args.context.now.checked.now in
    let here = there_found (λ (n : CheckedNode). n.kind ≡ NodeKind.Binary c.in-Binary.operator) (slice_get filter.list.nodes c.args.place) c.node.result c.node.ensures c.in-Binary.is in
    binary_compares (question_of c.args.context.now) c.args.context.now.ranges.now c.requires.translated.ranges c.requires.translated.right c.typed_trees_end_once_on_entities.ensures c.requires.translated.moment
    c.trees_have_one_type.ensures c.quoted_texts_have_one_number.ensures c.in-Binary.operator c.args.place c.second.result c.second.ensures c.side.result c.side-in-Comparison.result c.side.ensures c.side-in-Comparison.ensures
    c.in-Comparison.comparison c.in-Comparison.is here
