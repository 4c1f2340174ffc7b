use Rattle.std.proofs.Common.{arith, rules}
use Rattle.std.proofs.lemmas.Option.{slice_get_within}
use Rattle.std.specs.Prelude.{slice_get}
use Rattle.odata_checked_filter.specs.declared.checked_node.CheckedNode.{CheckedNode}
use Rattle.filter_context.proofs.Parts.{there_found}
use Rattle.odata_ranges.specs.Owners.{NamesSlotOf}
use Rattle.sql_draft.specs.Translated.{question_of}
use Rattle.sql_draft.proofs.RowPaths.{column_from_row, document_from_row, names_before, names_up_to, row_first}
use Rattle.sql_draft.proofs.paths.base_of_row.Goals as goal

pub overflow_add-result : goal.overflow_add-result
overflow_add-result c =
    let named = row_first c.args.context.now.checked.now c.args.lowest c.args.first c.requires.first in
    let there = slice_get_within c.args.context.now.checked.now.list.nodes c.args.first named.found named.at in
    search (rules, arith)

pub returns-in-Some-clause-names : goal.returns-in-Some-clause-names
returns-in-Some-clause-names c = names_before c.args.context.now.checked.now c.args.place c.args.lowest c.requires.bottom c.args.first c.requires.first

pub returns-in-Some-clause-leads : goal.returns-in-Some-clause-leads
returns-in-Some-clause-leads c = λ levels.
    column_from_row c.trees_have_one_type.ensures (question_of c.args.context.now) c.requires.translated.right levels c.args.place c.args.lowest c.args.first c.requires.bottom c.requires.first
    c.in-Some.slot
    (there_found (λ (node : CheckedNode). NamesSlotOf node.kind c.in-Some.slot) (slice_get c.args.context.now.checked.now.list.nodes c.args.first) c.node.result c.node.ensures c.in-Some.ensures.some)

pub returns-clause-names : goal.returns-clause-names
returns-clause-names c = names_up_to c.args.context.now.checked.now c.args.place c.args.lowest c.requires.bottom c.args.first c.requires.first

pub returns-clause-leads : goal.returns-clause-leads
returns-clause-leads c = λ levels.
    document_from_row c.trees_have_one_type.ensures (question_of c.args.context.now) c.requires.translated.right levels c.args.place c.args.lowest c.args.first c.requires.bottom c.requires.first
