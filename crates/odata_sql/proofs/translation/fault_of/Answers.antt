use Rattle.std.proofs.Common.{◌∙◌, Err, ap}
use Rattle.std.proofs.lemmas.Result.{err_from_is_err_and}
use Rattle.odata_sql.specs.Conditions.{FaultsIt}
use Rattle.sql_draft.specs.Translated.{question_of}
use Rattle.sql_draft.specs.World.{OfPlace, Puts}
use Rattle.sql_tree.specs.TableModel.{table_in}
use Rattle.odata_sql.proofs.QuietFilters.{can_fault}
use Rattle.odata_sql.proofs.StatementAnswers.{fault_is_put, filter_truth, first_inside, never_by_range, of_shape, refused_for, says_it}
use Rattle.odata_sql.proofs.translation.fault_of.Goals as goal

pub may_fault-requires : goal.may_fault-requires
may_fault-requires c = first_inside (question_of c.args.context.now) c.args.context.now.ranges.now c.requires.translated.ranges c.requires.translated.right

pub put_code-requires-clause-truth : goal.put_code-requires-clause-truth
put_code-requires-clause-truth c = filter_truth c.args.context.now.checked.now c.requires.translated.right c.trees_have_one_type.ensures

pub returns-then-not-may_fault-clause-none : goal.returns-then-not-may_fault-clause-none
returns-then-not-may_fault-clause-none c =
    never_by_range (question_of c.args.context.now) c.args.context.now.ranges.now c.requires.translated.ranges c.requires.translated.right c.may_fault.result c.may_fault.ensures c.if-not-may_fault.true

pub statement_of-requires : goal.statement_of-requires
statement_of-requires c =
    let put : Puts (question_of c.args.context.now) c.new-draft.result c.put_number.new.self (OfPlace c.args.context.now.checked.now 0) FaultsIt =
    fault_is_put (question_of c.args.context.now) c.args.context.now.ranges.now c.requires.translated.ranges c.typed_trees_end_once_on_entities.ensures c.requires.translated.moment
    (filter_truth c.args.context.now.checked.now c.requires.translated.right c.trees_have_one_type.ensures) c.new-draft.result c.put.new.self c.put_code.new.draft c.put_number.new.self c.in_ok-put.ensures.ok
    c.in_ok-put_code.ensures c.in_ok-put_number.ensures.ok in
    of_shape (question_of c.args.context.now) c.args.dialect (table_in c.args.table.now) c.new-draft.result c.put_number.new.self c.requires.translated.right c.new-draft.ensures.nodes
    c.new-draft.ensures.parameters c.new-draft.ensures.depth c.new-draft.ensures.members FaultsIt put

pub returns-clause-some : goal.returns-clause-some
returns-clause-some c =
    let put : Puts (question_of c.args.context.now) c.new-draft.result c.put_number.new.self (OfPlace c.args.context.now.checked.now 0) FaultsIt =
    fault_is_put (question_of c.args.context.now) c.args.context.now.ranges.now c.requires.translated.ranges c.typed_trees_end_once_on_entities.ensures c.requires.translated.moment
    (filter_truth c.args.context.now.checked.now c.requires.translated.right c.trees_have_one_type.ensures) c.new-draft.result c.put.new.self c.put_code.new.draft c.put_number.new.self c.in_ok-put.ensures.ok
    c.in_ok-put_code.ensures c.in_ok-put_number.ensures.ok in
    says_it (question_of c.args.context.now) c.args.dialect (table_in c.args.table.now) c.new-draft.result c.put_number.new.self c.requires.translated.right c.new-draft.ensures.nodes
    c.new-draft.ensures.parameters c.new-draft.ensures.depth c.new-draft.ensures.members FaultsIt put FaultsIt c.trees_have_one_meaning.ensures (λ o x is. is) c.in_ok-statement_of.field-0
    c.in_ok-statement_of.ensures.text c.in_ok-statement_of.ensures.parameters

pub returns-clause-can : goal.returns-clause-can
returns-clause-can c =
    can_fault c.args.context.now.checked.now c.args.context.now.ranges.now c.requires.translated.ranges.count c.requires.reported c.may_fault.result c.may_fault.ensures c.if-not-may_fault.false

pub returns-in_err-statement_of-clause-refused : goal.returns-in_err-statement_of-clause-refused
returns-in_err-statement_of-clause-refused c =
    let put : Puts (question_of c.args.context.now) c.new-draft.result c.put_number.new.self (OfPlace c.args.context.now.checked.now 0) FaultsIt =
    fault_is_put (question_of c.args.context.now) c.args.context.now.ranges.now c.requires.translated.ranges c.typed_trees_end_once_on_entities.ensures c.requires.translated.moment
    (filter_truth c.args.context.now.checked.now c.requires.translated.right c.trees_have_one_type.ensures) c.new-draft.result c.put.new.self c.put_code.new.draft c.put_number.new.self c.in_ok-put.ensures.ok
    c.in_ok-put_code.ensures c.in_ok-put_number.ensures.ok in
    let exit = err_from_is_err_and c.from_residual-in_err-statement_of.result c.from_residual-in_err-statement_of.ensures.1 in
    rw (exit.1 ∙ ap Err exit.2) (refused_for (question_of c.args.context.now) c.args.dialect (table_in c.args.table.now) c.new-draft.result c.put_number.new.self c.requires.translated.right c.new-draft.ensures.nodes
    c.new-draft.ensures.parameters c.new-draft.ensures.depth c.new-draft.ensures.members FaultsIt put FaultsIt c.trees_have_one_meaning.ensures (λ o x is. is) c.node_count-size.result c.node_count-size.ensures c.in_err-statement_of.field-0.0 c.in_err-statement_of.ensures.refused)
