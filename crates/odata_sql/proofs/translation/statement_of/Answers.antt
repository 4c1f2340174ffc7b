use Rattle.sql_tree.specs.TableModel.{table_in}
use Rattle.odata_sql.proofs.StatementAnswers.{deep_there, printed_shape, shape_printed}
use Rattle.odata_sql.proofs.translation.statement_of.Goals as goal

pub print-requires : goal.print-requires
print-requires c =
    printed_shape c.args.dialect (table_in c.args.table.now) c.args.tree c.requires c.names_what_is.result c.names_what_is.ensures.whole c.if-not-names_what_is.false

pub returns-clause-text : goal.returns-clause-text
returns-clause-text c =
    shape_printed c.args.dialect (table_in c.args.table.now) c.args.tree c.names_what_is.result c.names_what_is.ensures.whole c.if-not-names_what_is.false c.in_ok-text.text c.in_ok-text.ensures
    c.most_symbols.result c.in_ok-parser_depth.field-0 c.in_ok-parser_depth.ensures c.most_symbols.ensures c.if-branch.false

pub returns-then-fewest_nodes-size-clause-refused : goal.returns-then-fewest_nodes-size-clause-refused
returns-then-fewest_nodes-size-clause-refused c =
    deep_there c.args.dialect (table_in c.args.table.now) c.args.tree c.names_what_is.result c.names_what_is.ensures.whole c.if-not-names_what_is.false c.most_symbols.result c.in_ok-parser_depth.field-0
    c.fewest_nodes.result c.args.size c.in_ok-parser_depth.ensures c.most_symbols.ensures c.if-branch.true c.fewest_nodes.ensures c.if-fewest_nodes-size.true
