use Rattle.sql_forms.specs.declared.terms.Form.{Form}
use Rattle.sql_forms.specs.Forms.{IsInForm}
use Rattle.sql_draft.specs.Translated.{question_of}
use Rattle.sql_tree.specs.TableModel.{table_in}
use Rattle.odata_sql.specs.Conditions.{KeepsIt}
use Rattle.odata_sql.proofs.StatementAnswers.{filter_truth, of_shape, ok_says, refused_says}
use Rattle.odata_sql.proofs.translation.keep_of.Goals as goal

pub put_keeps-requires-clause-truth : goal.put_keeps-requires-clause-truth
put_keeps-requires-clause-truth c = filter_truth c.args.context.now.checked.now c.requires.translated.right c.trees_have_one_type.ensures

pub statement_of-requires : goal.statement_of-requires
statement_of-requires c =
    of_shape (question_of c.args.context.now) c.args.dialect (table_in c.args.table.now) c.new-draft.result c.put_keeps.new.draft c.requires.translated.right c.new-draft.ensures.nodes c.new-draft.ensures.parameters
    c.new-draft.ensures.depth c.new-draft.ensures.members (IsInForm Form.Keeps) c.in_ok-put_keeps.ensures

pub returns-clause-ok : goal.returns-clause-ok
returns-clause-ok c =
    ok_says (question_of c.args.context.now) c.args.dialect (table_in c.args.table.now) c.new-draft.result c.put_keeps.new.draft c.requires.translated.right c.new-draft.ensures.nodes c.new-draft.ensures.parameters
    c.new-draft.ensures.depth c.new-draft.ensures.members (IsInForm Form.Keeps) c.in_ok-put_keeps.ensures KeepsIt c.trees_have_one_meaning.ensures (λ o x is. is) c.statement_of.result
    c.statement_of.ensures.text c.statement_of.ensures.parameters

pub returns-clause-refused : goal.returns-clause-refused
returns-clause-refused c =
    refused_says (question_of c.args.context.now) c.args.dialect (table_in c.args.table.now) c.new-draft.result c.put_keeps.new.draft c.requires.translated.right c.new-draft.ensures.nodes c.new-draft.ensures.parameters
    c.new-draft.ensures.depth c.new-draft.ensures.members (IsInForm Form.Keeps) c.in_ok-put_keeps.ensures KeepsIt c.trees_have_one_meaning.ensures (λ o x is. is) c.node_count-size.result c.node_count-size.ensures c.statement_of.result
    c.statement_of.ensures.refused
