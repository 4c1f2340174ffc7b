use Rattle.std.proofs.Common.{rules, ◌≡◌, ◌∙◌, length, string_bytes, sym}
use Rattle.odata_syntax.specs.Tree.{call, in_list, node}
use Rattle.odata_syntax.specs.TreeView.{tree_of, trees_of}
use Rattle.odata_syntax.specs.declared.node.Node.{Call, InList, the_lemmas}
use Rattle.odata_syntax.proofs.normal_forms.Making.{counted_nodes}
use Rattle.odata_syntax.proofs.normal_form.kind_of.Goals as goal

pub returns-in-InList-clause-items : goal.returns-in-InList-clause-items
returns-in-InList-clause-items c =
    let size : c.len.result ≡ length c.in-InList.items.items = search rules in
    let seen : tree_of (InList c.in-InList.span c.in-InList.left c.in-InList.items) ≡ node c.in-InList.span.start c.in-InList.span.stop (in_list (tree_of c.in-InList.left.value) (trees_of c.in-InList.items.items)) = search (rules, the_lemmas) in
    rw (c.in-InList.is, seen) (size ∙ sym (counted_nodes c.in-InList.items.items))

pub returns-in-Call-clause-items : goal.returns-in-Call-clause-items
returns-in-Call-clause-items c =
    let size : c.len-in-Call.result ≡ length c.in-Call.arguments.items = search rules in
    let seen : tree_of (Call c.in-Call.span c.in-Call.name c.in-Call.arguments) ≡ node c.in-Call.span.start c.in-Call.span.stop (call (string_bytes c.in-Call.name) (trees_of c.in-Call.arguments.items)) = search (rules, the_lemmas) in
    rw (c.in-Call.is, seen) (size ∙ sym (counted_nodes c.in-Call.arguments.items))
