use Rattle.std.proofs.Common.{refl, drop}
use Rattle.odata_syntax.specs.PostOrder.{last_tree, last_trees, trees_before}
use Rattle.odata_syntax.specs.declared.syntax_list.SyntaxKind.{SyntaxKind}
use Rattle.odata_typing.proofs.placed.LastTrees.{call_children_of, list_children_of, no_children, of_kind, one_child_of, text_of_kind, two_children_of}
use Rattle.odata_typing.proofs.node_walk.checked_node.Goals as goal

pub checked_literal-requires-clause-leaf : goal.checked_literal-requires-clause-leaf
checked_literal-requires-clause-leaf c = no_children c.args.context.now c.args.walk.now c.args.judged.now c.requires.children.0 c.requires.children.1 (SyntaxKind.Lit c.in-Lit.kind) c.in-Lit.is refl

pub checked_literal-requires-clause-text : goal.checked_literal-requires-clause-text
checked_literal-requires-clause-text c = text_of_kind c.args.judged.now _ (SyntaxKind.Lit c.in-Lit.kind) c.in-Lit.is tt c.requires.text

pub returns-in-Lit : goal.returns-in-Lit
returns-in-Lit c = λ trees are.
    of_kind c.args.context.now c.args.judged.now trees c.args.walk.now c.checked_literal.new.walk c.checked_literal.result (SyntaxKind.Lit c.in-Lit.kind) c.in-Lit.is c.checked_literal.ensures

pub checked_it-requires-clause-leaf : goal.checked_it-requires-clause-leaf
checked_it-requires-clause-leaf c = no_children c.args.context.now c.args.walk.now c.args.judged.now c.requires.children.0 c.requires.children.1 (SyntaxKind.It) c.in-It.is refl

pub returns-in-It : goal.returns-in-It
returns-in-It c = λ trees are.
    of_kind c.args.context.now c.args.judged.now trees c.args.walk.now c.checked_it.new.walk c.checked_it.result (SyntaxKind.It) c.in-It.is c.checked_it.ensures

pub checked_name-requires-clause-leaf : goal.checked_name-requires-clause-leaf
checked_name-requires-clause-leaf c = no_children c.args.context.now c.args.walk.now c.args.judged.now c.requires.children.0 c.requires.children.1 (SyntaxKind.Name) c.in-Name.is refl

pub checked_name-requires-clause-text : goal.checked_name-requires-clause-text
checked_name-requires-clause-text c = text_of_kind c.args.judged.now _ (SyntaxKind.Name) c.in-Name.is tt c.requires.text

pub returns-in-Name : goal.returns-in-Name
returns-in-Name c = λ trees are.
    of_kind c.args.context.now c.args.judged.now trees c.args.walk.now c.checked_name.new.walk c.checked_name.result (SyntaxKind.Name) c.in-Name.is c.checked_name.ensures

pub checked_member-requires-clause-text : goal.checked_member-requires-clause-text
checked_member-requires-clause-text c = text_of_kind c.args.judged.now _ SyntaxKind.Member c.in-Member.is tt c.requires.text

pub checked_member-requires-clause-base : goal.checked_member-requires-clause-base
checked_member-requires-clause-base c = (last_tree c.requires.children.0, one_child_of c.args.context.now c.args.walk.now c.args.judged.now c.requires.children.0 c.requires.children.1 SyntaxKind.Member c.in-Member.is refl)

pub returns-in-Member : goal.returns-in-Member
returns-in-Member c = λ trees are.
    of_kind c.args.context.now c.args.judged.now trees c.args.walk.now c.checked_member.new.walk c.checked_member.result (SyntaxKind.Member) c.in-Member.is (c.checked_member.ensures (last_tree trees) (one_child_of c.args.context.now c.args.walk.now c.args.judged.now trees are SyntaxKind.Member c.in-Member.is refl))

pub checked_unary-requires-clause-operand : goal.checked_unary-requires-clause-operand
checked_unary-requires-clause-operand c = (last_tree c.requires.children.0, one_child_of c.args.context.now c.args.walk.now c.args.judged.now c.requires.children.0 c.requires.children.1 SyntaxKind.Neg c.in-Neg.is refl)

pub returns-in-Neg : goal.returns-in-Neg
returns-in-Neg c = λ trees are.
    of_kind c.args.context.now c.args.judged.now trees c.args.walk.now c.checked_unary.new.walk c.checked_unary.result (SyntaxKind.Neg) c.in-Neg.is (c.checked_unary.ensures (last_tree trees) (one_child_of c.args.context.now c.args.walk.now c.args.judged.now trees are SyntaxKind.Neg c.in-Neg.is refl))

pub checked_unary-requires-in-Not-clause-operand : goal.checked_unary-requires-in-Not-clause-operand
checked_unary-requires-in-Not-clause-operand c = (last_tree c.requires.children.0, one_child_of c.args.context.now c.args.walk.now c.args.judged.now c.requires.children.0 c.requires.children.1 SyntaxKind.Not c.in-Not.is refl)

pub returns-in-Not : goal.returns-in-Not
returns-in-Not c = λ trees are.
    of_kind c.args.context.now c.args.judged.now trees c.args.walk.now c.checked_unary-in-Not.new.walk c.checked_unary-in-Not.result (SyntaxKind.Not) c.in-Not.is (c.checked_unary-in-Not.ensures (last_tree trees) (one_child_of c.args.context.now c.args.walk.now c.args.judged.now trees are SyntaxKind.Not c.in-Not.is refl))

pub checked_unary-requires-in-Count-clause-operand : goal.checked_unary-requires-in-Count-clause-operand
checked_unary-requires-in-Count-clause-operand c = (last_tree c.requires.children.0, one_child_of c.args.context.now c.args.walk.now c.args.judged.now c.requires.children.0 c.requires.children.1 SyntaxKind.Count c.in-Count.is refl)

pub returns-in-Count : goal.returns-in-Count
returns-in-Count c = λ trees are.
    of_kind c.args.context.now c.args.judged.now trees c.args.walk.now c.checked_unary-in-Count.new.walk c.checked_unary-in-Count.result (SyntaxKind.Count) c.in-Count.is (c.checked_unary-in-Count.ensures (last_tree trees) (one_child_of c.args.context.now c.args.walk.now c.args.judged.now trees are SyntaxKind.Count c.in-Count.is refl))

pub checked_unary-requires-in-AnyItem-clause-operand : goal.checked_unary-requires-in-AnyItem-clause-operand
checked_unary-requires-in-AnyItem-clause-operand c = (last_tree c.requires.children.0, one_child_of c.args.context.now c.args.walk.now c.args.judged.now c.requires.children.0 c.requires.children.1 SyntaxKind.AnyItem c.in-AnyItem.is refl)

pub returns-in-AnyItem : goal.returns-in-AnyItem
returns-in-AnyItem c = λ trees are.
    of_kind c.args.context.now c.args.judged.now trees c.args.walk.now c.checked_unary-in-AnyItem.new.walk c.checked_unary-in-AnyItem.result (SyntaxKind.AnyItem) c.in-AnyItem.is (c.checked_unary-in-AnyItem.ensures (last_tree trees) (one_child_of c.args.context.now c.args.walk.now c.args.judged.now trees are SyntaxKind.AnyItem c.in-AnyItem.is refl))

pub checked_operator-requires-clause-operands : goal.checked_operator-requires-clause-operands
checked_operator-requires-clause-operands c = (last_tree (trees_before c.requires.children.0), last_tree c.requires.children.0, two_children_of c.args.context.now c.args.walk.now c.args.judged.now c.requires.children.0 c.requires.children.1 (SyntaxKind.Binary c.in-Binary.operator) c.in-Binary.is refl)

pub returns-in-Binary : goal.returns-in-Binary
returns-in-Binary c = λ trees are.
    of_kind c.args.context.now c.args.judged.now trees c.args.walk.now c.checked_operator.new.walk c.checked_operator.result (SyntaxKind.Binary c.in-Binary.operator) c.in-Binary.is (c.checked_operator.ensures (last_tree (trees_before trees)) (last_tree trees) (two_children_of c.args.context.now c.args.walk.now c.args.judged.now trees are (SyntaxKind.Binary c.in-Binary.operator) c.in-Binary.is refl))

pub checked_infix-requires-clause-operands : goal.checked_infix-requires-clause-operands
checked_infix-requires-clause-operands c = (last_tree (trees_before c.requires.children.0), last_tree c.requires.children.0, two_children_of c.args.context.now c.args.walk.now c.args.judged.now c.requires.children.0 c.requires.children.1 SyntaxKind.Has c.in-Has.is refl)

pub returns-in-Has : goal.returns-in-Has
returns-in-Has c = λ trees are.
    of_kind c.args.context.now c.args.judged.now trees c.args.walk.now c.checked_infix.new.walk c.checked_infix.result (SyntaxKind.Has) c.in-Has.is (c.checked_infix.ensures (last_tree (trees_before trees)) (last_tree trees) (two_children_of c.args.context.now c.args.walk.now c.args.judged.now trees are SyntaxKind.Has c.in-Has.is refl))

pub checked_infix-requires-in-InPath-clause-operands : goal.checked_infix-requires-in-InPath-clause-operands
checked_infix-requires-in-InPath-clause-operands c = (last_tree (trees_before c.requires.children.0), last_tree c.requires.children.0, two_children_of c.args.context.now c.args.walk.now c.args.judged.now c.requires.children.0 c.requires.children.1 SyntaxKind.InPath c.in-InPath.is refl)

pub returns-in-InPath : goal.returns-in-InPath
returns-in-InPath c = λ trees are.
    of_kind c.args.context.now c.args.judged.now trees c.args.walk.now c.checked_infix-in-InPath.new.walk c.checked_infix-in-InPath.result (SyntaxKind.InPath) c.in-InPath.is (c.checked_infix-in-InPath.ensures (last_tree (trees_before trees)) (last_tree trees) (two_children_of c.args.context.now c.args.walk.now c.args.judged.now trees are SyntaxKind.InPath c.in-InPath.is refl))

pub checked_in_list-requires-clause-children : goal.checked_in_list-requires-clause-children
checked_in_list-requires-clause-children c = (last_tree (drop c.args.judged.now.node.now.count c.requires.children.0), last_trees c.args.judged.now.node.now.count c.requires.children.0, list_children_of c.args.context.now c.args.walk.now c.args.judged.now c.requires.children.0 c.requires.children.1 c.in-InList.is)

pub returns-in-InList : goal.returns-in-InList
returns-in-InList c = λ trees are.
    of_kind c.args.context.now c.args.judged.now trees c.args.walk.now c.checked_in_list.new.walk c.checked_in_list.result (SyntaxKind.InList) c.in-InList.is (c.checked_in_list.ensures (last_tree (drop c.args.judged.now.node.now.count trees)) (last_trees c.args.judged.now.node.now.count trees) (list_children_of c.args.context.now c.args.walk.now c.args.judged.now trees are c.in-InList.is))

pub checked_call-requires-clause-text : goal.checked_call-requires-clause-text
checked_call-requires-clause-text c = text_of_kind c.args.judged.now _ SyntaxKind.Call c.in-Call.is tt c.requires.text

pub checked_call-requires-clause-arguments : goal.checked_call-requires-clause-arguments
checked_call-requires-clause-arguments c = (last_trees c.args.judged.now.node.now.count c.requires.children.0, call_children_of c.args.context.now c.args.walk.now c.args.judged.now c.requires.children.0 c.requires.children.1 c.in-Call.is)

pub returns-in-Call : goal.returns-in-Call
returns-in-Call c = λ trees are.
    of_kind c.args.context.now c.args.judged.now trees c.args.walk.now c.checked_call.new.walk c.checked_call.result (SyntaxKind.Call) c.in-Call.is (c.checked_call.ensures (last_trees c.args.judged.now.node.now.count trees) (call_children_of c.args.context.now c.args.walk.now c.args.judged.now trees are c.in-Call.is))
