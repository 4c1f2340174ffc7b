use Rattle.std.proofs.Common.{ap, arith, inl, inr, length, List, refl}
use Rattle.odata_checked_filter.specs.declared.checked_node.CheckedNode.{CheckedNode}
use Rattle.odata_checked_filter.specs.declared.checked_node.NodeKind.{NodeKind}
use Rattle.odata_checked_filter.proofs.flat.Standing.{between_within}
use Rattle.odata_checked_filter.proofs.printed.Shapes.{first_within, shape_at, textless_at}
use Rattle.odata_checked_filter.proofs.printed_list.NodeListPrintedTree.shape.Goals as goal

pub prove-unreachable-requires : goal.prove-unreachable-requires
prove-unreachable-requires c =
    let within = between_within c.args.self.now c.args.node c.requires.0 c.requires.1 c.requires.2 in
    let past = c.if-prove.true in
    omega (arith, within, past, ap (λ (nodes : List CheckedNode). length nodes) c.nodes-count.ensures.same)

pub node-requires : goal.node-requires
node-requires c = first_within c.args.self.now c.args.node c.node-found.result (NodeKind.Lambda c.in-Lambda.quantifier) c.node-found.ensures c.in-Lambda.is tt c.requires

pub node-requires-in-Binary : goal.node-requires-in-Binary
node-requires-in-Binary c = first_within c.args.self.now c.args.node c.node-found.result (NodeKind.Binary c.in-Binary.operator) c.node-found.ensures c.in-Binary.is tt c.requires

pub node-requires-in-Has : goal.node-requires-in-Has
node-requires-in-Has c = first_within c.args.self.now c.args.node c.node-found.result NodeKind.Has c.node-found.ensures c.in-Has.is tt c.requires

pub node-requires-in-InList : goal.node-requires-in-InList
node-requires-in-InList c = first_within c.args.self.now c.args.node c.node-found.result NodeKind.InList c.node-found.ensures c.in-InList.is tt c.requires

pub node-requires-in-InPath : goal.node-requires-in-InPath
node-requires-in-InPath c = first_within c.args.self.now c.args.node c.node-found.result NodeKind.InPath c.node-found.ensures c.in-InPath.is tt c.requires

pub returns-in-Literal : goal.returns-in-Literal
returns-in-Literal c = shape_at c.args.self.now c.args.node c.node-found.result c.node-found.result (NodeKind.Literal c.in-Literal.kind c.in-Literal.value) c.text.result c.node-found.ensures c.in-Literal.is c.text.ensures tt c.requires

pub returns-in-It : goal.returns-in-It
returns-in-It c = textless_at c.args.self.now c.args.node c.node-found.result c.node-found.result NodeKind.It c.node-found.ensures c.in-It.is tt tt c.requires

pub returns-in-Property : goal.returns-in-Property
returns-in-Property c =
    elim c.in-Property.is [
      | inl slot ↦ shape_at c.args.self.now c.args.node c.node-found.result c.node-found.result (NodeKind.Property slot.0) c.text-in-Property.result c.node-found.ensures slot.1 c.text-in-Property.ensures tt c.requires
      | inr level ↦ shape_at c.args.self.now c.args.node c.node-found.result c.node-found.result (NodeKind.Variable level.0) c.text-in-Property.result c.node-found.ensures level.1 c.text-in-Property.ensures tt c.requires
    ]

pub returns-in-Now : goal.returns-in-Now
returns-in-Now c = shape_at c.args.self.now c.args.node c.node-found.result c.node-found.result NodeKind.Now _ c.node-found.ensures c.in-Now.is refl tt c.requires

pub returns-in-Call : goal.returns-in-Call
returns-in-Call c = shape_at c.args.self.now c.args.node c.node-found.result c.node-found.result (NodeKind.Call c.in-Call.function) c.signature.result.name c.node-found.ensures c.in-Call.is c.signature.ensures.name tt c.requires

pub returns-in-Neg : goal.returns-in-Neg
returns-in-Neg c = textless_at c.args.self.now c.args.node c.node-found.result c.node-found.result NodeKind.Neg c.node-found.ensures c.in-Neg.is tt tt c.requires

pub returns-in-Not : goal.returns-in-Not
returns-in-Not c = textless_at c.args.self.now c.args.node c.node-found.result c.node-found.result NodeKind.Not c.node-found.ensures c.in-Not.is tt tt c.requires

pub returns-in-Member : goal.returns-in-Member
returns-in-Member c = shape_at c.args.self.now c.args.node c.node-found.result c.node-found.result (NodeKind.Member c.in-Member.slot) c.text-in-Member.result c.node-found.ensures c.in-Member.is c.text-in-Member.ensures tt c.requires

pub returns-in-Count : goal.returns-in-Count
returns-in-Count c = textless_at c.args.self.now c.args.node c.node-found.result c.node-found.result NodeKind.Count c.node-found.ensures c.in-Count.is tt tt c.requires

pub returns-in-AnyItem : goal.returns-in-AnyItem
returns-in-AnyItem c = textless_at c.args.self.now c.args.node c.node-found.result c.node-found.result NodeKind.AnyItem c.node-found.ensures c.in-AnyItem.is tt tt c.requires

pub returns-in-Lambda : goal.returns-in-Lambda
returns-in-Lambda c = shape_at c.args.self.now c.args.node c.node-found.result c.node.result (NodeKind.Lambda c.in-Lambda.quantifier) c.text-in-Lambda.result c.node-found.ensures c.in-Lambda.is c.text-in-Lambda.ensures c.node.ensures c.requires

pub returns-in-Binary : goal.returns-in-Binary
returns-in-Binary c = textless_at c.args.self.now c.args.node c.node-found.result c.node-in-Binary.result (NodeKind.Binary c.in-Binary.operator) c.node-found.ensures c.in-Binary.is tt c.node-in-Binary.ensures c.requires

pub returns-in-Has : goal.returns-in-Has
returns-in-Has c = textless_at c.args.self.now c.args.node c.node-found.result c.node-in-Has.result NodeKind.Has c.node-found.ensures c.in-Has.is tt c.node-in-Has.ensures c.requires

pub returns-in-InList : goal.returns-in-InList
returns-in-InList c = textless_at c.args.self.now c.args.node c.node-found.result c.node-in-InList.result NodeKind.InList c.node-found.ensures c.in-InList.is tt c.node-in-InList.ensures c.requires

pub returns-in-InPath : goal.returns-in-InPath
returns-in-InPath c = textless_at c.args.self.now c.args.node c.node-found.result c.node-in-InPath.result NodeKind.InPath c.node-found.ensures c.in-InPath.is tt c.node-in-InPath.ensures c.requires
