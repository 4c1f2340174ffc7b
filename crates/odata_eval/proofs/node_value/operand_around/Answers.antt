use Rattle.std.proofs.Common.{◌≡◌, ◌+◌, arith, refl}
use Rattle.odata_checked_filter.specs.declared.checked_node.CheckedNode.{CheckedNode}
use Rattle.odata_checked_filter.specs.declared.checked_node.NodeKind.{NodeKind}
use Rattle.filter_context.proofs.Operands.{operand_inside}
use Rattle.filter_context.proofs.Parts.{there_found}
use Rattle.odata_eval.proofs.walking.NodeWays.{base_operand, body_around, operand_lies, operands_of}
use Rattle.odata_eval.proofs.node_value.operand_around.Goals as goal

pub node-requires : goal.node-requires
node-requires c = operand_inside c.args.context.now c.args.outer c.requires.lies.stands

pub stop_of-requires : goal.stop_of-requires
stop_of-requires c =
    operand_inside c.args.context.now (c.args.outer + 1)
    (base_operand c.args.context.now c.args.outer _ (there_found (λ (f : CheckedNode). f.kind ≡ NodeKind.Lambda _) _ c.node.result.now c.node.ensures c.in-Lambda.is) c.requires.lies.stands)

pub operand_in_line-requires : goal.operand_in_line-requires
operand_in_line-requires c = record {
  operands = operands_of c.args.context.now c.args.outer c.args.index c.node.result.now.kind
      (there_found (λ (f : CheckedNode). f.kind ≡ c.node.result.now.kind) _ c.node.result.now c.node.ensures refl) c.in_default.not-Lambda c.requires.lies c.requires.further;
  further = c.requires.further;
}

pub returns-then-index-stop_of : goal.returns-then-index-stop_of
returns-then-index-stop_of c = (
  operand_lies c.args.context.now (c.args.outer + 1) c.stop_of.result c.args.index
      (base_operand c.args.context.now c.args.outer _ (there_found (λ (f : CheckedNode). f.kind ≡ NodeKind.Lambda _) _ c.node.result.now c.node.ensures c.in-Lambda.is) c.requires.lies.stands)
      c.stop_of.ensures (omega arith) (omega arith),
  omega arith,
)

pub returns-else-index-stop_of : goal.returns-else-index-stop_of
returns-else-index-stop_of c =
    body_around c.args.context.now c.args.outer c.args.index c.stop_of.result _ c.node.result.now c.node.ensures c.in-Lambda.is c.requires.lies c.stop_of.ensures (omega arith)
