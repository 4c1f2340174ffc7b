use Rattle.std.proofs.Common.{◌≡◌, ◌∷◌, [], refl, slice_get, subst, sym}
use Rattle.edm_values.specs.Val.{text}
use Rattle.odata_checked_filter.specs.declared.checked_node.CheckedNode.{CheckedNode}
use Rattle.odata_checked_filter.specs.declared.checked_node.NodeKind.{NodeKind}
use Rattle.filter_context.proofs.Operands.{operand_inside, tree_of_kind}
use Rattle.odata_filter_operations.specs.FunctionGives.{FunctionGives}
use Rattle.odata_filter_operations.specs.Outcome.{gives}
use Rattle.odata_functions.specs.LowerCase.{in_lower_case}
use Rattle.odata_signatures.specs.declared.function.Function.{Function}
use Rattle.filter_context.proofs.Parts.{some_weaker, there_found}
use Rattle.odata_eval.proofs.kept_operands.lowered_text_at.Goals as goal

pub node-requires : goal.node-requires
node-requires c = operand_inside c.args.context.now c.args.place c.requires

pub only_text_at-requires : goal.only_text_at-requires
only_text_at-requires c =
    let here = there_found (λ (f : CheckedNode). f.kind ≡ NodeKind.Call c.in-Call.function) (slice_get c.args.context.now.list.nodes c.args.place) c.node.result.now c.node.ensures c.in-Call.is in
    record { stands = tree_of_kind c.args.context.now c.args.place (NodeKind.Call c.in-Call.function) tt here c.requires; here = here }

pub returns-in-ToLower : goal.returns-in-ToLower
returns-in-ToLower c =
    some_weaker c.only_text_at.result
    (λ given answers. answers (gives (text (in_lower_case given.now)))
    (subst (λ (f : Function). FunctionGives c.args.context.now.moment f (text given.now ∷ []) (gives (text (in_lower_case given.now)))) (sym c.in-ToLower.is) refl))
    c.only_text_at.ensures
