use Rattle.std.proofs.Common.{◌≡◌, ◌∙◌, ap, subst, sym, List, ℕ}
use Rattle.odata_syntax.specs.TextTree.{text_in}
use Rattle.odata_syntax.specs.declared.node.Quantifier.{Quantifier}
use Rattle.odata_syntax.specs.declared.syntax_list.SyntaxKind.{SyntaxKind}
use Rattle.odata_checked_filter.specs.declared.checked_node.NodeKind.{NodeKind}
use Rattle.odata_signatures.specs.ExprTypes.{IsBooleanOrNull}
use Rattle.odata_signatures.specs.TypeView.{expr_type}
use Rattle.odata_signatures.specs.declared.edm_type.EdmType.{EdmType}
use Rattle.odata_typing.specs.private.Walks.{truth_type, walk_put}
use Rattle.odata_typing.proofs.bodies.Bodies.{body_type, lambda_put, lambda_refused}
use Rattle.odata_typing.proofs.bodies.Faults.{not_truth}
use Rattle.odata_typing.proofs.lambda_node.close_lambda.Goals as goal

pub returns-then-is_truth : goal.returns-then-is_truth
returns-then-is_truth c = λ quantifier base body is over.
    let form : SyntaxKind.Lambda c.in-Lambda.quantifier ≡ SyntaxKind.Lambda quantifier = sym c.in-Lambda.is ∙ is in
    let same : c.in-Lambda.quantifier ≡ quantifier = cc in
    let context = c.args.context.now in
    let schema = context.schema.now in
    let judged = c.args.judged.now in
    let old = c.args.walk.now in
    let type = body_type context judged old base body over c.stop_at-body.result c.type_at.result.now (c.stop_at-body.ensures over.base_stands.found over.base_stands.at) c.type_at.ensures in
    lambda_put c.laws_below.ensures context judged old c.put.new.self quantifier base body c.put.result c.requires.ready over _
    (subst (λ (t : EdmType). IsBooleanOrNull (expr_type schema t)) type ((c.is_truth.ensures schema).0 c.if-is_truth.true))
    c.put.ensures.goes_on
    (ap (λ (source : List ℕ). text_in source judged.node.now.text) c.requires.ready.ready.source)
    (subst (λ (q : Quantifier). c.put.new.self ≡ walk_put old judged (NodeKind.Lambda q) truth_type (text_in old.list.source judged.node.now.text)) same c.put.ensures.put)

pub returns-else-is_truth : goal.returns-else-is_truth
returns-else-is_truth c = λ quantifier base body is over.
    let context = c.args.context.now in
    let schema = context.schema.now in
    let judged = c.args.judged.now in
    let old = c.args.walk.now in
    let type = body_type context judged old base body over c.stop_at-body.result c.type_at.result.now (c.stop_at-body.ensures over.base_stands.found over.base_stands.at) c.type_at.ensures in
    lambda_refused c.laws_below.ensures context judged old c.refuse.new.self quantifier base body c.refuse.result c.requires.ready over
    (subst (λ (t : EdmType). ¬ IsBooleanOrNull (expr_type schema t)) type (not_truth schema c.type_at.result.now c.is_truth.result (c.is_truth.ensures schema) c.if-is_truth.false))
    c.refuse.ensures.stops c.refuse.ensures.fault

pub returns-in_default : goal.returns-in_default
returns-in_default c = λ quantifier base body is over. absurd (c.in_default.not-Lambda quantifier is)
