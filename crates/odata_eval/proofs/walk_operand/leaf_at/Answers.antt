use Rattle.std.proofs.Common.{◌≡◌, Option, IsSomeAnd, subst, sym}
use Rattle.edm_values.specs.declared.value.Value.{Value}
use Rattle.odata_checked_filter.specs.declared.checked_node.CheckedNode.{CheckedNode}
use Rattle.odata_checked_filter.specs.declared.checked_node.NodeKind.{NodeKind}
use Rattle.odata_eval.proofs.walking.Leaves.{it_answers, literal_answers, literal_within, now_answers, property_answers, property_within, variable_answers, variable_within}
use Rattle.filter_context.proofs.Parts.{there_found}
use Rattle.filter_context.proofs.Spines.{only_it}
use Rattle.filter_context.specs.declared.walk_class.WalkClass.{WalkClass}
use Rattle.odata_eval.specs.private.WalkAnswer.{AnswersKept}
use Rattle.filter_context.specs.WalkClass.{walk_of_kind}
use Rattle.odata_eval.proofs.walk_operand.leaf_at.Goals as goal

pub returns-in-Literal : goal.returns-in-Literal
returns-in-Literal c =
    literal_answers c.args.context.now c.args.place _ c.in-Literal.value
    (there_found (λ (f : CheckedNode). f.kind ≡ NodeKind.Literal _ c.in-Literal.value) _ c.node.result.now c.node.ensures c.in-Literal.is)
    c.literal.result.now c.literal.ensures

pub returns-in-Property : goal.returns-in-Property
returns-in-Property c =
    property_answers c.args.context.now c.args.place c.in-Property.slot
    (there_found (λ (f : CheckedNode). f.kind ≡ NodeKind.Property c.in-Property.slot) _ c.node.result.now c.node.ensures c.in-Property.is)
    c.property.result.now c.property.ensures

pub returns-in-Now : goal.returns-in-Now
returns-in-Now c =
    now_answers c.args.context.now c.args.place (there_found (λ (f : CheckedNode). f.kind ≡ NodeKind.Now) _ c.node.result.now c.node.ensures c.in-Now.is)
    c.now_value.result.now c.now_value.ensures

pub variable-requires : goal.variable-requires
variable-requires c =
    variable_within c.args.context.now c.args.place c.in-Variable.level
    (there_found (λ (f : CheckedNode). f.kind ≡ NodeKind.Variable c.in-Variable.level) _ c.node.result.now c.node.ensures c.in-Variable.is) c.requires.stands

pub returns-in-Variable : goal.returns-in-Variable
returns-in-Variable c =
    variable_answers c.args.context.now c.args.place c.in-Variable.level
    (there_found (λ (f : CheckedNode). f.kind ≡ NodeKind.Variable c.in-Variable.level) _ c.node.result.now c.node.ensures c.in-Variable.is)
    c.variable.result.now c.variable.ensures

pub literal-requires : goal.literal-requires
literal-requires c =
    literal_within c.args.context.now c.args.place _ c.in-Literal.value
    (there_found (λ (f : CheckedNode). f.kind ≡ NodeKind.Literal _ c.in-Literal.value) _ c.node.result.now c.node.ensures c.in-Literal.is) c.requires.stands

pub property-requires : goal.property-requires
property-requires c =
    property_within c.args.context.now c.args.place c.in-Property.slot
    (there_found (λ (f : CheckedNode). f.kind ≡ NodeKind.Property c.in-Property.slot) _ c.node.result.now c.node.ensures c.in-Property.is) c.requires.stands

pub returns-in_default : goal.returns-in_default
returns-in_default c =
    let kind = c.node.result.now.kind in
    let leaf : walk_of_kind kind ≡ WalkClass.Leaf = subst (λ (o : Option CheckedNode). IsSomeAnd o (λ f. walk_of_kind f.kind ≡ WalkClass.Leaf)) c.node.ensures c.requires.leaf in
    let it : kind ≡ NodeKind.It = only_it kind leaf c.in_default.not-Literal c.in_default.not-Now c.in_default.not-Property c.in_default.not-Variable in
    subst (λ (v : Value). AnswersKept c.args.context.now c.args.place v) (sym c.value.ensures)
    (it_answers c.args.context.now c.args.place (there_found (λ (f : CheckedNode). f.kind ≡ NodeKind.It) _ c.node.result.now c.node.ensures it))
