use Rattle.std.proofs.Common.{◌∙◌, ap, sym, subst, List, ℕ}
use Rattle.csdl_schema.specs.SchemaModel.{slots_of, type_name_at}
use Rattle.odata_syntax.specs.TextTree.{text_in}
use Rattle.odata_signatures.specs.TypeView.{expr_type}
use Rattle.odata_signatures.specs.declared.edm_type.EdmType.{EdmType}
use Rattle.odata_signatures.specs.declared.edm_type.ValueType.{ValueType}
use Rattle.odata_signatures.specs.Typed.{Typed}
use Rattle.odata_signatures.specs.declared.refusal.TypeFaultCode.{TypeFaultCode}
use Rattle.odata_signatures.specs.FirstUntypable.{StepReason}
use Rattle.odata_signatures.specs.Typed.{StepTyped}
use Rattle.csdl_schema.specs.ExprType.{ExprType}
use Rattle.odata_typing.specs.declared.judged_list.Walk.{Walk}
use Rattle.odata_typing.specs.private.CheckContexts.{name_of}
use Rattle.odata_typing.specs.private.Variables.{scope_of}
use Rattle.odata_typing.proofs.flat.Kept.{navigated_more}
use Rattle.odata_typing.proofs.placed.Leaves.{member_put, member_refused, member_refused_so, no_owner}
use Rattle.odata_typing.proofs.placed.Over.{one_child}
use Rattle.odata_typing.proofs.property_node.checked_member.Goals as goal

pub returns-in-Some-put_property : goal.returns-in-Some-put_property
returns-in-Some-put_property c = λ base over.
    let context = c.args.context.now in
    let schema = context.schema.now in
    let judged = c.args.judged.now in
    let old = c.args.walk.now in
    let stands = one_child context old judged base over in
    let type = c.type_at.ensures stands.found stands.at in
    let found = c.in-Some-put_property.ensures in
    member_put c.laws_below.ensures context judged old c.put.new.self base c.put.result c.requires.ready stands
    c.put_property.new.walk c.in-Some.owner c.in-Some-put_property.slot c.in-Some-put_property.edm_type _ (sym type ∙ c.in-Some.ensures.some)
    (navigated_more old c.put_property.new.walk found.walk found.before)
    (ap (λ (w : Walk). w.fault) found.walk ∙ c.requires.ready.ready.fresh)
    found.slot found.typed found.there found.idle c.put.ensures.goes_on
    (ap (λ (w : Walk). text_in w.list.source judged.node.now.text) found.walk ∙ ap (λ (source : List ℕ). text_in source judged.node.now.text) c.requires.ready.ready.source)
    c.put.ensures.put

pub returns-in-None-put_property : goal.returns-in-None-put_property
returns-in-None-put_property c = λ base over.
    let context = c.args.context.now in
    let schema = context.schema.now in
    let judged = c.args.judged.now in
    let old = c.args.walk.now in
    let stands = one_child context old judged base over in
    let of_owner = sym (c.type_at.ensures stands.found stands.at) ∙ c.in-Some.ensures.some in
    let found = c.in-None-put_property.ensures in
    member_refused_so c.laws_below.ensures context judged base (expr_type schema (EdmType.Single (ValueType.Structured c.in-Some.owner))) c.put_property.new.walk.fault
    (subst (λ (t : EdmType). Typed (slots_of schema) (type_name_at schema context.filtered_type) (scope_of context) base (expr_type schema t)) of_owner stands.typed)
    found.untyped found.reason found.span

pub returns-in-None : goal.returns-in-None
returns-in-None c = λ base over.
    let context = c.args.context.now in
    let schema = context.schema.now in
    let judged = c.args.judged.now in
    let old = c.args.walk.now in
    let stands = one_child context old judged base over in
    let type = c.type_at.ensures stands.found stands.at in
    let none = no_owner c.laws_below.ensures context (name_of context judged) c.type_at.result.now c.in-None.ensures.none in
    member_refused c.laws_below.ensures context judged old c.refuse.new.self base c.refuse.result c.requires.ready stands old TypeFaultCode.UnknownProperty
    (subst (λ (t : EdmType). (made : ExprType) → ¬ StepTyped (slots_of schema) (name_of context judged) (expr_type schema t) made) type none.0)
    (subst (λ (t : EdmType). StepReason (slots_of schema) (name_of context judged) (expr_type schema t) TypeFaultCode.UnknownProperty) type none.1)
    c.refuse.ensures.stops c.refuse.ensures.fault
