use Rattle.std.proofs.Common.{sym, subst, List, ℕ}
use Rattle.csdl_schema.specs.SchemaModel.{properties_at}
use Rattle.odata_signatures.specs.FirstUntypable.{NameReason}
use Rattle.odata_signatures.specs.Typed.{PropertyTyped}
use Rattle.odata_signatures.specs.declared.refusal.TypeFaultCode.{TypeFaultCode}
use Rattle.odata_typing.proofs.untypable.Names.{found_at, idle_at, property_typed, refused_reason, refused_untyped, unknown_reason, unknown_untyped}
use Rattle.odata_typing.proofs.property_node.put_property.Goals as goal

pub returns-in-Some-property_edm_type-clause-typed : goal.returns-in-Some-property_edm_type-clause-typed
returns-in-Some-property_edm_type-clause-typed c =
    let schema = c.args.context.now.schema.now in
    let properties = properties_at schema c.args.owner in
    let is = found_at schema properties c.text_in.result.now _ c.in-Some.slot c.property-property.result.now c.text_in.ensures (sym c.in-Some.ensures) c.property-property.ensures in
    property_typed schema properties _ c.property-property.result.now is _ (c.in-Some-property_edm_type.ensures.named schema)

pub returns-in-Some-property_edm_type-clause-there : goal.returns-in-Some-property_edm_type-clause-there
returns-in-Some-property_edm_type-clause-there c =
    let schema = c.args.context.now.schema.now in
    let properties = properties_at schema c.args.owner in
    let is = found_at schema properties c.text_in.result.now _ c.in-Some.slot c.property-property.result.now c.text_in.ensures (sym c.in-Some.ensures) c.property-property.ensures in
    c.in-Some-property_edm_type.ensures.there schema is.read.there

pub returns-in-Some-property_edm_type-clause-idle : goal.returns-in-Some-property_edm_type-clause-idle
returns-in-Some-property_edm_type-clause-idle c = λ idle.
    let schema = c.args.context.now.schema.now in
    let properties = properties_at schema c.args.owner in
    let is = found_at schema properties c.text_in.result.now _ c.in-Some.slot c.property-property.result.now c.text_in.ensures (sym c.in-Some.ensures) c.property-property.ensures in
    idle_at schema properties _ c.property-property.result.now is (c.go_over.ensures.target idle)

pub returns-in-None-property_edm_type-clause-reason : goal.returns-in-None-property_edm_type-clause-reason
returns-in-None-property_edm_type-clause-reason c =
    let schema = c.args.context.now.schema.now in
    let properties = properties_at schema c.args.owner in
    let is = found_at schema properties c.text_in.result.now _ c.in-Some.slot c.property-property.result.now c.text_in.ensures (sym c.in-Some.ensures) c.property-property.ensures in
    rw c.refuse.ensures.fault (refused_reason schema properties _ c.property-property.result.now is TypeFaultCode.TypeLeftOut (c.in-None-property_edm_type.ensures.reason schema))

pub returns-in-None-property_edm_type-clause-untyped : goal.returns-in-None-property_edm_type-clause-untyped
returns-in-None-property_edm_type-clause-untyped c = λ type.
    let schema = c.args.context.now.schema.now in
    let properties = properties_at schema c.args.owner in
    let is = found_at schema properties c.text_in.result.now _ c.in-Some.slot c.property-property.result.now c.text_in.ensures (sym c.in-Some.ensures) c.property-property.ensures in
    refused_untyped schema properties _ c.property-property.result.now is TypeFaultCode.TypeLeftOut type (c.in-None-property_edm_type.ensures.reason schema)

pub returns-in-None-clause-reason : goal.returns-in-None-clause-reason
returns-in-None-clause-reason c =
    let properties = properties_at c.args.context.now.schema.now c.args.owner in
    rw c.refuse-in-None.ensures.fault
    (subst (λ (asked : List ℕ). NameReason properties asked TypeFaultCode.UnknownProperty) c.text_in.ensures
    (unknown_reason properties c.text_in.result.now (sym c.in-None.ensures)))

pub returns-in-None-clause-untyped : goal.returns-in-None-clause-untyped
returns-in-None-clause-untyped c = λ type.
    let properties = properties_at c.args.context.now.schema.now c.args.owner in
    subst (λ (asked : List ℕ). ¬ PropertyTyped properties asked type) c.text_in.ensures
    (unknown_untyped properties c.text_in.result.now type (sym c.in-None.ensures))
