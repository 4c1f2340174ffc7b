use Rattle.std.proofs.Common.{◌∙◌, ap, subst, List, ℕ, None, Some}
use Rattle.csdl_schema.specs.SchemaModel.{slots_of, type_name_at}
use Rattle.odata_checked_filter.specs.declared.checked_node.NodeKind.{NodeKind}
use Rattle.odata_syntax.specs.TextTree.{text_in}
use Rattle.odata_signatures.specs.TypeView.{expr_type}
use Rattle.odata_typing.specs.declared.judged_list.Walk.{Walk}
use Rattle.odata_typing.specs.private.CheckContexts.{name_of}
use Rattle.odata_typing.specs.private.Variables.{IsNamedBy, scope_of}
use Rattle.odata_typing.proofs.flat.Idle.{idle_bound, idle_name}
use Rattle.odata_typing.proofs.flat.Kept.{navigated_more, same_more}
use Rattle.odata_typing.proofs.placed.Leaves.{name_put, name_refused_so}
use Rattle.odata_typing.proofs.scopes.Scopes.{bound_typed, unbound_types}
use Rattle.odata_typing.proofs.property_node.checked_name.Goals as goal

pub returns-in-Some : goal.returns-in-Some
returns-in-Some c =
    let context = c.args.context.now in
    let schema = context.schema.now in
    let judged = c.args.judged.now in
    let scope = scope_of context in
    let unbound = subst (λ (asked : List ℕ). IsNamedBy schema scope asked None) c.text_in.ensures (rw c.in-Ok-None.field-0-is at c.in-Ok-None.ensures.named schema) in
    let more = navigated_more c.args.walk.now c.put_property.new.walk c.in-Some.ensures.walk c.in-Some.ensures.before in
    name_put c.laws_below.ensures context judged c.args.walk.now c.put.new.self c.put.result c.requires.ready
    c.put_property.new.walk (NodeKind.Property c.in-Some.slot) c.in-Some.edm_type _ c.requires.leaf more
    (ap (λ (w : Walk). w.fault) c.in-Some.ensures.walk ∙ c.requires.ready.ready.fresh)
    (unbound.0, c.in-Some.ensures.slot)
    ((unbound_types (slots_of schema) (type_name_at schema context.filtered_type) scope (name_of context judged) (expr_type schema c.in-Some.edm_type) unbound.1).1 c.in-Some.ensures.typed)
    c.in-Some.ensures.there
    (λ idle. idle_name (slots_of schema) (type_name_at schema context.filtered_type) scope judged.node.now.span.start judged.node.now.span.stop (name_of context judged) (c.in-Some.ensures.idle idle))
    c.put.ensures.goes_on
    (ap (λ (w : Walk). text_in w.list.source judged.node.now.text) c.in-Some.ensures.walk ∙ ap (λ (source : List ℕ). text_in source judged.node.now.text) c.requires.ready.ready.source)
    c.put.ensures.put

pub returns-in-None : goal.returns-in-None
returns-in-None c =
    let context = c.args.context.now in
    let schema = context.schema.now in
    let judged = c.args.judged.now in
    let unbound = subst (λ (asked : List ℕ). IsNamedBy schema (scope_of context) asked None) c.text_in.ensures (rw c.in-Ok-None.field-0-is at c.in-Ok-None.ensures.named schema) in
    name_refused_so c.laws_below.ensures context judged c.put_property.new.walk.fault unbound.1 c.in-None.ensures.untyped c.in-None.ensures.reason c.in-None.ensures.span

pub returns-in-Ok-Some : goal.returns-in-Ok-Some
returns-in-Ok-Some c =
    let context = c.args.context.now in
    let schema = context.schema.now in
    let judged = c.args.judged.now in
    let old = c.args.walk.now in
    let asked : List ℕ = name_of context judged in
    let named = subst (λ (asked : List ℕ). IsNamedBy schema (scope_of context) asked (Some c.in-Ok-Some.variable)) c.text_in.ensures (rw c.in-Ok-Some.field-0-is at c.in-Ok-Some.ensures.named schema) in
    let there = rw c.in-Ok-Some.field-0-is at c.in-Ok-Some.ensures.there schema c.requires.ready.ready.there in
    name_put c.laws_below.ensures context judged old c.put-in-Ok-Some.new.self c.put-in-Ok-Some.result c.requires.ready
    old (NodeKind.Variable c.in-Ok-Some.variable.level) c.in-Ok-Some.variable.edm_type _ c.requires.leaf (same_more old) c.requires.ready.ready.fresh
    named.0 (bound_typed (slots_of schema) (type_name_at schema context.filtered_type) (scope_of context) asked _ named.1) there
    (λ idle. idle_bound (slots_of schema) (type_name_at schema context.filtered_type) (scope_of context) judged.node.now.span.start judged.node.now.span.stop asked _ named.1)
    c.put-in-Ok-Some.ensures.goes_on
    (ap (λ (source : List ℕ). text_in source judged.node.now.text) c.requires.ready.ready.source)
    c.put-in-Ok-Some.ensures.put
