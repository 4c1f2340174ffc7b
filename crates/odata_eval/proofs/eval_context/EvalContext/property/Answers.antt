use Rattle.std.proofs.Common.{◌≡◌, ◌∙◌, ◌<◌, List, Some, ap, arith, length, refl, rules, slice_get, subst, sym}
use Rattle.std.proofs.lemmas.Option.{slice_get_read}
use Rattle.edm_values.specs.declared.value.Value.{Value, Record, the_lemmas}
use Rattle.csdl_schema.specs.SchemaModel.{properties_at}
use Rattle.odata_checked_filter.specs.declared.checked_node.CheckedNode.{CheckedNode}
use Rattle.filter_context.specs.private.EvalContext.{HoldsAt}
use Rattle.filter_context.specs.private.ContextModel.{IsContext, ContextModel}
use Rattle.odata_eval.proofs.eval_context.EvalContext.property.Goals as goal

-- there are as many values as properties
as_many : (context : ContextModel) (nodes : List CheckedNode) (values slots : List Value) (now : Value) → IsContext context nodes values slots now
    → length slots ≡ length (properties_at context.row.schema context.row.type_id)
as_many context nodes values slots now is =
    let entity = is.entity.holds_slots in
    let same : Record is.held ≡ Record entity.slots = sym is.value_is ∙ entity.value_is in
    let items : is.held.items ≡ entity.slots.items = search (rules, the_lemmas) in
    ap (λ (xs : List Value). length xs) (is.slots_are ∙ items) ∙ entity.as_many

pub bounds-slots-slot : goal.bounds-slots-slot
bounds-slots-slot c =
    let slots = c.self.inside.slots.now in
    let count : length slots ≡ length (properties_at c.args.self.now.row.schema c.args.self.now.row.type_id) =
    subst (λ (s : ContextModel). length slots ≡ length (properties_at s.row.schema s.row.type_id)) c.self.view_is (as_many _ _ _ _ _ c.self.invariant) in
    omega (arith, count, c.requires)

pub offset_bounds-slots-slot : goal.offset_bounds-slots-slot
offset_bounds-slots-slot c =
    let slots = c.self.inside.slots.now in
    let count : length slots ≡ length (properties_at c.args.self.now.row.schema c.args.self.now.row.type_id) =
    subst (λ (s : ContextModel). length slots ≡ length (properties_at s.row.schema s.row.type_id)) c.self.view_is (as_many _ _ _ _ _ c.self.invariant) in
    let within : c.args.slot < length slots = omega (arith, count, c.requires) in
    record { fits = omega (arith, within, c.self.told) }

pub returns : goal.returns
returns c =
    let slots = c.self.inside.slots.now in
    let count : length slots ≡ length (properties_at c.args.self.now.row.schema c.args.self.now.row.type_id) =
    subst (λ (s : ContextModel). length slots ≡ length (properties_at s.row.schema s.row.type_id)) c.self.view_is (as_many _ _ _ _ _ c.self.invariant) in
    let within : c.args.slot < length slots = omega (arith, count, c.requires) in
    let value : Value = c.index-slots-slot.result in
    let read : slice_get slots c.args.slot ≡ Some value = slice_get_read slots (length slots) c.args.slot value refl within c.index-slots-slot.is in
    subst (λ (s : ContextModel). HoldsAt s.row c.args.slot value) c.self.view_is
    (c.self.invariant.held, (c.self.invariant.value_is, subst (λ (xs : List Value). slice_get xs c.args.slot ≡ Some value) c.self.invariant.slots_are read))
