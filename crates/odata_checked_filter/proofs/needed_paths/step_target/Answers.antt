use Rattle.std.proofs.Common.{◌≡◌, ◌<◌, ◌+◌, ℕ, slice_get, sym, ◌∙◌, ap, subst, arith, rules}
use mir.Syntax.{w64}
use mir.Val.{Fits}
use Rattle.odata_signatures.specs.declared.edm_type.EdmType.{EdmType}
use Rattle.odata_signatures.specs.declared.edm_type.ValueType.{ValueType}
use Rattle.odata_checked_filter.specs.declared.checked_node.CheckedNode.{CheckedNode}
use Rattle.odata_checked_filter.specs.declared.checked_node.NodeKind.{NodeKind}
use Rattle.odata_checked_filter.specs.private.NeededPaths.{IsTargetAt}
use Rattle.odata_checked_filter.proofs.flat.Places.{same_found}
use Rattle.odata_checked_filter.proofs.flat.Standing.{lies_last, lies_nonempty, lies_within}
use Rattle.odata_checked_filter.proofs.needed.Kinds.{step_there}
use Rattle.odata_checked_filter.proofs.needed.Paths.{owner_there}
use Rattle.odata_checked_filter.proofs.needed.StepRows.{some_there}
use Rattle.odata_checked_filter.proofs.needed_paths.step_target.Goals as goal

-- what stands after a node begins before that stops
place_fits : (place stop : ℕ) (found : CheckedNode) → place + 1 < stop → found.stop ≡ stop → Fits w64 found.stop → Fits w64 (place + 1)
place_fits place stop found before last fits = omega (arith, before, last, fits)

pub node-requires : goal.node-requires
node-requires c =
    let r = c.requires in
    lies_within c.args.context.now.schema.now c.args.context.now.filtered_type r.scope c.args.context.now.list.now c.args.place r.stop r.tree r.stands

pub overflow_add-place : goal.overflow_add-place
overflow_add-place c =
    let r = c.requires in
    let schema = c.args.context.now.schema.now in
    let n = c.args.context.now.filtered_type in
    let list = c.args.context.now.list.now in
    let there = step_there schema n r.scope list c.args.place r.stop c.in-Member.slot r.tree c.node.result r.stands c.node.ensures c.in-Member.is in
    let before : c.args.place + 1 < r.stop = lies_nonempty schema n r.scope list (c.args.place + 1) r.stop there.base there.base_stands in
    let last = lies_last schema n r.scope list c.args.place r.stop r.tree c.node.result r.stands c.node.ensures in
    place_fits c.args.place r.stop c.node.result before last (search (rules, c.node.type_inv))

pub node-base-requires : goal.node-base-requires
node-base-requires c =
    let r = c.requires in
    let schema = c.args.context.now.schema.now in
    let n = c.args.context.now.filtered_type in
    let list = c.args.context.now.list.now in
    let there = step_there schema n r.scope list c.args.place r.stop c.in-Member.slot r.tree c.node.result r.stands c.node.ensures c.in-Member.is in
    lies_within schema n r.scope list (c.args.place + 1) r.stop there.base there.base_stands

pub target_at-requires : goal.target_at-requires
target_at-requires c =
    let r = c.requires in
    let schema = c.args.context.now.schema.now in
    let n = c.args.context.now.filtered_type in
    let list = c.args.context.now.list.now in
    let there = step_there schema n r.scope list c.args.place r.stop c.in-Member.slot r.tree c.node.result r.stands c.node.ensures c.in-Member.is in
    let owner = owner_there c.trees_have_one_type.ensures schema n r.scope list c.args.place r.stop c.in-Member.slot r.tree c.node-base.result there c.node-base.ensures in
    (owner.id, owner.type_is, owner.slot_in)

same_slot : (a b : ℕ) → NodeKind.Member a ≡ NodeKind.Member b → a ≡ b
same_slot a b is = cc

pub returns-in-Member : goal.returns-in-Member
returns-in-Member c slot id on =
    let schema = c.args.context.now.schema.now in
    let list = c.args.context.now.list.now in
    let here = some_there (λ found. found.kind ≡ NodeKind.Member slot) (slice_get list.nodes c.args.place) on.0 in
    let step : here.0 ≡ c.node.result = same_found (slice_get list.nodes c.args.place) here.0 c.node.result here.1.0 c.node.ensures in
    let slots : slot ≡ c.in-Member.slot = same_slot slot c.in-Member.slot (sym here.1.1 ∙ ap (λ (f : CheckedNode). f.kind) step ∙ c.in-Member.is) in
    let below = some_there (λ base. base.edm_type ≡ EdmType.Single (ValueType.Structured id)) (slice_get list.nodes (c.args.place + 1)) on.1 in
    let base : below.0 ≡ c.node-base.result = same_found (slice_get list.nodes (c.args.place + 1)) below.0 c.node-base.result below.1.0 c.node-base.ensures in
    let typed : c.node-base.result.edm_type ≡ EdmType.Single (ValueType.Structured id) = ap (λ (f : CheckedNode). f.edm_type) (sym base) ∙ below.1.1 in
    subst (λ (k : ℕ). IsTargetAt schema id k c.target_at.result) (sym slots) (c.target_at.ensures id typed)

pub returns-in_default : goal.returns-in_default
returns-in_default c slot id on =
    let list = c.args.context.now.list.now in
    let here = some_there (λ found. found.kind ≡ NodeKind.Member slot) (slice_get list.nodes c.args.place) on.0 in
    let same : here.0 ≡ c.node.result = same_found (slice_get list.nodes c.args.place) here.0 c.node.result here.1.0 c.node.ensures in
    absurd (c.in_default.not-Member slot (sym (ap (λ (f : CheckedNode). f.kind) same) ∙ here.1.1))
