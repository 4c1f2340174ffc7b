use Rattle.std.proofs.Common.{◌≡◌, ◌+◌, ◌-◌, ◌<◌, ◌∙◌, String, Global, List, Some, length, map, option_map, slice_get, sym, ap, arith}
use Rattle.std.proofs.lemmas.Option.{slice_get-map}
use Rattle.csdl_schema.specs.SchemaModel.{name_in}
use Rattle.csdl_schema.specs.declared.property.Property.{Property}
use Rattle.csdl_schema.specs.private.Placed.{entry_view, own_at}
use Rattle.csdl_schema.specs.private.PlacedView.{placed_of}
use Rattle.csdl_schema.specs.private.SchemaView.{chain_in, model_of, names_of, property_model, IsThere}
use Rattle.csdl_schema.proofs.Entries.{as_many_keys, as_many_values, entry_read}
use Rattle.csdl_schema.proofs.Kept.{each_at}
use Rattle.csdl_schema.proofs.Pieces.{own_within, same_in_front}
use Rattle.csdl_schema.proofs.Placing.{length-map}
use Rattle.csdl_schema.proofs.SlotSteps.{own_slot_is}
use Rattle.csdl_schema.proofs.slots.entry_at.Goals as goal

-- as many entries as are seen
within_own : (es : List (String Global × Property)) (own : List (_ × Property)) (n : _) → map entry_view es ≡ own → n < length own → n < length es
within_own es own n same within =
    let many : length own ≡ length (map entry_view es) = ap length (sym same) in
    let seen : length (map entry_view es) ≡ length es = length-map entry_view es in
    omega (arith, many, seen, within)

pub bounds-names-own : goal.bounds-names-own
bounds-names-own c =
    let ps = placed_of c.args.types.now in
    let chains = c.args.chains.now in
    let owner = c.owner_of-owner.result in
    let es = c.own_entries-entries.result in
    let k = c.args.slot - c.inherited_at.result in
    let split : c.args.slot ≡ (chain_in chains owner).inherited + k = omega (arith, c.inherited_at.ensures, c.owner_of-owner.ensures.own) in
    let within : k < length es = within_own es (own_at ps owner) k c.own_entries-entries.ensures (own_within ps chains c.requires.chained owner c.args.slot k c.owner_of-owner.ensures.within split) in
    let many : length c.as_slice-names.result.now ≡ length es = as_many_keys es c.as_slice-names.result.now (c.as_slice-names.ensures ∙ c.keys.ensures.rest) in
    omega (arith, within, many)

pub bounds-properties-own : goal.bounds-properties-own
bounds-properties-own c =
    let ps = placed_of c.args.types.now in
    let chains = c.args.chains.now in
    let owner = c.owner_of-owner.result in
    let es = c.own_entries-entries.result in
    let k = c.args.slot - c.inherited_at.result in
    let split : c.args.slot ≡ (chain_in chains owner).inherited + k = omega (arith, c.inherited_at.ensures, c.owner_of-owner.ensures.own) in
    let within : k < length es = within_own es (own_at ps owner) k c.own_entries-entries.ensures (own_within ps chains c.requires.chained owner c.args.slot k c.owner_of-owner.ensures.within split) in
    let many : length c.as_slice-properties.result.now ≡ length es =
    as_many_values es c.as_slice-names.result.now (c.as_slice-names.ensures ∙ c.keys.ensures.rest) c.as_slice-properties.result.now (c.as_slice-properties.ensures ∙ c.values.ensures.rest) in
    omega (arith, within, many)

pub returns-clause-entry : goal.returns-clause-entry
returns-clause-entry c =
    let ps = placed_of c.args.types.now in
    let chains = c.args.chains.now in
    let owner = c.owner_of-owner.result in
    let es = c.own_entries-entries.result in
    let model = property_model (name_in (names_of ps)) in
    let k = c.args.slot - c.inherited_at.result in
    let split : c.args.slot ≡ (chain_in chains owner).inherited + k = omega (arith, c.inherited_at.ensures, c.owner_of-owner.ensures.own) in
    let within : k < length es = within_own es (own_at ps owner) k c.own_entries-entries.ensures (own_within ps chains c.requires.chained owner c.args.slot k c.owner_of-owner.ensures.within split) in
    let at : slice_get es k ≡ Some (c.index-names-own.result, c.index-properties-own.result) =
    entry_read es c.as_slice-names.result.now (c.as_slice-names.ensures ∙ c.keys.ensures.rest) c.as_slice-properties.result.now (c.as_slice-properties.ensures ∙ c.values.ensures.rest)
    k c.index-names-own.result c.index-properties-own.result within c.index-names-own.is c.index-properties-own.is in
    sym (same_in_front _ _ c.args.slot c.owner_of-owner.ensures.front c.owner_of-owner.ensures.within)
    ∙ own_slot_is ps chains c.requires.chained owner c.args.slot k c.owner_of-owner.ensures.within split
    ∙ ap (λ es. slice_get (map model es) k) (sym c.own_entries-entries.ensures)
    ∙ slice_get-map model (map entry_view es) k
    ∙ ap (option_map model) (slice_get-map entry_view es k)
    ∙ ap (λ o. option_map model (option_map entry_view o)) at

pub returns-clause-there : goal.returns-clause-there
returns-clause-there c =
    let ps = placed_of c.args.types.now in
    let chains = c.args.chains.now in
    let owner = c.owner_of-owner.result in
    let es = c.own_entries-entries.result in
    let k = c.args.slot - c.inherited_at.result in
    let split : c.args.slot ≡ (chain_in chains owner).inherited + k = omega (arith, c.inherited_at.ensures, c.owner_of-owner.ensures.own) in
    let within : k < length es = within_own es (own_at ps owner) k c.own_entries-entries.ensures (own_within ps chains c.requires.chained owner c.args.slot k c.owner_of-owner.ensures.within split) in
    let at : slice_get es k ≡ Some (c.index-names-own.result, c.index-properties-own.result) =
    entry_read es c.as_slice-names.result.now (c.as_slice-names.ensures ∙ c.keys.ensures.rest) c.as_slice-properties.result.now (c.as_slice-properties.ensures ∙ c.values.ensures.rest)
    k c.index-names-own.result c.index-properties-own.result within c.index-names-own.is c.index-properties-own.is in
    each_at (λ e. IsThere (model_of ps) e.1) (own_at ps owner) k _ (c.requires.chained.kinds owner)
    (ap (λ es. slice_get es k) (sym c.own_entries-entries.ensures) ∙ slice_get-map entry_view es k ∙ ap (option_map entry_view) at)
