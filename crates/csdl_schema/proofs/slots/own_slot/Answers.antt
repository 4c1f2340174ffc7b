use Rattle.std.proofs.Common.{◌≡◌, ◌+◌, ◌∙◌, Some, None, nat_eq, length, map, option_map, position, sym, ap, arith}
use Rattle.std.specs.Cmp.Lexicographic.{pointwise}
use Rattle.csdl_schema.specs.private.Placed.{entry_view, own_at}
use Rattle.csdl_schema.specs.private.PlacedView.{placed_of, structured_view}
use Rattle.csdl_schema.specs.private.SchemaView.{chain_in}
use Rattle.csdl_schema.specs.private.Slots.{structured_in}
use Rattle.csdl_schema.proofs.Placing.{length-map, position-map}
use Rattle.csdl_schema.proofs.SlotSteps.{of_structured, slots_fit}
use Rattle.csdl_schema.proofs.slots.own_slot.Goals as goal

pub overflow_add-result : goal.overflow_add-result
overflow_add-result c =
    let ps = placed_of c.args.types.now in
    let es = c.in-Some.structured.now.properties.entries in
    let is : structured_in ps c.args.index ≡ Some (structured_view c.in-Some.structured.now) = sym c.structured_at.ensures ∙ ap (option_map (λ s. structured_view s.now)) c.in-Some.is in
    let fit = slots_fit ps c.args.chains.now c.requires c.args.index _ is in
    let many : length (map entry_view es) ≡ length es = length-map entry_view es in
    omega (arith, fit, many, c.in-Some-get_index_of.ensures.within, c.inherited_at.ensures)

pub returns-in-Some-get_index_of : goal.returns-in-Some-get_index_of
returns-in-Some-get_index_of c =
    let ps = placed_of c.args.types.now in
    let name = c.args.name.now in
    let es = c.in-Some.structured.now.properties.entries in
    let is : structured_in ps c.args.index ≡ Some (structured_view c.in-Some.structured.now) = sym c.structured_at.ensures ∙ ap (option_map (λ s. structured_view s.now)) c.in-Some.is in
    let own : own_at ps c.args.index ≡ map entry_view es = (of_structured ps c.args.chains.now c.requires c.args.index _ is).1 in
    let found : Some c.in-Some-get_index_of.own ≡ position (λ e. pointwise nat_eq name e.0) (own_at ps c.args.index) =
    c.in-Some-get_index_of.ensures.index
    ∙ position-map (λ e. e.0) _ es
    ∙ sym (position-map entry_view (λ e. pointwise nat_eq name e.0) es)
    ∙ ap (position (λ e. pointwise nat_eq name e.0)) (sym own) in
    λ j. option_map (λ i. c.inherited_at.ensures j + i) (found j)

pub returns-in-None-get_index_of : goal.returns-in-None-get_index_of
returns-in-None-get_index_of c =
    let ps = placed_of c.args.types.now in
    let name = c.args.name.now in
    let es = c.in-Some.structured.now.properties.entries in
    let is : structured_in ps c.args.index ≡ Some (structured_view c.in-Some.structured.now) = sym c.structured_at.ensures ∙ ap (option_map (λ s. structured_view s.now)) c.in-Some.is in
    let own : own_at ps c.args.index ≡ map entry_view es = (of_structured ps c.args.chains.now c.requires c.args.index _ is).1 in
    let found : None ≡ position (λ e. pointwise nat_eq name e.0) (own_at ps c.args.index) =
    c.in-None-get_index_of.ensures.index
    ∙ position-map (λ e. e.0) _ es
    ∙ sym (position-map entry_view (λ e. pointwise nat_eq name e.0) es)
    ∙ ap (position (λ e. pointwise nat_eq name e.0)) (sym own) in
    ap (option_map (λ i. (chain_in c.args.chains.now c.args.index).inherited + i)) found
