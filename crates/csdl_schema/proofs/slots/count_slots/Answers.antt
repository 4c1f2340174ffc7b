use Rattle.std.proofs.Common.{◌≡◌, ◌∙◌, Some, length, map, option_map, sym, ap, arith}
use Rattle.csdl_schema.specs.private.Placed.{entry_view}
use Rattle.csdl_schema.specs.private.PlacedView.{placed_of, structured_view}
use Rattle.csdl_schema.specs.private.Slots.{structured_in}
use Rattle.csdl_schema.proofs.Placing.{length-map}
use Rattle.csdl_schema.proofs.SlotSteps.{slots_fit}
use Rattle.csdl_schema.proofs.slots.count_slots.Goals as goal

pub overflow_add-result : goal.overflow_add-result
overflow_add-result c =
    let ps = placed_of c.args.types.now in
    let es = c.in-Some.structured.now.properties.entries in
    let is : structured_in ps c.args.index ≡ Some (structured_view c.in-Some.structured.now) = sym c.structured_at.ensures ∙ ap (option_map (λ s. structured_view s.now)) c.in-Some.is in
    let fit = slots_fit ps c.args.chains.now c.requires c.args.index _ is in
    let many : length (map entry_view es) ≡ length es = length-map entry_view es in
    omega (arith, fit, many, c.len.ensures.len, c.inherited_at.ensures)
