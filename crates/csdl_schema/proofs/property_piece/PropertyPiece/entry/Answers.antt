use Rattle.std.proofs.Common.{◌≡◌, ◌<◌, ◌∙◌, ℕ, List, Some, length, map, option_map, slice_get, sym, ap, subst, arith}
use Rattle.std.proofs.lemmas.Option.{slice_get-map}
use Rattle.csdl_schema.specs.declared.property.Property.{Property}
use Rattle.csdl_schema.specs.private.Placed.{entry_view}
use Rattle.csdl_schema.proofs.Entries.{entry_read}
use Rattle.csdl_schema.proofs.Placing.{length-map}
use Rattle.csdl_schema.proofs.property_piece.PropertyPiece.entry.Goals as goal

pub returns : goal.returns
returns c =
    let es = c.self.inside.entries in
    let name = c.index-names-index.result in
    let property = c.index-properties-index.result in
    let seen : length (map entry_view es) ≡ length c.args.self.now = ap length c.self.view_is in
    let many : length (map entry_view es) ≡ length es = length-map entry_view es in
    let within : c.args.index < length es = omega (arith, seen, many, c.requires) in
    let at : slice_get es c.args.index ≡ Some (name, property) =
    entry_read es c.as_slice-names.result.now (c.as_slice-names.ensures ∙ c.keys.ensures.rest) c.as_slice-properties.result.now (c.as_slice-properties.ensures ∙ c.values.ensures.rest)
    c.args.index name property within c.index-names-index.is c.index-properties-index.is in
    subst (λ (entries : List (List ℕ × Property)). slice_get entries c.args.index ≡ Some (c.as_str.result.now, property)) c.self.view_is
    (slice_get-map entry_view es c.args.index ∙ ap (option_map entry_view) at ∙ ap (λ (b : List ℕ). Some (b, property)) (sym c.as_str.ensures.value))
