use Rattle.std.proofs.Common.{◌≡◌, ◌∙◌, List, ℕ, Some, map, option_map, slice_get, string_bytes, sym, ap, subst}
use Rattle.std.proofs.lemmas.Option.{slice_get-map}
use Rattle.csdl_schema.specs.declared.named_type.NamedType.{NamedType}
use Rattle.csdl_schema.specs.SchemaModel.{PropertyModel, name_in, properties_at}
use Rattle.csdl_schema.specs.private.PlacedView.{placed_of}
use Rattle.csdl_schema.specs.private.SchemaView.{model_of, names_of, property_model}
use Rattle.csdl_schema.proofs.schema.Schema.slot_name.Goals as goal

pub returns : goal.returns
returns c =
    let nm = string_bytes c.entry_at.result.0.now in
    let pr = c.entry_at.result.1.now in
    let items = c.self.inside.types.items in
    let P : List NamedType → ℕ → Type 0 = λ ts n. slice_get (properties_at (model_of (placed_of ts)) n) c.args.slot ≡ Some (property_model (name_in (names_of (placed_of ts))) (nm, pr)) in
    let at : P items c.args.id = subst (λ ts. P ts c.args.id) c.deref.ensures.value (subst (λ n. P c.deref.result.now n) c.index.ensures c.entry_at.ensures.entry) in
    let name = λ (p : PropertyModel). p.name in
    ap (λ s. slice_get (map name (properties_at s c.args.id)) c.args.slot) (sym c.self.view_is)
    ∙ slice_get-map name (properties_at (model_of (placed_of items)) c.args.id) c.args.slot
    ∙ ap (option_map name) at
    ∙ ap Some (sym c.as_str.ensures.value)
