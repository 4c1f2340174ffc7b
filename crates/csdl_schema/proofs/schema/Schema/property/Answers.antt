use Rattle.std.proofs.Common.{◌≡◌, List, ℕ, Some, IfSome, slice_get, string_bytes, sym, subst}
use Rattle.csdl_schema.specs.PropertyView.{IsReadAs}
use Rattle.csdl_schema.specs.declared.named_type.NamedType.{NamedType}
use Rattle.csdl_schema.specs.SchemaModel.{name_in, properties_at}
use Rattle.csdl_schema.specs.private.PlacedView.{placed_of}
use Rattle.csdl_schema.specs.private.SchemaView.{model_of, names_of, property_model, IsThere}
use Rattle.csdl_schema.proofs.LookUps.{read_as}
use Rattle.csdl_schema.proofs.schema.Schema.property.Goals as goal

pub returns : goal.returns
returns c =
    let nm = string_bytes c.entry_at.result.0.now in
    let pr = c.entry_at.result.1.now in
    let items = c.self.inside.types.items in
    let P : List NamedType → ℕ → Type 0 = λ ts n. slice_get (properties_at (model_of (placed_of ts)) n) c.args.slot ≡ Some (property_model (name_in (names_of (placed_of ts))) (nm, pr)) in
    let at : P items c.args.id = subst (λ ts. P ts c.args.id) c.deref.ensures.value (subst (λ n. P c.deref.result.now n) c.index.ensures c.entry_at.ensures.entry) in
    let there : IsThere (model_of (placed_of items)) pr = subst (λ ts. IsThere (model_of (placed_of ts)) pr) c.deref.ensures.value c.entry_at.ensures.there in
    subst (λ s. IfSome (slice_get (properties_at s c.args.id) c.args.slot) (λ p. IsReadAs s p pr)) c.self.view_is
    (subst (λ o. IfSome o (λ p. IsReadAs (model_of (placed_of items)) p pr)) (sym at) (read_as (placed_of items) nm pr there))
