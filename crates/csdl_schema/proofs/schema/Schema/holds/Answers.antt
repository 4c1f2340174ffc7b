use Rattle.std.proofs.Common.{◌≡◌, ◌∙◌, sym, ap, subst, slice_get, IsTrue}
use Rattle.csdl_schema.specs.SchemaModel.{is_kind_at, is_structured}
use Rattle.csdl_schema.specs.private.Placed.{is_placed_structured, placed_passes}
use Rattle.csdl_schema.specs.private.PlacedView.{placed_of}
use Rattle.csdl_schema.proofs.LookUps.{structured_at}
use Rattle.csdl_schema.proofs.schema.Schema.holds.Goals as goal

pub returns : goal.returns
returns c =
    let same : c.is_structured_at.result ≡ is_kind_at is_structured c.args.self.now c.args.id =
    c.is_structured_at.ensures
    ∙ (λ j. placed_passes is_placed_structured (slice_get (placed_of (c.deref.ensures.value j)) (c.index.ensures j)))
    ∙ structured_at (placed_of c.self.inside.types.items) c.args.id
    ∙ ap (λ s. is_kind_at is_structured s c.args.id) c.self.view_is in
    (λ h. subst IsTrue same h, λ h. subst IsTrue (sym same) h)
