use Rattle.std.proofs.Common.{◌∙◌, ap, slice_get}
use Rattle.std.specs.Prelude.{option_and_then}
use Rattle.csdl_schema.specs.SchemaModel.{name_of_kind, is_structured}
use Rattle.csdl_schema.specs.private.Placed.{is_placed_structured, placed_name_if}
use Rattle.csdl_schema.specs.private.PlacedView.{placed_of}
use Rattle.csdl_schema.proofs.LookUps.{structured_named}
use Rattle.csdl_schema.proofs.schema.Schema.type_name.Goals as goal

pub returns-clause-name : goal.returns-clause-name
returns-clause-name c =
    c.structured_name.ensures
    ∙ (λ j. option_and_then (placed_name_if is_placed_structured) (slice_get (placed_of (c.deref.ensures.value j)) (c.index.ensures j)))
    ∙ structured_named (placed_of c.self.inside.types.items) c.args.id
    ∙ ap (λ s. name_of_kind is_structured s c.args.id) c.self.view_is
