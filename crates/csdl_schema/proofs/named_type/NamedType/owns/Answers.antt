use Rattle.std.proofs.Common.{◌∙◌, sym, ap}
use Rattle.csdl_schema.specs.private.Placed.{owns_by, placed_own}
use Rattle.csdl_schema.specs.private.PlacedView.{placed_body_view}
use Rattle.csdl_schema.proofs.Walks.{known_name}
use Rattle.csdl_schema.proofs.named_type.NamedType.owns.Goals as goal

pub returns-in-Structured : goal.returns-in-Structured
returns-in-Structured c =
    c.contains_key.ensures
    ∙ known_name c.args.name.now c.in-Structured.structured.properties.entries
    ∙ ap (λ b. owns_by c.args.name.now (placed_own (placed_body_view b))) (sym c.in-Structured.is)
