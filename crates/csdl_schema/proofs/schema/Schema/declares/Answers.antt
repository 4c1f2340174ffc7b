use Rattle.std.proofs.Common.{◌∙◌, ap, is_some, position}
use Rattle.csdl_schema.specs.SchemaModel.{is_named}
use Rattle.csdl_schema.proofs.schema.Schema.declares.Goals as goal

pub returns : goal.returns
returns c =
    let name = c.args.name.now in
    c.is_some.ensures
    ∙ ap is_some (c.place_named.ensures ∙ c.self.invariant.indexed name)
    ∙ ap (λ s. is_some (position (λ t. is_named t name) s.types)) c.self.view_is
