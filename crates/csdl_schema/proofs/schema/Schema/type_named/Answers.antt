use Rattle.std.proofs.Common.{◌≡◌, ◌∙◌, Some, None, true, false, position, slice_get, sym, ap}
use Rattle.csdl_schema.specs.SchemaModel.{is_kind_at, is_named, is_structured, index_named}
use Rattle.csdl_schema.specs.private.Placed.{is_placed_structured, placed_passes}
use Rattle.csdl_schema.specs.private.PlacedView.{placed_of}
use Rattle.csdl_schema.specs.private.SchemaView.{model_of}
use Rattle.csdl_schema.proofs.LookUps.{found_kind, not_found, structured_at}
use Rattle.csdl_schema.proofs.schema.Schema.type_named.Goals as goal

pub returns-then-is_structured_at : goal.returns-then-is_structured_at
returns-then-is_structured_at c =
    let name = c.args.name.now in
    let n = c.in-Some.index in
    let types = placed_of c.self.inside.types.items in
    let at : position (λ t. is_named t name) (model_of types).types ≡ Some n = sym (c.self.invariant.indexed name) ∙ sym c.place_named.ensures ∙ c.in-Some.is in
    let is : is_kind_at is_structured (model_of types) n ≡ true =
    sym (c.is_structured_at.ensures ∙ (λ j. placed_passes is_placed_structured (slice_get (placed_of (c.deref.ensures.value j)) n)) ∙ structured_at types n) ∙ c.if-is_structured_at.true in
    ap Some c.from_index.ensures ∙ sym (found_kind (model_of types) is_structured name n true at is) ∙ ap (λ s. index_named s name) c.self.view_is

pub returns-else-is_structured_at : goal.returns-else-is_structured_at
returns-else-is_structured_at c =
    let name = c.args.name.now in
    let n = c.in-Some.index in
    let types = placed_of c.self.inside.types.items in
    let at : position (λ t. is_named t name) (model_of types).types ≡ Some n = sym (c.self.invariant.indexed name) ∙ sym c.place_named.ensures ∙ c.in-Some.is in
    let is : is_kind_at is_structured (model_of types) n ≡ false =
    sym (c.is_structured_at.ensures ∙ (λ j. placed_passes is_placed_structured (slice_get (placed_of (c.deref.ensures.value j)) n)) ∙ structured_at types n) ∙ c.if-is_structured_at.false in
    sym (found_kind (model_of types) is_structured name n false at is) ∙ ap (λ s. index_named s name) c.self.view_is

pub returns-in-None : goal.returns-in-None
returns-in-None c =
    let name = c.args.name.now in
    let types = placed_of c.self.inside.types.items in
    let at : position (λ t. is_named t name) (model_of types).types ≡ None = sym (c.self.invariant.indexed name) ∙ sym c.place_named.ensures ∙ c.in-None.is in
    sym (not_found (model_of types) is_structured name at) ∙ ap (λ s. index_named s name) c.self.view_is
