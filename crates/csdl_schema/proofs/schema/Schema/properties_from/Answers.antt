use Rattle.std.proofs.Common.{◌<◌, List, ℕ, drop, length, map, sym, subst}
use Rattle.csdl_schema.specs.PropertyView.{AreFirstOf}
use Rattle.csdl_schema.specs.declared.named_type.NamedType.{NamedType}
use Rattle.csdl_schema.specs.SchemaModel.{properties_at}
use Rattle.csdl_schema.specs.private.Placed.{entry_view}
use Rattle.csdl_schema.specs.private.PlacedView.{placed_of}
use Rattle.csdl_schema.specs.private.SchemaView.{model_of}
use Rattle.csdl_schema.proofs.schema.Schema.properties_from.Goals as goal

pub returns-clause-first : goal.returns-clause-first
returns-clause-first c =
    let items = c.self.inside.types.items in
    let P : List NamedType → ℕ → Type 0 = λ ts n. AreFirstOf (model_of (placed_of ts)) (drop c.args.slot (properties_at (model_of (placed_of ts)) n)) (map entry_view c.entries_from.result) in
    let at : P items c.args.id = subst (λ ts. P ts c.args.id) c.deref.ensures.value (subst (λ n. P c.deref.result.now n) c.index.ensures c.entries_from.ensures.first) in
    subst (λ s. AreFirstOf s (drop c.args.slot (properties_at s c.args.id)) c.from_entries.result) c.self.view_is
    (subst (AreFirstOf (model_of (placed_of items)) (drop c.args.slot (properties_at (model_of (placed_of items)) c.args.id))) (sym c.from_entries.ensures) at)

pub returns-clause-some : goal.returns-clause-some
returns-clause-some c =
    let items = c.self.inside.types.items in
    let P : List NamedType → ℕ → Type 0 = λ ts n. c.args.slot < length (properties_at (model_of (placed_of ts)) n) → 0 < length (map entry_view c.entries_from.result) in
    let at : P items c.args.id = subst (λ ts. P ts c.args.id) c.deref.ensures.value (subst (λ n. P c.deref.result.now n) c.index.ensures c.entries_from.ensures.some) in
    subst (λ s. c.args.slot < length (properties_at s c.args.id) → 0 < length c.from_entries.result) c.self.view_is
    (subst (λ (es : List _). c.args.slot < length (properties_at (model_of (placed_of items)) c.args.id) → 0 < length es) (sym c.from_entries.ensures) at)
