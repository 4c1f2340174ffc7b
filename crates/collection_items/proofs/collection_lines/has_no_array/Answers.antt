use Rattle.std.proofs.Common.{◌≡◌, ap, inr, ◌∙◌}
use Rattle.std.specs.Prelude.{not}
use Rattle.serde_json.specs.View.{items_view, view}
use Rattle.collection_items.proofs.ItemLineSteps.{none_of}
use Rattle.collection_items.proofs.collection_lines.has_no_array.Goals as goal

pub returns-in-Ok : goal.returns-in-Ok
returns-in-Ok c = λ is. inr (view c.in-Ok.json, c.in-Ok.ensures.ok.1, none_of (λ items. items_view items.now.items) c.array_of.result _ (c.is_none.ensures ∙ ap not is) c.array_of.ensures)
