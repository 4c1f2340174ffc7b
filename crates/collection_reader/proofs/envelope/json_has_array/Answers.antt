use Rattle.std.proofs.Common.{Some, sym, ap, ◌∙◌}
use Rattle.std.specs.Prelude.{option_map}
use Rattle.serde_json.specs.View.{items_view}
use Rattle.collection_reader.specs.private.EnvelopeTest.{has_array}
use Rattle.collection_reader.proofs.EnvelopeLemmas.{has_none}
use Rattle.collection_reader.proofs.envelope.json_has_array.Goals as goal

pub returns-in-Some : goal.returns-in-Some
returns-in-Some c =
    c.are_items.ensures ∙ ap (λ values. has_array (Some (items_view values)) c.args.has_null) c.deref.ensures.value
    ∙ ap (λ found. has_array found c.args.has_null) (ap (λ o. option_map (λ items. items_view items.now.items) o) (sym c.in-Some.is) ∙ c.array_of.ensures)

pub returns-in-None : goal.returns-in-None
returns-in-None c =
    sym (has_none c.args.has_null)
    ∙ ap (λ found. has_array found c.args.has_null) (ap (λ o. option_map (λ items. items_view items.now.items) o) (sym c.in-None.is) ∙ c.array_of.ensures)
