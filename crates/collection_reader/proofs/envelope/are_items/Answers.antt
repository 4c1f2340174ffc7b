use Rattle.std.proofs.Common.{Bool, Some, sym, ap, ◌∙◌}
use Rattle.serde_json.specs.View.{items_view}
use Rattle.collection_reader.specs.private.EnvelopeTest.{has_array}
use Rattle.collection_reader.proofs.EnvelopeLemmas.{said_empty}
use Rattle.collection_reader.proofs.envelope.are_items.Goals as goal

pub returns : goal.returns
returns c =
    c.is_empty.ensures ∙ said_empty c.args.items.now
    ∙ ap (λ (b : Bool). has_array (Some (items_view c.args.items.now)) b) (sym c.if-has_null.false)
