use Rattle.std.proofs.Common.{sym, ap, ◌∙◌}
use Rattle.std.proofs.lemmas.Bool.{true≢false}
use Rattle.serde_json.specs.View.{view}
use Rattle.collection_reader.specs.private.EnvelopeTest.{has_array}
use Rattle.collection_reader.proofs.EnvelopeLemmas.{array_read, has_none, no_array}
use Rattle.collection_reader.proofs.envelope.has_array.Goals as goal

pub returns-in-Ok : goal.returns-in-Ok
returns-in-Ok c =
    c.json_has_array.ensures ∙ ap (λ found. has_array found c.args.has_null) (sym (array_read c.args.text.now (view c.in-Ok.json) c.in-Ok.ensures.ok.0 c.in-Ok.ensures.ok.1))

pub returns-else-is_memory : goal.returns-else-is_memory
returns-else-is_memory c =
    let none = no_array c.args.text.now (c.in-Err.ensures.err (λ memory. true≢false (sym (c.is_memory.ensures.1 memory) ∙ c.if-is_memory.false))) in
    sym (ap (λ found. has_array found c.args.has_null) none ∙ has_none c.args.has_null)
