use Rattle.std.proofs.Common.{subst, List, ℕ}
use Rattle.odata_typing.specs.private.Answer.{IsReading}
use Rattle.odata_typing.proofs.literal_node.checked_plain.Goals as goal

pub put_literal-requires-clause-right : goal.put_literal-requires-clause-right
put_literal-requires-clause-right c =
    subst (λ (spelling : List ℕ). IsReading c.args.context.now.schema.now c.args.kind spelling c.in-Some.reading.value c.in-Some.reading.edm_type) c.text_in.ensures c.in-Some.ensures.right
