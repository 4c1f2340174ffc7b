use Rattle.std.proofs.Common.{refl, subst, List, ℕ}
use Rattle.odata_syntax.specs.declared.node.LiteralKind.{LiteralKind}
use Rattle.odata_typing.specs.private.Answer.{IsReading}
use Rattle.odata_typing.proofs.types.Literals.{reads_as, reads_int}
use Rattle.odata_typing.proofs.literal_node.checked_number.Goals as goal

pub put_literal-requires-clause-right : goal.put_literal-requires-clause-right
put_literal-requires-clause-right c =
    let schema = c.args.context.now.schema.now in
    subst (λ (spelling : List ℕ). IsReading schema LiteralKind.Int spelling c.primitive-reading.result.value c.primitive-reading.result.edm_type) c.text_in.ensures
    (reads_as _ _ _ _ _ _ _ _ refl c.primitive-reading.ensures.value c.primitive-reading.ensures.edm_type
    (reads_int schema c.text_in.result.now c.in-Some.n c.of_int_literal.result c.in-Some.ensures.value c.of_int_literal.ensures))
