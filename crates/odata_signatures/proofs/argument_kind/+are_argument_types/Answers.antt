use Rattle.odata_signatures.proofs.functions.Arguments.{behind_first}
use Rattle.odata_signatures.proofs.argument_kind.+are_argument_types.Goals as goal

pub returns-then-is_argument_type : goal.returns-then-is_argument_type
returns-then-is_argument_type t c = λ schema.
    behind_first schema c.args.kinds.now c.args.types.now c.edm_type-item.result c.are_argument_types.result
    c.in-len1-up-kinds.len_at_least c.in-len1-up.len_at_least c.edm_type-item.is
    ((c.is_argument_type.ensures schema).0 c.if-is_argument_type.true) (c.are_argument_types.ensures schema)
