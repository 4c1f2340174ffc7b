use Rattle.std.proofs.Common.{sym}
use Rattle.csdl_schema.specs.SchemaModel.{type_name_at}
use Rattle.odata_signatures.proofs.types.OneEnumeration.{same_id}
use Rattle.odata_signatures.proofs.comparable_types.is_same_enumeration.Goals as goal

pub returns : goal.returns
returns c =
    let only = c.enum_name-name.ensures.only c.args.right c.requires.left c.requires.right in
    same_id c.eq.result c.args.left c.args.right (type_name_at c.args.schema.now) c.eq.ensures (λ same. sym (only (sym same)))
