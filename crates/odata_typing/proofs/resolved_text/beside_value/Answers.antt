use Rattle.csdl_schema.specs.SchemaModel.{slots_of, type_name_at}
use Rattle.odata_typing.proofs.types.Quoted.{quoted_held}
use Rattle.odata_typing.proofs.resolved_text.beside_value.Goals as goal

pub returns-in-Some-quoted_number : goal.returns-in-Some-quoted_number
returns-in-Some-quoted_number c =
    rw (c.in-Enum.is, c.in-Some.is) (quoted_held (slots_of c.args.schema.now) (type_name_at c.args.schema.now c.in-Enum.id) c.in-Some.spelling.now c.in-Some-quoted_number.number c.in-Some-quoted_number.ensures.some)
