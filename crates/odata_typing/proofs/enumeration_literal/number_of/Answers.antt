use Rattle.odata_typing.proofs.types.Enumerations.{held_by_name, names_held, unnamed, valueless}
use Rattle.odata_typing.proofs.enumeration_literal.number_of.Goals as goal

pub returns-in-Some-enum_value-clause-value : goal.returns-in-Some-enum_value-clause-value
returns-in-Some-enum_value-clause-value c =
    names_held c.args.schema.now c.args.name.now c.args.text.now c.enum_named.result c.in-Some.enumeration c.in-Some-enum_value.number c.enum_named.ensures c.in-Some.is
    c.enum_value.ensures.by_name c.in-Some-enum_value.ensures.value c.in-Some-enum_value.ensures.within

pub returns-in-Some-enum_value-clause-held : goal.returns-in-Some-enum_value-clause-held
returns-in-Some-enum_value-clause-held c =
    held_by_name c.args.schema.now c.args.name.now c.enum_named.result c.in-Some.enumeration c.enum_named.ensures c.in-Some.is

pub returns-in-None-enum_value-clause-none : goal.returns-in-None-enum_value-clause-none
returns-in-None-enum_value-clause-none c = λ qualified n.
    valueless c.args.schema.now c.args.name.now c.args.text.now c.enum_named.result c.in-Some.enumeration c.enum_value.result c.enum_named.ensures c.in-Some.is
    c.enum_value.ensures.by_name c.enum_value.ensures.only c.in-None-enum_value.is qualified n

pub returns-in-None-clause-none : goal.returns-in-None-clause-none
returns-in-None-clause-none c = λ qualified n.
    unnamed c.args.schema.now c.args.name.now c.args.text.now c.enum_named.result c.enum_named.ensures c.in-None.is qualified n
