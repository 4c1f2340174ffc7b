use Rattle.odata_typing.proofs.types.Enumerations.{literal_none, literal_some}
use Rattle.odata_typing.proofs.enumeration_literal.read_enumeration.Goals as goal

pub returns-in-Some-clause-value : goal.returns-in-Some-clause-value
returns-in-Some-clause-value c =
    literal_some c.args.schema.now c.args.spelling.now c.in-Some.name.now c.in-Some.text.now c.number_of.result c.in-Some.ensures.some c.number_of.ensures.value

pub returns-in-Some-clause-none : goal.returns-in-Some-clause-none
returns-in-Some-clause-none c =
    literal_none c.enumeration_literals_have_one_name.ensures c.args.schema.now c.args.spelling.now c.in-Some.name.now c.in-Some.text.now c.number_of.result c.in-Some.ensures.some c.number_of.ensures.none

pub returns-in-None-clause-none : goal.returns-in-None-clause-none
returns-in-None-clause-none c = λ qualified n literal. c.in-None.ensures.none literal.asked literal.inner literal.split
