use Rattle.odata_typing.proofs.types.Enumerations.{reads_member}
use Rattle.odata_typing.proofs.reading.read_member.Goals as goal

pub returns-in-Some-clause-right : goal.returns-in-Some-clause-right
returns-in-Some-clause-right c = reads_member c.args.schema.now c.args.spelling.now c.in-Some.found.enumeration c.in-Some.found.number c.in-Some.ensures.value

pub returns-in-None-clause-none : goal.returns-in-None-clause-none
returns-in-None-clause-none c = λ type typed. c.in-None.ensures.none typed.0 typed.1 typed.2
