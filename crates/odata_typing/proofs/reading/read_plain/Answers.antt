use Rattle.std.proofs.Common.{refl}
use Rattle.odata_syntax.specs.declared.node.LiteralKind.{LiteralKind}
use Rattle.csdl_schema.specs.SchemaModel.{slots_of}
use Rattle.odata_typing.proofs.types.Literals.{no_value, reads_as, reads_date, reads_guid, reads_moment, reads_null, reads_truth}
use Rattle.odata_typing.proofs.reading.read_plain.Goals as goal

pub returns-in-Null-clause-right : goal.returns-in-Null-clause-right
returns-in-Null-clause-right c = reads_as _ _ _ _ _ _ _ _ c.in-Null.is refl refl (reads_null c.args.schema.now c.args.spelling.now)

pub returns-in-Some-clause-right : goal.returns-in-Some-clause-right
returns-in-Some-clause-right c =
    reads_as _ _ _ _ _ _ _ _ c.in-Bool.is c.primitive.ensures.value c.primitive.ensures.edm_type
    (reads_truth c.args.schema.now c.args.spelling.now c.in-Some.truth c.in-Some.ensures.value)

pub returns-in-Some-read_date-clause-right : goal.returns-in-Some-read_date-clause-right
returns-in-Some-read_date-clause-right c =
    reads_as _ _ _ _ _ _ _ _ c.in-Date.is c.primitive-in-Some-read_date.ensures.value c.primitive-in-Some-read_date.ensures.edm_type
    (reads_date c.args.schema.now c.args.spelling.now c.in-Some-read_date.date c.in-Some-read_date.ensures.value)

pub returns-in-Some-read_moment-clause-right : goal.returns-in-Some-read_moment-clause-right
returns-in-Some-read_moment-clause-right c =
    reads_as _ _ _ _ _ _ _ _ c.in-Moment.is c.primitive-in-Some-read_moment.ensures.value c.primitive-in-Some-read_moment.ensures.edm_type
    (reads_moment c.args.schema.now c.args.spelling.now c.in-Some-read_moment.moment c.in-Some-read_moment.ensures.value)

pub returns-in-None-read_moment-clause-none : goal.returns-in-None-read_moment-clause-none
returns-in-None-read_moment-clause-none c =
    no_value (slots_of c.args.schema.now) c.args.kind LiteralKind.Moment c.args.spelling.now c.read_moment.result c.in-Moment.is
    (λ type typed. (typed.0, c.read_moment.ensures.only typed.0 typed.1)) c.in-None-read_moment.is

pub returns-in-Some-read_guid-clause-right : goal.returns-in-Some-read_guid-clause-right
returns-in-Some-read_guid-clause-right c =
    reads_as _ _ _ _ _ _ _ _ c.in-Guid.is c.primitive-in-Some-read_guid.ensures.value c.primitive-in-Some-read_guid.ensures.edm_type
    (reads_guid c.args.schema.now c.args.spelling.now c.in-Some-read_guid.guid c.in-Some-read_guid.ensures.value)

pub returns-in-None-read_guid-clause-none : goal.returns-in-None-read_guid-clause-none
returns-in-None-read_guid-clause-none c =
    no_value (slots_of c.args.schema.now) c.args.kind LiteralKind.Guid c.args.spelling.now c.read_guid.result c.in-Guid.is
    (λ type typed. (typed.0, c.read_guid.ensures.only typed.0 typed.1)) c.in-None-read_guid.is

pub returns-in-EnumLit-clause-none : goal.returns-in-EnumLit-clause-none
returns-in-EnumLit-clause-none c = rw c.in-EnumLit.is c.read_member.ensures.none
