use Rattle.odata_typing.proofs.types.Quoted.{quoted_none, quoted_some}
use Rattle.odata_typing.proofs.resolved_text.quoted_number.Goals as goal

pub returns-in-Some-clause-some : goal.returns-in-Some-clause-some
returns-in-Some-clause-some c =
    quoted_some c.args.schema.now c.args.id c.args.spelling.now c.in-Some.inner.now c.enum_value.result c.in-Some.ensures.some c.enum_value.ensures.by_name c.enum_value.ensures.value c.enum_value.ensures.within

pub returns-in-Some-clause-none : goal.returns-in-Some-clause-none
returns-in-Some-clause-none c =
    quoted_none c.args.schema.now c.args.id c.args.spelling.now c.in-Some.inner.now c.enum_value.result c.in-Some.ensures.some c.enum_value.ensures.by_name c.enum_value.ensures.only

pub returns-in-None-clause-none : goal.returns-in-None-clause-none
returns-in-None-clause-none c = λ n is. c.in-None.ensures.none is.inner is.spelled
