use Rattle.std.proofs.Common.{[], ◌∷◌, ◌++◌, lit<}
use Rattle.std.proofs.lemmas.Str.Pattern.{split_after, split_parts, strip_suffix_char}
use Rattle.edm_values.specs.StringLiteral.{quote}
use Rattle.odata_typing.proofs.types.Enumerations.{name_and_text, unquoted_each}
use Rattle.odata_typing.proofs.enumeration_literal.name_and_text.Goals as goal

pub returns-in-Some-strip_suffix-clause-some : goal.returns-in-Some-strip_suffix-clause-some
returns-in-Some-strip_suffix-clause-some c =
    let cut = rw c.in-Some.is at (split_parts 39 c.args.spelling.now c.split_once.result c.split_once.ensures.cases (lit< tt)) in
    let ends = rw c.in-Some-strip_suffix.is at (strip_suffix_char 39 c.in-Some.quoted.now c.strip_suffix.result c.strip_suffix.ensures.cases (lit< tt)) in
    name_and_text c.args.spelling.now c.in-Some.name.now c.in-Some.quoted.now c.in-Some-strip_suffix.text.now cut.0 cut.1 ends

pub returns-in-None-strip_suffix-clause-none : goal.returns-in-None-strip_suffix-clause-none
returns-in-None-strip_suffix-clause-none c = λ asked inner is.
    let cut = rw c.in-Some.is at (split_after 39 c.args.spelling.now asked (inner ++ quote ∷ []) c.split_once.result c.split_once.ensures.cases (lit< tt) is.spelled (unquoted_each asked is.unquoted)) in
    let ends = rw c.in-None-strip_suffix.is at (strip_suffix_char 39 c.in-Some.quoted.now c.strip_suffix.result c.strip_suffix.ensures.cases (lit< tt)) in
    ends inner cut.1

pub returns-in-None-clause-none : goal.returns-in-None-clause-none
returns-in-None-clause-none c = λ asked inner is.
    rw c.in-None.is at (split_after 39 c.args.spelling.now asked (inner ++ quote ∷ []) c.split_once.result c.split_once.ensures.cases (lit< tt) is.spelled (unquoted_each asked is.unquoted))
