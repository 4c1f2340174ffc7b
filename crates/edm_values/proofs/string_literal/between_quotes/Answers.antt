use Rattle.std.proofs.Common.{lit<}
use Rattle.std.proofs.lemmas.Str.Pattern.{strip_prefix_char, strip_suffix_char}
use Rattle.edm_values.proofs.literals.Quotes.{between-some, between-none}
use Rattle.edm_values.proofs.string_literal.between_quotes.Goals as goal

pub returns-in_err-strip_prefix-clause-none : goal.returns-in_err-strip_prefix-clause-none
returns-in_err-strip_prefix-clause-none c =
    let begins = strip_prefix_char 39 c.args.text.now c.strip_prefix.result c.strip_prefix.ensures.cases (lit< tt) in
    let missing = rw c.in_err-strip_prefix.was at begins in
    rw c.from_residual.ensures (λ inner same. missing _ same)

pub returns-clause-some : goal.returns-clause-some
returns-clause-some c =
    let begins = strip_prefix_char 39 c.args.text.now c.strip_prefix.result c.strip_prefix.ensures.cases (lit< tt) in
    let ends = strip_suffix_char 39 c.in_ok-strip_prefix.field-0.now c.strip_suffix.result c.strip_suffix.ensures.cases (lit< tt) in
    between-some c.strip_suffix.result c.args.text.now c.in_ok-strip_prefix.field-0.now (rw c.in_ok-strip_prefix.was at begins) ends

pub returns-clause-none : goal.returns-clause-none
returns-clause-none c =
    let begins = strip_prefix_char 39 c.args.text.now c.strip_prefix.result c.strip_prefix.ensures.cases (lit< tt) in
    let ends = strip_suffix_char 39 c.in_ok-strip_prefix.field-0.now c.strip_suffix.result c.strip_suffix.ensures.cases (lit< tt) in
    between-none c.strip_suffix.result c.args.text.now c.in_ok-strip_prefix.field-0.now (rw c.in_ok-strip_prefix.was at begins) ends
