use Rattle.std.proofs.Common.{◌∙◌, sym, ap, ℕ, List, [], ◌∷◌, ◌++◌, lit<}
use Rattle.std.proofs.lemmas.Str.Pattern.{strip_prefix_char, strip_suffix_char}
use Rattle.edm_values.specs.StringLiteral.{quote}
use Rattle.odata_typing.proofs.types.Quoted.{after_one}
use Rattle.odata_typing.proofs.resolved_text.between_quotes.Goals as goal

pub returns-in-Some-strip_suffix-clause-some : goal.returns-in-Some-strip_suffix-clause-some
returns-in-Some-strip_suffix-clause-some c =
    let cut = rw c.in-Some.is at (strip_prefix_char 39 c.args.spelling.now c.strip_prefix.result c.strip_prefix.ensures.cases (lit< tt)) in
    let ends = rw c.in-Some-strip_suffix.is at (strip_suffix_char 39 c.in-Some.rest.now c.strip_suffix.result c.strip_suffix.ensures.cases (lit< tt)) in
    cut ∙ ap (λ (xs : List ℕ). quote ∷ xs) ends

pub returns-in-None-strip_suffix-clause-none : goal.returns-in-None-strip_suffix-clause-none
returns-in-None-strip_suffix-clause-none c = λ inner is.
    let cut = rw c.in-Some.is at (strip_prefix_char 39 c.args.spelling.now c.strip_prefix.result c.strip_prefix.ensures.cases (lit< tt)) in
    let ends = rw c.in-None-strip_suffix.is at (strip_suffix_char 39 c.in-Some.rest.now c.strip_suffix.result c.strip_suffix.ensures.cases (lit< tt)) in
    ends inner (after_one quote quote c.in-Some.rest.now (inner ++ quote ∷ []) (sym cut ∙ is))

pub returns-in-None-clause-none : goal.returns-in-None-clause-none
returns-in-None-clause-none c = λ inner is.
    let cut = rw c.in-None.is at (strip_prefix_char 39 c.args.spelling.now c.strip_prefix.result c.strip_prefix.ensures.cases (lit< tt)) in
    cut (inner ++ quote ∷ []) is
