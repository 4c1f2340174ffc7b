use Rattle.std.proofs.Common.{rules, ◌≡◌, ℕ, List, ◌∷◌, ◌++◌, lit<, ap, ◌∙◌, sym}
use Rattle.std.proofs.lemmas.Str.{encode_ascii}
use Rattle.std.specs.Prelude.{string_bytes}
use Rattle.std.proofs.lemmas.Str.Pattern.{strip_prefix_char, split_parts}
use Rattle.edm_values.specs.StringLiteral.{with_doubled_quotes}
use Rattle.edm_values.proofs.literals.Quotes.{odd_quote, doubled_front, with_doubled_quotes-append, with_doubled_quotes-plain, one_more}
use Rattle.edm_values.proofs.string_literal.merge_doubled_quotes.Goals as goal

pub returns-in_default-strip_prefix-clause-fault :
    goal.returns-in_default-strip_prefix-clause-fault
returns-in_default-strip_prefix-clause-fault c =
    let cut = rw c.in-Some.is at (split_parts 39 c.loop-piece.rest.now c.split_once.result c.split_once.ensures.cases (lit< tt)) in
    let begins = strip_prefix_char 39 c.in-Some.behind.now c.strip_prefix.result c.strip_prefix.ensures.cases (lit< tt) in
    let single = rw c.in_default-strip_prefix.is at begins in
    λ value same.
    let found = doubled_front (string_bytes c.loop-piece.value) c.loop-piece.rest.now value (sym c.loop-piece.invariant.1 ∙ same) in
    odd_quote c.in-Some.piece.now c.in-Some.behind.now found.0 cut.1 single (sym cut.0 ∙ found.1)

pub loop-piece-preserved : goal.loop-piece-preserved
loop-piece-preserved c =
    let cut = rw c.in-Some.is at (split_parts 39 c.loop-piece.rest.now c.split_once.result c.split_once.ensures.cases (lit< tt)) in
    let begins = rw c.in-Some-strip_prefix.is at (strip_prefix_char 39 c.in-Some.behind.now c.strip_prefix.result c.strip_prefix.ensures.cases (lit< tt)) in
    let left : c.args.inner.now ≡ with_doubled_quotes (string_bytes c.loop-piece.value) ++ (c.in-Some.piece.now ++ (39 ∷ 39 ∷ c.in-Some-strip_prefix.behind.now)) =
    c.loop-piece.invariant.1
    ∙ ap (λ (xs : List ℕ). with_doubled_quotes (string_bytes c.loop-piece.value) ++ xs)
    (cut.0 ∙ ap (λ (xs : List ℕ). c.in-Some.piece.now ++ (39 ∷ xs)) begins) in
    (search rules, rw (c.in_ok-push.ensures.bytes, c.in_ok-push_str.ensures.bytes, encode_ascii 39 (lit< tt)) (one_more c.args.inner.now (string_bytes c.loop-piece.value) c.in-Some.piece.now c.in-Some-strip_prefix.behind.now cut.1 left))

pub returns-clause-value : goal.returns-clause-value
returns-clause-value c =
    let plain = rw c.in_default.is at (split_parts 39 c.loop-piece.rest.now c.split_once.result c.split_once.ensures.cases (lit< tt)) in
    rw c.in_ok-push_str-2.ensures.bytes (c.loop-piece.invariant.1
    ∙ ap (λ (xs : List ℕ). with_doubled_quotes (string_bytes c.loop-piece.value) ++ xs) (sym (with_doubled_quotes-plain c.loop-piece.rest.now plain))
    ∙ sym (with_doubled_quotes-append (string_bytes c.loop-piece.value) c.loop-piece.rest.now))
