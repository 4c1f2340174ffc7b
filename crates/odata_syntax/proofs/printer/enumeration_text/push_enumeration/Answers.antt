use Rattle.std.proofs.Common.{true, ◌≡◌, ◌∷◌, ◌++◌, List, ℕ, lit<, sym, ◌∙◌, ap, string_bytes}
use Rattle.std.proofs.lemmas.Str.{encode_ascii}
use Rattle.std.proofs.lemmas.Str.Pattern.{split_parts}
use Rattle.odata_text.specs.LiteralSpelling.{enumeration_spelling, trimmed_pieces}
use Rattle.odata_syntax.proofs.printing.Appended.{on_ok, pushed_ok}
use Rattle.odata_syntax.proofs.printing.Enumerations.{no_quote, past_quote, quoted_pushed}
use Rattle.odata_syntax.proofs.printer.enumeration_text.push_enumeration.Goals as goal

pub returns-in_ok-push-in-Some : goal.returns-in_ok-push-in-Some
returns-in_ok-push-in-Some c =
    let cut = rw c.in-Some.is at (split_parts 39 c.args.text.now c.split_once.result c.split_once.ensures.cases (lit< tt)) in
    let quoted = rw (encode_ascii 39 (lit< tt)) at c.in_ok-push-in-Some.ensures.bytes in
    let word = c.in_ok-push_str-in-Some.ensures.bytes in
    let whole : enumeration_spelling c.args.text.now ≡ c.in-Some.word.now ++ 39 ∷ trimmed_pieces true c.in-Some.quoted.now =
    ap enumeration_spelling cut.0 ∙ past_quote c.in-Some.word.now c.in-Some.quoted.now cut.1 in
    on_ok c.push_pieces.result
    (λ pieces. quoted_pushed (string_bytes c.args.out.now) (string_bytes c.push_str.new.self) (string_bytes c.push.new.self) (string_bytes c.push_pieces.new.out) c.args.text.now c.in-Some.word.now
    (trimmed_pieces true c.in-Some.quoted.now) whole word quoted pieces)
    c.push_pieces.ensures

pub returns-in-None : goal.returns-in-None
returns-in-None c =
    let lacks = rw c.in-None.is at (split_parts 39 c.args.text.now c.split_once.result c.split_once.ensures.cases (lit< tt)) in
    on_ok c.push_str-in-None.result
    (λ pushed. pushed ∙ ap (λ (xs : List ℕ). string_bytes c.args.out.now ++ xs) (sym (no_quote c.args.text.now lacks)))
    (pushed_ok c.push_str-in-None.result _ _ _ c.push_str-in-None.ensures.bytes)
