use Rattle.std.proofs.Common.{◌+◌, ◌<◌, length, drop, sym, ap, ◌∙◌, subst, arith}
use Rattle.std.proofs.lemmas.List.{get_or_default}
use Rattle.std.proofs.lemmas.Str.{IsCharBoundary-after_ascii}
use Rattle.json.specs.Text.{content, plain}
use Rattle.json_room.specs.private.Lexemes.{ClosesText}
use Rattle.json_room.proofs.EscapeLemmas.{escaped_text}
use Rattle.json_room.proofs.LexemeLemmas.{within_byte}
use Rattle.json_room.proofs.decoded_texts.escaped_at.Goals as goal

pub range-requires-clause-end_boundary : goal.range-requires-clause-end_boundary
range-requires-clause-end_boundary c =
    let d = c.args.text.now in
    let closed : ClosesText d (c.args.place + 1) c.in-Some.quote = subst (λ t. ClosesText t (c.args.place + 1) c.in-Some.quote) c.as_bytes.ensures.value c.in-Some.ensures in
    IsCharBoundary-after_ascii d c.in-Some.quote c.utf8.text closed.bounds.1 (omega (arith, get_or_default d c.in-Some.quote 0 32 closed.bounds.1, closed.is_quote))

pub returns-in-Some-unescaped : goal.returns-in-Some-unescaped
returns-in-Some-unescaped c =
    let d = c.args.text.now in
    let i = c.args.place in
    let within : i < length d = within_byte d i 34 c.requires (λ e. omega arith) in
    let closed : ClosesText d (i + 1) c.in-Some.quote = subst (λ t. ClosesText t (i + 1) c.in-Some.quote) c.as_bytes.ensures.value c.in-Some.ensures in
    escaped_text d i c.in-Some.quote c.in-Some-unescaped.reported.now within c.requires closed
    (ap (λ q. content plain (drop 1 q)) (sym c.range.ensures.value) ∙ c.in-Some-unescaped.ensures)
