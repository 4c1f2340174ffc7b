use Rattle.std.proofs.Common.{◌≡◌, ◌+◌, ◌-◌, ◌<◌, ◌∷◌, List, ℕ, length, take, drop, get_or, sym, ap, ◌∙◌, subst, arith}
use Rattle.std.proofs.lemmas.List.{get_or_default}
use Rattle.std.proofs.lemmas.Str.{IsCharBoundary-after_ascii, IsCharBoundary-before_ascii}
use Rattle.std.specs.Str.{IsCharBoundary, IsUtf8}
use Rattle.json.specs.Lex.{token, between, lex}
use Rattle.json.specs.Token.{string}
use Rattle.json_room.proofs.LexemeLemmas.{text_lexed}
use Rattle.json_room.proofs.RoomLemmas.{other_default, within_byte}
use Rattle.json_room.proofs.texts.text_at.Goals as goal

pub range-requires-clause-start_boundary : goal.range-requires-clause-start_boundary
range-requires-clause-start_boundary c some =
    let d = c.args.line.now in
    let i = c.args.place in
    let same : c.text-text.result.now ≡ d = c.text-text.ensures in
    let opened : get_or d i 10 ≡ 34 = sym c.byte.ensures.here ∙ c.if-byte-ne34.false in
    let within : i < length d = within_byte d i 34 opened (λ e. omega (arith, e)) in
    let low : get_or d i 0 < 128 = omega (arith, sym (get_or_default d i 0 10 within), opened) in
    subst (λ (l : List ℕ). IsCharBoundary l (i + 1)) (sym same) (IsCharBoundary-after_ascii d i (subst IsUtf8 same c.text-text.utf8) within low)

pub range-requires-clause-end_boundary : goal.range-requires-clause-end_boundary
range-requires-clause-end_boundary c =
    let d = c.args.line.now in
    let j = c.plain_end-end.result in
    let same : c.text-text.result.now ≡ d = c.text-text.ensures in
    let closed : get_or d j 10 ≡ 34 = sym c.byte-2.ensures.here ∙ c.if-byte-ne34-2.false in
    let last : j < length d = within_byte d j 34 closed (λ e. omega (arith, e)) in
    let low : get_or d j 0 < 128 = omega (arith, sym (get_or_default d j 0 10 last), closed) in
    subst (λ (l : List ℕ). IsCharBoundary l j) (sym same) (IsCharBoundary-before_ascii d j last low)

pub returns-clause-further : goal.returns-clause-further
returns-clause-further c = omega (arith, c.plain_end-end.ensures.bounds.0)

pub returns-clause-text : goal.returns-clause-text
returns-clause-text c =
    let d = c.args.line.now in
    let i = c.args.place in
    let j = c.plain_end-end.result in
    let opened : get_or d i 10 ≡ 34 = sym c.byte.ensures.here ∙ c.if-byte-ne34.false in
    let closed : get_or d j 10 ≡ 34 = sym c.byte-2.ensures.here ∙ c.if-byte-ne34-2.false in
    let within : i < length d = within_byte d i 34 opened (λ e. omega (arith, e)) in
    let last : j < length d = within_byte d j 34 closed (λ e. omega (arith, e)) in
    record {
      within = omega arith;
      lexed = text_lexed d i j within (other_default d i 34 opened (λ e. omega (arith, e))) c.plain_end-end.ensures.bounds.0 last (other_default d j 34 closed (λ e. omega (arith, e))) c.plain_end-end.ensures.plain
          ∙ ap (λ s. token (string s) ∷ lex between (drop (j + 1) d)) (sym (c.range.ensures.value ∙ ap (λ (l : List ℕ). take (j - (i + 1)) (drop (i + 1) l)) c.text-text.ensures));
    }
