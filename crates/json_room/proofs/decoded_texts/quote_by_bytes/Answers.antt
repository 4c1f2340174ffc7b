use Rattle.std.proofs.Common.{◌≡◌, ◌+◌, drop, get_or, sym, ap, ◌∙◌, arith}
use Rattle.std.proofs.lemmas.List.{get_or_default}
use Rattle.json.specs.Lex.{in_string, lex}
use Rattle.json_room.proofs.EscapeLemmas.{quote_passed}
use Rattle.json_room.proofs.LexemeLemmas.{from_byte}
use Rattle.json_room.proofs.decoded_texts.quote_by_bytes.Goals as goal

pub returns-then-bytes-place-eq34 : goal.returns-then-bytes-place-eq34
returns-then-bytes-place-eq34 c =
    let l = c.loop-place in
    let d = c.args.bytes.now in
    let within = c.loop-place-test.true in
    let quote : get_or d l.place 32 ≡ 34 = sym (get_or_default d l.place 0 32 within) ∙ c.if-bytes-place-eq34.true in
    record {
      bounds = (l.invariant.0, within);
      is_quote = quote;
      passed = sym l.invariant.1 ∙ ap (lex in_string) (from_byte d l.place 34 within quote) ∙ quote_passed (drop (l.place + 1) d);
    }

pub loop-place-preserved : goal.loop-place-preserved
loop-place-preserved c = (omega (arith, c.loop-place.invariant.0, c.past_byte-place.ensures.further), c.past_byte-place.ensures.passed ∙ c.loop-place.invariant.1)
