use Rattle.std.proofs.Common.{◌≡◌, ◌<◌, ℕ, List, length, drop, get_or, string_bytes, sym, ap, ◌∙◌, subst, arith}
use Rattle.std.proofs.lemmas.List.{get_or_default}
use Rattle.std.proofs.lemmas.Str.{IsCharBoundary-after_ascii}
use Rattle.json.specs.Text.{content, plain, prepend}
use Rattle.json_room.proofs.LexemeLemmas.{within_byte}
use Rattle.json_room.proofs.ReportedLemmas.{all_reported, nothing_before}
use Rattle.json_room.proofs.decoded_texts.report.Goals as goal

pub loop-place-init : goal.loop-place-init
loop-place-init c =
    let d = c.args.quoted.now in
    let some : 0 < length d = within_byte d 0 34 c.requires (λ e. omega arith) in
    let opened : get_or d 0 0 < 128 = omega (arith, get_or_default d 0 0 32 some, c.requires) in (
      omega arith,
      IsCharBoundary-after_ascii d 0 c.utf8.quoted some opened,
      sym (nothing_before (content plain (drop 1 d))) ∙ ap (λ l. prepend l (content plain (drop 1 d))) (sym c.clear.ensures.bytes),
    )

pub returns-then-bytes-place-eq34 : goal.returns-then-bytes-place-eq34
returns-then-bytes-place-eq34 c _ =
    let d = c.args.quoted.now in
    let l = c.loop-place in
    let same = c.as_bytes-bytes.ensures.value in
    let within : l.place < length d = subst (λ (t : List ℕ). l.place < length t) same c.loop-place-test.true in
    let closed : get_or d l.place 0 ≡ 34 = ap (λ t. get_or t l.place 0) (sym same) ∙ c.if-bytes-place-eq34.true in
    l.invariant.2 ∙ all_reported d (string_bytes l.reported) l.place within closed
