use Rattle.std.proofs.Common.{◌≡◌, ◌+◌, ◌-◌, ◌<◌, List, ℕ, length, get_or, take, drop, sym, ap, ◌∙◌, subst, arith}
use Rattle.std.proofs.lemmas.Str.{IsCharBoundary-after_ascii}
use Rattle.std.specs.Str.{IsCharBoundary, IsUtf8}
use Rattle.json.specs.Print.{IsNumber}
use Rattle.json.specs.Token.{number}
use Rattle.json_room.specs.Lexemes.{StandsTo}
use Rattle.json_room.proofs.Standing.{number_stands}
use Rattle.json_room.proofs.numbers.number_at.Goals as goal

pub range-written-requires-clause-end_boundary : goal.range-written-requires-clause-end_boundary
range-written-requires-clause-end_boundary c =
    let d = c.args.line.now in
    let j = c.number_bytes_end-end.result in
    let e = c.number_bytes_end-end.ensures in
    let same : c.text-text.result.now ≡ d = c.text-text.ensures in
    let some : c.args.place < j = omega (arith, e.bounds.0) in
    let last : get_or d (j - 1) 0 < 128 = e.ascii (j - 1) (omega (arith, some)) (omega (arith, some)) in
    let next : j - 1 + 1 ≡ j = omega (arith, some) in
    subst (λ (l : List ℕ). IsCharBoundary l j) (sym same)
    (subst (λ k. IsCharBoundary d k) next (IsCharBoundary-after_ascii d (j - 1) (subst IsUtf8 same c.text-text.utf8) (omega (arith, some, e.bounds.1)) last))

pub returns-then-is_number : goal.returns-then-is_number
returns-then-is_number c =
    let d = c.args.line.now in
    let i = c.args.place in
    let j = c.number_bytes_end-end.result in
    let s = take (j - i) (drop i d) in
    let is : c.range-written.result.now ≡ s = c.range-written.ensures.value ∙ ap (λ (l : List ℕ). take (j - i) (drop i l)) c.text-text.ensures in
    let counts : IsNumber s = subst IsNumber is (c.is_number.ensures.0 c.if-is_number.true) in
    subst (λ t. StandsTo d i (number t) j) (sym is) (number_stands d i j (omega arith) c.number_bytes_end-end.ensures.bounds.1 counts)
