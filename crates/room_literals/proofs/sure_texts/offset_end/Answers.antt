use Rattle.std.proofs.Common.{◌≡◌, ◌+◌, ◌/◌, ◌%◌, ℕ, get_or, ap, ◌∙◌, arith}
use Rattle.room_literals.proofs.MomentTexts.{clock_there, offset_clock, offset_z}
use Rattle.room_literals.proofs.sure_texts.offset_end.Goals as goal

pub returns-then-bytes-from-eq90 : goal.returns-then-bytes-from-eq90
returns-then-bytes-from-eq90 c =
    let b = c.args.bytes.now in
    let i = c.args.from in
    let is : get_or b i 0 ≡ 90 = omega arith in
    offset_z b i (omega arith) is

pub returns-then-two-lt60 : goal.returns-then-two-lt60
returns-then-two-lt60 c =
    let b = c.args.bytes.now in
    let i = c.args.from in
    let hours = c.two.result in
    let minutes = c.two-then-two-lt24.result in
    let sign = c.is_sign.ensures c.if-is_sign.true in
    let move : (j k x : ℕ) → j ≡ k → get_or b k 0 ≡ x → get_or b j 0 ≡ x = λ j k x same is. ap (λ (m : ℕ). get_or b m 0) same ∙ is in
    let colon : get_or b (i + 3) 0 ≡ 58 = omega arith in
    let clock = clock_there b (i + 1) hours minutes (omega arith) c.two.ensures.tens (move (i + 1 + 1) (i + 2) (48 + hours % 10) (omega arith) c.two.ensures.units) (move (i + 1 + 2) (i + 3) 58 (omega arith) colon)
    (move (i + 1 + 3) (i + 4) (48 + minutes / 10) (omega arith) c.two-then-two-lt24.ensures.tens) (move (i + 1 + 4) (i + 5) (48 + minutes % 10) (omega arith) c.two-then-two-lt24.ensures.units) in
    offset_clock b i hours minutes (omega arith) sign (omega arith) (omega arith) clock
