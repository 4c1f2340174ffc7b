use Rattle.std.proofs.Common.{◌≡◌, ◌+◌, ◌<◌, ℕ, get_or, refl, sym, subst, arith}
use Rattle.std.proofs.lemmas.Simd.{get_or-chunk, length-chunk}
use Rattle.std.specs.Char.{digit_value}
use lib.Lanes.{chunk}
use Rattle.room_literals.proofs.LanesWithin.{lanes_hex}
use Rattle.room_literals.proofs.sure_texts.hex_bits.Goals as goal

pub returns : goal.returns
returns c k few set =
    let b = c.args.bytes.now in
    let i = c.args.from in
    let here : get_or (chunk i 16 b) k 0 ≡ get_or b (i + k) 0 = get_or-chunk i 16 b k 0 few in
    subst (λ (x : ℕ). digit_value x < 16) here
    (lanes_hex (chunk i 16 b) _ k (length-chunk i 16 b c.requires) refl few (subst (λ (x : ℕ). x < 256) (sym here) (c.type_inv.bytes (i + k)).fits) set)
