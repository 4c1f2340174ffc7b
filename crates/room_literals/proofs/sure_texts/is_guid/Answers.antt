use Rattle.std.proofs.Common.{◌≡◌, ◌+◌, get_or, subst, arith}
use Rattle.std.proofs.lemmas.Bool.{eqb-true}
use Rattle.room_literals.proofs.GuidTexts.{Lanes, guid_there}
use Rattle.room_literals.proofs.sure_texts.is_guid.Goals as goal

pub returns : goal.returns
returns c done =
    let b = c.args.bytes.now in
    let i = c.args.from in
    let first : c.hex_bits-first.result ≡ 57087 = omega arith in
    let second : c.hex_bits-second.result ≡ 65403 = omega arith in
    let third : c.hex_bits-third.result ≡ 65527 = omega arith in
    let h8 : get_or b (i + 8) 0 ≡ 45 = omega arith in
    let h13 : get_or b (i + 13) 0 ≡ 45 = omega arith in
    let h18 : get_or b (i + 18) 0 ≡ 45 = omega arith in
    let h23 : get_or b (i + 23) 0 ≡ 45 = omega (arith, eqb-true _ _ done) in
    guid_there b i c.requires (subst (Lanes b i) first c.hex_bits-first.ensures) (subst (Lanes b (i + 16)) second c.hex_bits-second.ensures) (subst (Lanes b (i + 20)) third c.hex_bits-third.ensures) h8 h13 h18 h23
