use Rattle.std.proofs.Common.{◌≡◌, ◌+◌, ◌<◌, ◌≤◌, ℕ, length, get_or, sym, subst, arith}
use Rattle.std.proofs.lemmas.Bool.{eqb-true}
use Rattle.std.proofs.lemmas.Simd.{get_or-chunk, length-chunk}
use lib.Lanes.{chunk}
use Rattle.room_literals.proofs.LanesWithin.{lanes_within}
use Rattle.room_literals.proofs.sure_texts.are_within.Goals as goal

pub returns : goal.returns
returns c done k few fits =
    let b = c.args.bytes.now in
    let i = c.args.from in
    let lows = c.args.lows in
    let spans = c.args.spans in
    let here : get_or (chunk i 16 b) k 0 ≡ get_or b (i + k) 0 = get_or-chunk i 16 b k 0 few in
    let ll : length lows ≡ 16 = omega arith in
    let ls : length spans ≡ 16 = omega arith in
    subst (λ (x : ℕ). (get_or lows k 0 ≤ x) × (x ≤ get_or lows k 0 + get_or spans k 0)) here
    (lanes_within (chunk i 16 b) lows spans (length-chunk i 16 b c.requires) ll ls (eqb-true _ _ done) k few (subst (λ (x : ℕ). x < 256) (sym here) (c.type_inv.bytes (i + k)).fits) fits)
