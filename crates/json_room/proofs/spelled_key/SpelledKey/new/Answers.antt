use Rattle.std.proofs.Common.{◌≡◌, ◌+◌, ap, length, refl, arith}
use Rattle.json_room.specs.Keys.{name_with_colon}
use Rattle.json_room.proofs.KeysStand.{front_of_spaced, front_of_word}
use Rattle.json_room.proofs.spelled_key.SpelledKey.new.Goals as goal

pub invariant_of-result : goal.invariant_of-result
invariant_of-result c =
    let spelled = c.with_colon-spelled in
    let s = spelled.result.now in
    let name = c.in-Some.key in
    let long : length s ≡ length (name_with_colon name) = ap length spelled.ensures.named in
    let front = c.whole_front-front in
    let mask = c.whole_mask-mask in
    let spaced = c.spaced_front-spaced in
    let spaced_mask = c.whole_mask-spaced_mask in
    record {
      plain = spelled.ensures.plain;
      long = long;
      spaced_long = omega (arith, long);
      front = front_of_word (name_with_colon name) s front.result mask.result (length s) spelled.ensures.named refl front.ensures.word front.ensures.never mask.ensures.word mask.ensures.never;
      spaced = front_of_spaced (name_with_colon name) s spaced.result spaced_mask.result (length s + 1) spelled.ensures.named refl spaced.ensures.word spaced.ensures.space spaced.ensures.never
          spaced_mask.ensures.word spaced_mask.ensures.never;
    }
