use Rattle.std.proofs.Common.{◌≡◌, ◌<◌, length, get_or, true, sym, ap, ◌∙◌, arith}
use Rattle.json.specs.Word.{is_space}
use Rattle.json_room.proofs.LexemeLemmas.{one_more_space, stay}
use Rattle.json_room.proofs.RoomLemmas.{other_default, within_byte}
use Rattle.json_room.proofs.blanks.past_blanks.Goals as goal

pub returns-then-byte-gt32 : goal.returns-then-byte-gt32
returns-then-byte-gt32 c = stay c.args.line.now c.args.from c.requires

pub returns-then-byte-gt32-2 : goal.returns-then-byte-gt32-2
returns-then-byte-gt32-2 c =
    let d = c.args.line.now in
    let i = c.args.from in
    let here : get_or d i 10 ≡ 32 = sym c.byte-2.ensures.here ∙ c.if-byte-eq32.true in
    let white : is_space (get_or d i 32) ≡ true = ap is_space (other_default d i 32 here (λ e. omega (arith, e))) in
    one_more_space d i i (within_byte d i 32 here (λ e. omega (arith, e))) white (stay d i c.requires)
