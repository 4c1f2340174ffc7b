use Rattle.std.proofs.Common.{◌≡◌, get_or, true, sym, ap, ◌∙◌, arith}
use Rattle.json.specs.Word.{is_space}
use Rattle.json_room.proofs.LexemeLemmas.{one_more_space, stay}
use Rattle.json_room.proofs.RoomLemmas.{other_default, within_byte}
use Rattle.edm_rows.proofs.members.past_space.Goals as goal

pub returns-then-byte-eq32 : goal.returns-then-byte-eq32
returns-then-byte-eq32 c =
    let d = c.args.line.now in
    let i = c.args.place in
    let here : get_or d i 10 ≡ 32 = sym c.byte.ensures.here ∙ c.if-byte-eq32.true in
    let white : is_space (get_or d i 32) ≡ true = ap is_space (other_default d i 32 here (λ e. omega (arith, e))) in
    one_more_space d i i (within_byte d i 32 here (λ e. omega (arith, e))) white (stay d i c.requires)

pub returns : goal.returns
returns c = stay c.args.line.now c.args.place c.requires
