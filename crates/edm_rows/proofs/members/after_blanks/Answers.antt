use Rattle.std.proofs.Common.{sym, ◌∙◌, arith}
use Rattle.json_room.proofs.RoomLemmas.{other_default, within_byte}
use Rattle.edm_rows.proofs.NextMembers.{brace_member, comma_member}
use Rattle.edm_rows.proofs.members.after_blanks.Goals as goal

pub returns-in-44 : goal.returns-in-44
returns-in-44 c =
    let d = c.args.line.now in
    let place = c.past_blanks-place.result in
    let here = sym c.byte.ensures.here ∙ c.in-44.is in
    comma_member d c.args.end place c.past_blanks-place.ensures (within_byte d place 44 here (λ e. omega arith)) (other_default d place 44 here (λ e. omega arith))

pub returns-in-125 : goal.returns-in-125
returns-in-125 c =
    let d = c.args.line.now in
    let place = c.past_blanks-place.result in
    let here = sym c.byte.ensures.here ∙ c.in-125.is in
    brace_member d c.args.end place c.past_blanks-place.ensures (within_byte d place 125 here (λ e. omega arith)) (other_default d place 125 here (λ e. omega arith))
