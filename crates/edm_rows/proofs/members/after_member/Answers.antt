use Rattle.std.proofs.Common.{sym, ◌∙◌, arith}
use Rattle.json_room.proofs.LexemeLemmas.{stay}
use Rattle.json_room.proofs.RoomLemmas.{other_default, within_byte}
use Rattle.edm_rows.proofs.NextMembers.{brace_member, comma_member}
use Rattle.edm_rows.proofs.members.after_member.Goals as goal

pub returns-in-44 : goal.returns-in-44
returns-in-44 c =
    let d = c.args.line.now in
    let end = c.args.end in
    let here = sym c.byte.ensures.here ∙ c.in-44.is in
    comma_member d end end (stay d end c.requires) (within_byte d end 44 here (λ e. omega arith)) (other_default d end 44 here (λ e. omega arith))

pub returns-in-125 : goal.returns-in-125
returns-in-125 c =
    let d = c.args.line.now in
    let end = c.args.end in
    let here = sym c.byte.ensures.here ∙ c.in-125.is in
    brace_member d end end (stay d end c.requires) (within_byte d end 125 here (λ e. omega arith)) (other_default d end 125 here (λ e. omega arith))
