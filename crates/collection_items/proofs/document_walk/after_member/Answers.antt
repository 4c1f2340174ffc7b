use Rattle.std.proofs.Common.{sym, ◌∙◌, arith}
use Rattle.json_room.proofs.RoomLemmas.{other_default, within_byte}
use Rattle.collection_items.proofs.WalkSteps.{brace_passed, comma_passed}
use Rattle.collection_items.proofs.document_walk.after_member.Goals as goal

pub returns-in-44 : goal.returns-in-44
returns-in-44 c =
    let d = c.args.document.now in
    let place = c.past_blanks-place.result in
    let here = sym c.byte.ensures.here ∙ c.in-44.is in
    comma_passed d c.args.end place c.past_blanks.result c.past_blanks-place.ensures (within_byte d place 44 here (λ e. omega arith)) (other_default d place 44 here (λ e. omega arith)) c.past_blanks.ensures

pub returns-in-125 : goal.returns-in-125
returns-in-125 c =
    let d = c.args.document.now in
    let place = c.past_blanks-place.result in
    let here = sym c.byte.ensures.here ∙ c.in-125.is in
    brace_passed d c.args.end place c.past_blanks-place.ensures (within_byte d place 125 here (λ e. omega arith)) (other_default d place 125 here (λ e. omega arith))
