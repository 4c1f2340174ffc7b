use Rattle.std.proofs.Common.{sym, ◌∙◌, arith}
use Rattle.json_room.proofs.RoomLemmas.{other_default, within_byte}
use Rattle.collection_items.proofs.WalkSteps.{bracket_passed, comma_passed}
use Rattle.collection_items.proofs.document_walk.after_item.Goals as goal

pub returns-in-44 : goal.returns-in-44
returns-in-44 c =
    let d = c.args.document.now in
    let place = c.past_blanks-place.result in
    let here = sym c.byte.ensures.here ∙ c.in-44.is in
    comma_passed d c.args.end place c.past_blanks.result c.past_blanks-place.ensures (within_byte d place 44 here (λ e. omega arith)) (other_default d place 44 here (λ e. omega arith)) c.past_blanks.ensures

pub returns-in-93 : goal.returns-in-93
returns-in-93 c =
    let d = c.args.document.now in
    let place = c.past_blanks-place.result in
    let here = sym c.byte.ensures.here ∙ c.in-93.is in
    bracket_passed d c.args.end place c.past_blanks-place.ensures (within_byte d place 93 here (λ e. omega arith)) (other_default d place 93 here (λ e. omega arith))
