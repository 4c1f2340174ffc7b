use Rattle.std.proofs.Common.{sym, ◌∙◌, ◌+◌, arith}
use Rattle.json_room.proofs.RoomLemmas.{other_default, within_byte}
use Rattle.json_room.proofs.Places.{named_text}
use Rattle.collection_items.proofs.WalkSteps.{names_then}
use Rattle.collection_items.proofs.document_walk.member_name.Goals as goal

pub returns : goal.returns
returns c =
    let d = c.args.document.now in
    let i = c.args.place in
    let colon = c.past_blanks-colon.result in
    let name = c.in-Some.name.now in
    let here = sym c.byte.ensures.here ∙ c.if-byte-ne58.false in
    let named = named_text d i c.in-Some.end colon name c.in-Some.ensures.further c.in-Some.ensures.text c.past_blanks-colon.ensures (within_byte d colon 58 here (λ e. omega arith)) (other_default d colon 58 here (λ e. omega arith)) in
    record {
      name = name;
      names = names_then d i name (colon + 1) c.past_blanks-value.result named c.past_blanks-value.ensures;
      is = c.names_value.ensures.is;
      is_not = c.names_value.ensures.is_not;
    }
