use Rattle.std.proofs.Common.{◌≡◌, ◌+◌, ◌<◌, ℕ, IfSome, Option, length, sym, subst, ◌∙◌, arith}
use Rattle.json_room.proofs.RoomLemmas.{other_default, within_byte}
use Rattle.collection_items.specs.private.DocumentWalk.{PutsArray}
use Rattle.collection_items.proofs.ItemLineSteps.{array_put, nothing_put}
use Rattle.collection_items.proofs.collection_lines.put_value.Goals as goal

pub returns-in-Some : goal.returns-in-Some
returns-in-Some c = nothing_put c.args.document.now c.args.place c.in-Some.end c.args.lines.now.items c.in-Some.ensures

pub put_items-requires-clause-within : goal.put_items-requires-clause-within
put_items-requires-clause-within c =
    let d = c.args.document.now in
    let here = sym c.byte.ensures.here ∙ c.if-byte-ne91.false in
    let within : c.args.place < length d = within_byte d c.args.place 91 here (λ e. omega arith) in
    omega (arith, within)

pub returns-in-Ok-Some : goal.returns-in-Ok-Some
returns-in-Ok-Some c =
    let d = c.args.document.now in
    let here = sym c.byte.ensures.here ∙ c.if-byte-ne91.false in
    let put = subst (λ (end : Option ℕ). IfSome end (PutsArray d (c.args.place + 1) c.put_items.new.lines.items)) c.in-Ok-Some.field-0-is c.in-Ok-Some.ensures in
    array_put d c.args.place c.in-Ok-Some.end c.put_items.new.lines.items (within_byte d c.args.place 91 here (λ e. omega arith)) (other_default d c.args.place 91 here (λ e. omega arith)) put
