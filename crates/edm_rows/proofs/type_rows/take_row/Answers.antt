use Rattle.std.proofs.Common.{rules, ◌≡◌, ◌<◌, get_or, length, sym, ◌∙◌, arith}
use Rattle.json_room.proofs.RoomLemmas.{other_default, within_byte}
use Rattle.edm_rows.proofs.RowsRead.{object_taken}
use Rattle.edm_rows.proofs.type_rows.take_row.Goals as goal

pub returns-in-Record-clause-row : goal.returns-in-Record-clause-row
returns-in-Record-clause-row c =
    let context = c.args.context.now in
    let line = context.line in
    let place = c.args.place in
    let is : get_or line place 10 ≡ 123 = sym c.byte.ensures.here ∙ c.if-byte-ne123.false in
    let within : place < length line = within_byte line place 123 is (λ e. omega arith) in
    let opens : get_or line place 32 ≡ 123 = other_default line place 123 is (λ e. omega arith) in
    object_taken context _ c.take_object.new.values place c.take_object.result (search rules) within opens c.take_object.ensures.read

pub returns-in-Record-clause-conforms : goal.returns-in-Record-clause-conforms
returns-in-Record-clause-conforms c whole = (c.take_object.new.values, search rules, c.take_object.ensures.conforms whole)
