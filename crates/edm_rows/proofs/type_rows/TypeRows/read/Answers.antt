use Rattle.std.proofs.Common.{◌≡◌, ◌+◌, ◌≤◌, ℕ, List, length, take, get_or, sym, ap, ◌∙◌, subst}
use Rattle.std.proofs.lemmas.List.{length-take-le}
use Rattle.edm_rows.specs.RowReading.{IsLineBut}
use Rattle.edm_rows.specs.RowsOfType.{IsLeftOut, names_unkept, row_held}
use Rattle.edm_rows.proofs.type_rows.TypeRows.read.Goals as goal

pub read_text-requires-clause-front : goal.read_text-requires-clause-front
read_text-requires-clause-front c =
    let bytes = c.args.bytes.now in
    let long : length c.in-Some.text.now ≡ c.args.count = ap length c.in-Some.ensures ∙ length-take-le c.args.count bytes c.requires.within in
    ap (λ (k : ℕ). take k bytes) long ∙ sym c.in-Some.ensures

pub read_text-requires-clause-line_feed : goal.read_text-requires-clause-line_feed
read_text-requires-clause-line_feed c =
    let bytes = c.args.bytes.now in
    let long : length c.in-Some.text.now ≡ c.args.count = ap length c.in-Some.ensures ∙ length-take-le c.args.count bytes c.requires.within in
    ap (λ (k : ℕ). get_or bytes k 0) long ∙ c.has_room.ensures.line_feed c.if-not-has_room.false

pub read_text-requires-clause-room : goal.read_text-requires-clause-room
read_text-requires-clause-room c =
    let bytes = c.args.bytes.now in
    let long : length c.in-Some.text.now ≡ c.args.count = ap length c.in-Some.ensures ∙ length-take-le c.args.count bytes c.requires.within in
    subst (λ (k : ℕ). k + 64 ≤ length bytes) (sym long) (c.has_room.ensures.room c.if-not-has_room.false)

pub returns-in-Some-clause-row : goal.returns-in-Some-clause-row
returns-in-Some-clause-row c is = subst (λ (l : List ℕ). IsLineBut l (names_unkept c.read_text.new.self) (row_held c.read_text.new.self)) c.in-Some.ensures (c.read_text.ensures.row is)

pub returns-in-Some-clause-left_out : goal.returns-in-Some-clause-left_out
returns-in-Some-clause-left_out c is = subst (λ (l : List ℕ). IsLeftOut l c.read_text.new.self) c.in-Some.ensures (c.read_text.ensures.left_out is)
