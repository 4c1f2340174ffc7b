use Rattle.std.proofs.Common.{◌≡◌, ◌+◌, ◌≤◌, ℕ, List, length, take, get_or, IfOk, IfSome, sym, ap, ◌∙◌, subst, arith}
use Rattle.std.proofs.lemmas.List.{length-take-le}
use Rattle.collection_items.specs.ItemLines.{HasItemLines}
use Rattle.collection_items.proofs.collection_lines.walked_lines.Goals as goal

-- the text is as long as the document
pub text_lines-requires-clause-front : goal.text_lines-requires-clause-front
text_lines-requires-clause-front c =
    let bytes = c.as_slice-bytes.result.now in
    let count = length c.args.document.now in
    let within : count ≤ length bytes = omega (arith, c.has_room.ensures.room c.if-not-has_room.false) in
    let long : length c.in-Some.text.now ≡ count = ap length c.in-Some.ensures ∙ length-take-le count bytes within in
    ap (λ (k : ℕ). take k bytes) long ∙ sym c.in-Some.ensures

pub text_lines-requires-clause-line_feed : goal.text_lines-requires-clause-line_feed
text_lines-requires-clause-line_feed c =
    let bytes = c.as_slice-bytes.result.now in
    let count = length c.args.document.now in
    let within : count ≤ length bytes = omega (arith, c.has_room.ensures.room c.if-not-has_room.false) in
    let long : length c.in-Some.text.now ≡ count = ap length c.in-Some.ensures ∙ length-take-le count bytes within in
    ap (λ (k : ℕ). get_or bytes k 0) long ∙ c.has_room.ensures.line_feed c.if-not-has_room.false

pub text_lines-requires-clause-room : goal.text_lines-requires-clause-room
text_lines-requires-clause-room c =
    let bytes = c.as_slice-bytes.result.now in
    let count = length c.args.document.now in
    let within : count ≤ length bytes = omega (arith, c.has_room.ensures.room c.if-not-has_room.false) in
    let long : length c.in-Some.text.now ≡ count = ap length c.in-Some.ensures ∙ length-take-le count bytes within in
    subst (λ (k : ℕ). k + 64 ≤ length bytes) (sym long) (c.has_room.ensures.room c.if-not-has_room.false)

pub returns-in-Some : goal.returns-in-Some
returns-in-Some c =
    let count = length c.args.document.now in
    let same : c.in-Some.text.now ≡ c.args.document.now = c.in-Some.ensures ∙ ap (take count) c.as_slice-bytes.ensures.value ∙ c.copy_with_room.ensures.copied c.if-not-copy_with_room.false in
    subst (λ (t : List ℕ). IfOk c.text_lines.result (λ found. IfSome found (λ lines. HasItemLines t lines.items))) same c.text_lines.ensures
