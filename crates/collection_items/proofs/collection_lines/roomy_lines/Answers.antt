use Rattle.std.proofs.Common.{◌≡◌, ◌+◌, ◌<◌, ℕ, IfSome, Option, length, sym, ap, ◌∙◌, subst, arith}
use Rattle.json_room.specs.LexemesAt.{PassesSpaces}
use Rattle.json_room.proofs.RoomLemmas.{other_default, within_byte}
use Rattle.collection_items.specs.private.DocumentWalk.{PutsMembers}
use Rattle.collection_items.proofs.ItemLineSteps.{document_lines}
use Rattle.collection_items.proofs.collection_lines.roomy_lines.Goals as goal

pub past_blanks-requires : goal.past_blanks-requires
past_blanks-requires c =
    let put = subst (λ (end : Option ℕ). IfSome end (PutsMembers c.args.document.now (c.past_blanks-root.result + 1) c.put_members.new.lines.items)) c.in-Ok-Some.field-0-is c.in-Ok-Some.ensures in
    put.within

pub returns-then-past_blanks-text : goal.returns-then-past_blanks-text
returns-then-past_blanks-text c =
    let d = c.args.document.now in
    let root = c.past_blanks-root.result in
    let last = c.in-Ok-Some.last in
    let put = subst (λ (end : Option ℕ). IfSome end (PutsMembers d (root + 1) c.put_members.new.lines.items)) c.in-Ok-Some.field-0-is c.in-Ok-Some.ensures in
    let here = sym c.byte.ensures.here ∙ c.if-byte-ne123.false in
    let within : root < length d = within_byte d root 123 here (λ e. omega arith) in
    let long : c.past_blanks.result ≡ length d = c.if-past_blanks-text.true ∙ ap length c.text.ensures in
    let blank = subst (λ (k : ℕ). PassesSpaces d last k) long c.past_blanks.ensures in
    document_lines d root last c.put_members.new.lines.items c.past_blanks-root.ensures within (other_default d root 123 here (λ e. omega arith)) put blank
