use Rattle.std.proofs.Common.{◌≡◌, ◌+◌, ◌<◌, ℕ, length, sym, ap, ◌∙◌, subst, arith}
use Rattle.serde_json.specs.Data.{array}
use Rattle.serde_json.specs.View.{items_of}
use Rattle.json_room.specs.LexemesAt.{PassesSpaces}
use Rattle.json_room.proofs.RoomLemmas.{other_default, within_byte}
use Rattle.collection_items.proofs.WalkSteps.{array_read, document_read}
use Rattle.collection_items.proofs.document_walk.judged_items.Goals as goal

pub past_blanks-requires : goal.past_blanks-requires
past_blanks-requires g c =
    let d = c.args.document.now in
    let says = g.J.JudgesItems.says c.args.judge.now in
    let root = c.past_blanks-root.result in
    let judged = c.in-Some-judge_items.ensures in
    let read = array_read says d (root + 1) c.in-Some.bracket c.in-Some-judge_items.end c.judge_items.new.flags.items c.in-Some.ensures judged in
    (c.in-Some-object_end.ensures (root + 1) (array (items_of judged.items)) read).0

pub returns-then-past_blanks-text : goal.returns-then-past_blanks-text
returns-then-past_blanks-text g c =
    let d = c.args.document.now in
    let says = g.J.JudgesItems.says c.args.judge.now in
    let root = c.past_blanks-root.result in
    let bracket = c.in-Some.bracket in
    let judged = c.in-Some-judge_items.ensures in
    let end = c.in-Some-judge_items.end in
    let last = c.in-Some-object_end.last in
    let here = sym c.byte.ensures.here ∙ c.if-byte-ne123.false in
    let within : root < length d = within_byte d root 123 here (λ e. omega arith) in
    let read = array_read says d (root + 1) bracket end c.judge_items.new.flags.items c.in-Some.ensures judged in
    let ended = c.in-Some-object_end.ensures (root + 1) (array (items_of judged.items)) read in
    let long : c.past_blanks.result ≡ length d = c.if-past_blanks-text.true ∙ ap length c.text.ensures in
    let blank = subst (λ (k : ℕ). PassesSpaces d last k) long c.past_blanks.ensures in (
      judged.items,
      document_read d root last judged.items c.past_blanks-root.ensures within (other_default d root 123 here (λ e. omega arith)) ended.1 blank,
      judged.judged,
    )
