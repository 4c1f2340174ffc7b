use Rattle.std.proofs.Common.{◌≡◌, ◌≤◌, ℕ, List, length, sym, ◌∙◌, subst}
use Rattle.json_room.specs.LexemesAt.{PassesSpaces}
use Rattle.edm_rows.specs.declared.kept_leaf.Taken.{Taken}
use Rattle.edm_rows.specs.private.HeldRows.{IsTakenWhole, IsTakenWithin}
use Rattle.edm_rows.proofs.RowsRead.{ends_within, line_kept, line_left_out}
use Rattle.edm_rows.proofs.type_rows.TypeRows.read_text.Goals as goal

pub read_object-taken-requires-clause-within : goal.read_object-taken-requires-clause-within
read_object-taken-requires-clause-within c = subst (λ (l : List ℕ). c.past_blanks-begin.result ≤ length l) c.new-line.ensures c.past_blanks-begin.ensures.bounds.1

pub ends_taken-requires : goal.ends_taken-requires
ends_taken-requires c =
    let taken = c.read_object-taken.result in
    subst (λ (l : List ℕ). IsTakenWithin l taken) (sym c.new-line.ensures)
    (ends_within 126 c.args.text.now c.past_blanks-begin.result c.read_object-taken.new.self taken c.read_object-taken.ensures.object)

pub returns-then-ends_taken-clause-ready : goal.returns-then-ends_taken-clause-ready
returns-then-ends_taken-clause-ready c is =
    let put = c.reading_of.ensures.row is in
    c.read_object-taken.ensures.ready (λ broken. let wrong : Taken.Put put.0 ≡ Taken.Broken = sym put.1 ∙ broken in cc)

pub returns-then-ends_taken-clause-row : goal.returns-then-ends_taken-clause-row
returns-then-ends_taken-clause-row c is =
    let put = c.reading_of.ensures.row is in
    let begin = c.past_blanks-begin.result in
    let taken = c.read_object-taken.result in
    line_kept c.args.text.now begin put.0 c.read_object-taken.new.self taken c.utf8.text
    (subst (λ (l : List ℕ). PassesSpaces l 0 begin) c.new-line.ensures c.past_blanks-begin.ensures)
    (subst (λ (l : List ℕ). IsTakenWhole l taken) c.new-line.ensures (c.ends_taken.ensures.whole c.if-ends_taken.true)) c.read_object-taken.ensures.object put.1

pub returns-then-ends_taken-clause-left_out : goal.returns-then-ends_taken-clause-left_out
returns-then-ends_taken-clause-left_out c is =
    let rejected = c.reading_of.ensures.left_out is in
    let begin = c.past_blanks-begin.result in
    let taken = c.read_object-taken.result in
    line_left_out c.args.text.now begin rejected.0 c.read_object-taken.new.self taken c.utf8.text
    (subst (λ (l : List ℕ). PassesSpaces l 0 begin) c.new-line.ensures c.past_blanks-begin.ensures)
    (subst (λ (l : List ℕ). IsTakenWhole l taken) c.new-line.ensures (c.ends_taken.ensures.whole c.if-ends_taken.true)) c.read_object-taken.ensures.object rejected.1
