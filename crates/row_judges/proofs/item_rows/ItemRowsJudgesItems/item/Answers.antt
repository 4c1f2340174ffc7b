use Rattle.std.proofs.Common.{◌≡◌, ◌≤◌, ◌+◌, Bool, List, ℕ, Option, IfSome, length, take, get_or, sym, subst}
use Rattle.std.specs.Prelude.{false}
use Rattle.odata_eval.specs.TrueWhere.{AreWhole}
use Rattle.json_room.specs.ValueStands.{ValueStands}
use Rattle.edm_rows.specs.RowItems.{IsJsonBut, IsJsonLeftOut, ReadsItem}
use Rattle.edm_rows.specs.RowsOfType.{names_unkept, row_held}
use Rattle.row_judges.specs.RowJudgment.{JudgesValue, judgment_where}
use Rattle.row_judges.specs.RowLineJudge.{FilterNow}
use Rattle.row_judges.proofs.RowLemmas.ItemsInPlace.{stands_so}
use Rattle.row_judges.specs.private.ValueAnswer.{answer_reported}
use Rattle.row_judges.proofs.RowLemmas.RowJudges.{value_judged}
use Rattle.row_judges.proofs.RowLemmas.RowsInPlace.{rows_again}
use Rattle.row_judges.proofs.item_rows.ItemRowsJudgesItems.item.Goals as goal
use Rattle.row_judges.proofs.item_rows.ItemRowsJudgesItems.item.Goals.{in-LeftOut, in-Row+in-None, in-Row+in-Some, in-Unread}

pub read_item-requires-clause-front : goal.read_item-requires-clause-front
read_item-requires-clause-front c = subst (λ (t : List ℕ). take (length t) c.bytes.result.now ≡ t) (sym c.text.ensures) c.bytes.ensures.front

pub read_item-requires-clause-line_feed : goal.read_item-requires-clause-line_feed
read_item-requires-clause-line_feed c = subst (λ (t : List ℕ). get_or c.bytes.result.now (length t) 0 ≡ 10) (sym c.text.ensures) c.bytes.ensures.line_feed

pub read_item-requires-clause-room : goal.read_item-requires-clause-room
read_item-requires-clause-room c = subst (λ (t : List ℕ). length t + 64 ≤ length c.bytes.result.now) (sym c.text.ensures) c.bytes.ensures.room

pub read_item-requires-clause-within : goal.read_item-requires-clause-within
read_item-requires-clause-within c = subst (λ (t : List ℕ). c.args.place ≤ length t) (sym c.text.ensures) c.requires.within

pub invariant_of-self : goal.invariant_of-self
invariant_of-self c =
    (rows_again c.self.inside.rows.checked.now c.begin_at.new.rows c.read_item.new.self c.read_item.ensures.same (rows_again c.self.inside.rows.checked.now c.self.inside.type_rows c.begin_at.new.rows c.begin_at.ensures c.self.invariant.0), c.self.invariant.1)

pub answer_held-answer-requires-clause-tests : goal.answer_held-answer-requires-clause-tests
answer_held-answer-requires-clause-tests c = subst (AreWhole c.self.inside.rows.checked.now) (sym c.as_slice.ensures.value) c.self.invariant.1

pub answer_held-answer-requires-clause-rows : goal.answer_held-answer-requires-clause-rows
answer_held-answer-requires-clause-rows c =
    (rows_again c.self.inside.rows.checked.now c.begin_at.new.rows c.read_item.new.self c.read_item.ensures.same (rows_again c.self.inside.rows.checked.now c.self.inside.type_rows c.begin_at.new.rows c.begin_at.ensures c.self.invariant.0)).names

pub leaves_out-requires-clause-rows : goal.leaves_out-requires-clause-rows
leaves_out-requires-clause-rows c =
    rows_again c.self.inside.rows.checked.now c.begin_at.new.rows c.read_item.new.self c.read_item.ensures.same (rows_again c.self.inside.rows.checked.now c.self.inside.type_rows c.begin_at.new.rows c.begin_at.ensures c.self.invariant.0)

pub returns-clause-judged : goal.returns-clause-judged
returns-clause-judged c =
    let filter = c.self.inside.rows.checked.now in
    let now = c.self.inside.rows.moment.now in
    let document = c.args.document.now in
    let place = c.args.place in
    let new = c.read_item.new.self in
    let read = subst (λ (t : List ℕ). ReadsItem t place new c.read_item.result) c.text.ensures c.read_item.ensures.item in
    let Judged : (Option (Bool × ℕ) → Type 0) = λ result. IfSome result (λ found. ValueStands 125 document place found.1 (λ json. JudgesValue filter now json (judgment_where found.0))) in
    let judged : Judged c.match-read_item.result = elim c.match-read_item.branch [
      | in-Row+in-Some w ↦
          let kept = w.in-Some.is_kept in
          subst Judged (sym w.result-is)
          (stands_so 125 document place w.in-Row.end (λ json. IsJsonBut json (names_unkept new) (row_held new)) (λ json. JudgesValue filter now json (judgment_where kept))
          (λ json but. value_judged filter now json (answer_reported w.answer_held-answer.result) (judgment_where kept) (w.answer_held-answer.ensures json but) w.in-Some.ensures) (subst (λ r. ReadsItem document place new r) w.in-Row.is read))
      | in-Row+in-None w ↦ subst Judged (sym w.result-is) tt
      | in-LeftOut w ↦
          subst Judged (sym w.result-is)
          (stands_so 125 document place w.in-LeftOut.end (λ json. IsJsonLeftOut json new) (λ json. JudgesValue filter now json (judgment_where false)) (λ json left. w.leaves_out.ensures json left)
          (subst (λ r. ReadsItem document place new r) w.in-LeftOut.is read))
      | in-Unread w ↦ subst Judged (sym w.result-is) tt
    ] in
    subst (λ (f : FilterNow). IfSome c.match-read_item.result (λ found. ValueStands 125 document place found.1 (λ json. JudgesValue f.filter f.moment json (judgment_where found.0)))) c.self.view_is judged
