use Rattle.std.proofs.Common.{◌≡◌, ◌≤◌, ◌+◌, ◌++◌, ◌∷◌, ℕ, List, length, take, ◌⊎◌, arith, sym, ap, ◌∙◌, subst}
use Rattle.std.specs.Prelude.{IfSome}
use Rattle.line_filter.specs.LineItems.{lines}
use Rattle.line_filter.specs.Lines.{longest_line}
use Rattle.line_filter.specs.LineSource.{left_of, GivesLine, IsOver, WhereKnown}
use Rattle.line_filter.specs.Kept.{StopsWith}
use Rattle.line_filter.specs.LineStreams.{LacksLine, ReadsUntil}
use Rattle.line_filter.specs.private.Giving.{Gives, bytes_to_come}
use Rattle.line_filter.specs.private.HeldBack.{WritesBut}
use Rattle.line_filter.specs.declared.judge.Judgment.{Judgment}
use Rattle.line_filter.specs.declared.run_stop.RunStop.{RunStop}
use Rattle.line_filter.proofs.DeviceLaws.Called.{stays_well_refl, stays_well_trans}
use Rattle.line_filter.proofs.DeviceLaws.Unread.{going_read, reads_well_refl, reads_well_more, reads_on}
use Rattle.line_filter.proofs.ItemLaws.Passing.{outcome_counts}
use Rattle.line_filter.proofs.ItemLaws.Stopping.{outcome_stops}
use Rattle.line_filter.proofs.LineLaws.Found.{SaysTheSame-refl, SaysTheSame-trans, ComesOf-same}
use Rattle.line_filter.proofs.RunLaws.AtOnce.{found_at_once, HasCome-at_fault, HasCome-empty, HasCome-kept, HasCome-left_out, HasCome-unkept}
use Rattle.line_filter.proofs.RunLaws.Called.{reads_of_item, reads_reported}
use Rattle.line_filter.proofs.RunLaws.Streams.{HasCome-none, HasCome-written, HasCome-unwritten, HasCome-end, HasCome-fault, HasCome-more, HasCome-stopped, HasCome-failed}
use Rattle.line_filter.proofs.WriteLaws.HeldBack.{OnErr-from}
use Rattle.line_filter.proofs.stream.judge_stream.Goals as goal

pub loop-fault-init : goal.loop-fault-init
loop-fault-init g c = (
  omega arith,
  omega arith,
  omega arith,
  SaysTheSame-refl (g.J.Judge.says c.args.judge.now),
  HasCome-none (g.J.Judge.says c.args.judge.now) (left_of g.R.Read.remaining c.args.reader.now) _ (g.T.Writes.contents c.args.out.now) c.args.held.now.items c.requires.none_held,
  reads_well_refl g.S.Reads.calls g.R.Read.remaining c.args.reader.now,
  stays_well_refl (g.T.Writes.calls c.args.out.now),
  λ is. c.requires.none_held,
)

pub returns-in_err-next_line-clause-err : goal.returns-in_err-next_line-clause-err
returns-in_err-next_line-clause-err g c =
    let i = c.loop-fault.invariant in
    let u = g.T.Writes.contents c.args.out.now in
    let v = g.T.Writes.contents c.loop-fault.out in
    OnErr-from c.from_residual.result _
    (HasCome-unwritten (g.J.Judge.says c.args.judge.now) (left_of g.R.Read.remaining c.args.reader.now) (left_of g.R.Read.remaining c.loop-fault.reader) (IsOver c.loop-fault.reader → ⊥)
    u v (g.T.Writes.contents c.next_line.new.out) c.loop-fault.held.items c.loop-fault.lines c.loop-fault.tally i.4 c.in_err-next_line.ensures.err)

pub returns-in-End-clause-ok : goal.returns-in-End-clause-ok
returns-in-End-clause-ok g c =
    let i = c.loop-fault.invariant in
    let says = g.J.Judge.says c.args.judge.now in
    let a = left_of g.R.Read.remaining c.args.reader.now in
    let r = left_of g.R.Read.remaining c.loop-fault.reader in
    let u = g.T.Writes.contents c.args.out.now in
    let v = g.T.Writes.contents c.loop-fault.out in
    let w = g.T.Writes.contents c.next_line.new.out in
    let given = subst (Gives g.R.Read.remaining c.loop-fault.reader c.next_line.new.reader) c.in-End.is c.in_ok-next_line.ensures.given in
    let came = HasCome-written says a r (IsOver c.loop-fault.reader → ⊥) u v w c.loop-fault.held.items c.next_line.new.held.items c.loop-fault.lines c.loop-fault.tally i.4 c.in_ok-next_line.ensures.ok in
    HasCome-end says a r (IsOver c.loop-fault.reader → ⊥) u w c.next_line.new.held.items c.loop-fault.lines c.loop-fault.tally came given.none_left

pub returns-in-End-clause-ended : goal.returns-in-End-clause-ended
returns-in-End-clause-ended g c =
    let given = subst (Gives g.R.Read.remaining c.loop-fault.reader c.next_line.new.reader) c.in-End.is c.in_ok-next_line.ensures.given in
    given.over

pub returns-in-Fault-clause-ok : goal.returns-in-Fault-clause-ok
returns-in-Fault-clause-ok g c =
    let i = c.loop-fault.invariant in
    let says = g.J.Judge.says c.args.judge.now in
    let a = left_of g.R.Read.remaining c.args.reader.now in
    let r = left_of g.R.Read.remaining c.loop-fault.reader in
    let u = g.T.Writes.contents c.args.out.now in
    let v = g.T.Writes.contents c.loop-fault.out in
    let w = g.T.Writes.contents c.next_line.new.out in
    let fault = c.in-Fault.fault in
    let given = subst (Gives g.R.Read.remaining c.loop-fault.reader c.next_line.new.reader) c.in-Fault.is c.in_ok-next_line.ensures.given in
    let not_over = λ (over : IsOver c.loop-fault.reader). let ends = c.in_ok-next_line.ensures.again.over over in absurd {A = ⊥} (cc) in
    let came = HasCome-written says a r (IsOver c.loop-fault.reader → ⊥) u v w c.loop-fault.held.items c.next_line.new.held.items c.loop-fault.lines c.loop-fault.tally i.4 c.in_ok-next_line.ensures.ok in
    subst (λ (s : RunStop g.row.J-Fault.Denot). IfSome a (λ bytes. (text : List ℕ) × WritesBut u w c.next_line.new.held.items text × StopsWith (lines says bytes) (LacksLine says bytes c.next_line.new.reader.waiting (g.R.Read.remaining c.next_line.new.reader.reader)) text s)) (sym c.fault_stop.ensures)
    (HasCome-fault says c.next_line.new.reader.waiting a r (g.R.Read.remaining c.next_line.new.reader.reader) (IsOver c.loop-fault.reader → ⊥) u w c.next_line.new.held.items c.loop-fault.lines c.loop-fault.tally fault came
    not_over given.left given.unended given.long)

pub returns-in_err-keep_where-in-Ok-clause-err : goal.returns-in_err-keep_where-in-Ok-clause-err
returns-in_err-keep_where-in-Ok-clause-err g c =
    let i = c.loop-fault.invariant in
    let says = g.J.Judge.says c.args.judge.now in
    let a = left_of g.R.Read.remaining c.args.reader.now in
    let r = left_of g.R.Read.remaining c.loop-fault.reader in
    let s = left_of g.R.Read.remaining c.next_line.new.reader in
    let u = g.T.Writes.contents c.args.out.now in
    let v = g.T.Writes.contents c.next_line.new.out in
    let line = c.line-line.result.now in
    let given = subst (Gives g.R.Read.remaining c.loop-fault.reader c.next_line.new.reader) c.in-Line.is c.in_ok-next_line.ensures.given in
    let first = subst (λ (l : List ℕ). GivesLine r s l) (sym c.line-line.ensures) given.first in
    let not_over = λ (over : IsOver c.loop-fault.reader). let ends = c.in_ok-next_line.ensures.again.over over in absurd {A = ⊥} (cc) in
    let came = HasCome-written says a r (IsOver c.loop-fault.reader → ⊥) u (g.T.Writes.contents c.loop-fault.out) v c.loop-fault.held.items c.next_line.new.held.items c.loop-fault.lines c.loop-fault.tally i.4 c.in_ok-next_line.ensures.ok in
    let same = SaysTheSame-trans says (g.J.Judge.says c.loop-fault.judge) (g.J.Judge.says c.judge_at_front.new.self) i.3 c.judge_at_front.ensures.same in
    let comes = ComesOf-same _ _ line _ c.line_outcome.result same c.line_outcome.ensures.comes in
    let failed = c.in_err-keep_where-in-Ok.ensures in
    OnErr-from c.from_residual-in_err-keep_where-in-Ok.result _
    (HasCome-failed says line (IsOver c.loop-fault.reader → ⊥) u v c.next_line.new.held.items c.loop-fault.lines c.loop-fault.tally c.line_outcome.result comes not_over
    a r s c.in-Ok.one (g.T.Writes.contents c.keep_where.new.out) came first c.in-Ok.is failed.kept failed.err)

pub overflow_add-tally : goal.overflow_add-tally
overflow_add-tally g c = let i = c.loop-fault.invariant in omega (arith, i.0, i.1, c.requires.few)

pub overflow_add-tally-in-Ok : goal.overflow_add-tally-in-Ok
overflow_add-tally-in-Ok g c =
    let i = c.loop-fault.invariant in
    let counts = outcome_counts _ _ c.line_outcome.result c.in-Ok.one c.line_outcome.ensures.comes c.in-Ok.is in
    omega (arith, i.0, i.1, i.2, counts.0, counts.1, c.requires.few)

pub returns-in_err-keep-in-Some-Kept-clause-err : goal.returns-in_err-keep-in-Some-Kept-clause-err
returns-in_err-keep-in-Some-Kept-clause-err g c =
    let i = c.loop-fault.invariant in
    let says = g.J.Judge.says c.args.judge.now in
    let a = left_of g.R.Read.remaining c.args.reader.now in
    let r = left_of g.R.Read.remaining c.loop-fault.reader in
    let s = left_of g.R.Read.remaining c.next_line.new.reader in
    let u = g.T.Writes.contents c.args.out.now in
    let v = g.T.Writes.contents c.next_line.new.out in
    let line = c.line-line.result.now in
    let front = c.front.result.now in
    let given = subst (Gives g.R.Read.remaining c.loop-fault.reader c.next_line.new.reader) c.in-Line.is c.in_ok-next_line.ensures.given in
    let first = subst (λ (l : List ℕ). GivesLine r s l) (sym c.line-line.ensures) given.first in
    let not_over = λ (over : IsOver c.loop-fault.reader). let ends = c.in_ok-next_line.ensures.again.over over in absurd {A = ⊥} (cc) in
    let came = HasCome-written says a r (IsOver c.loop-fault.reader → ⊥) u (g.T.Writes.contents c.loop-fault.out) v c.loop-fault.held.items c.next_line.new.held.items c.loop-fault.lines c.loop-fault.tally i.4 c.in_ok-next_line.ensures.ok in
    let front_is : take (length line) front ≡ line = ap (λ (l : List ℕ). take (length l) front) c.line-line.ensures ∙ c.front.ensures ∙ sym c.line-line.ensures in
    let short : length line ≤ longest_line = subst (λ (l : List ℕ). length l ≤ longest_line) (sym c.line-line.ensures) given.short in
    let finds = found_at_once says (g.J.Judge.says c.loop-fault.judge) front line c.judge_at_front.result c.in-Some-Kept.field-0 Judgment.Kept i.3 c.in-Some-Kept.is c.in-Some-Kept.field-0-is front_is short c.judge_at_front.ensures.said c.judge_at_front.ensures.not_blank in
    OnErr-from c.from_residual-in_err-keep-in-Some-Kept.result _
    (HasCome-unkept says line (IsOver c.loop-fault.reader → ⊥) u v c.next_line.new.held.items c.loop-fault.lines c.loop-fault.tally not_over a r s came first finds (g.T.Writes.contents c.keep.new.out) c.in_err-keep-in-Some-Kept.ensures.err)

pub loop-fault-preserved-in-Some-Kept : goal.loop-fault-preserved-in-Some-Kept
loop-fault-preserved-in-Some-Kept g c =
    let i = c.loop-fault.invariant in
    let says = g.J.Judge.says c.args.judge.now in
    let a = left_of g.R.Read.remaining c.args.reader.now in
    let r = left_of g.R.Read.remaining c.loop-fault.reader in
    let s = left_of g.R.Read.remaining c.next_line.new.reader in
    let u = g.T.Writes.contents c.args.out.now in
    let v = g.T.Writes.contents c.next_line.new.out in
    let line = c.line-line.result.now in
    let front = c.front.result.now in
    let given = subst (Gives g.R.Read.remaining c.loop-fault.reader c.next_line.new.reader) c.in-Line.is c.in_ok-next_line.ensures.given in
    let first = subst (λ (l : List ℕ). GivesLine r s l) (sym c.line-line.ensures) given.first in
    let not_over = λ (over : IsOver c.loop-fault.reader). let ends = c.in_ok-next_line.ensures.again.over over in absurd {A = ⊥} (cc) in
    let came = HasCome-written says a r (IsOver c.loop-fault.reader → ⊥) u (g.T.Writes.contents c.loop-fault.out) v c.loop-fault.held.items c.next_line.new.held.items c.loop-fault.lines c.loop-fault.tally i.4 c.in_ok-next_line.ensures.ok in
    let front_is : take (length line) front ≡ line = ap (λ (l : List ℕ). take (length l) front) c.line-line.ensures ∙ c.front.ensures ∙ sym c.line-line.ensures in
    let short : length line ≤ longest_line = subst (λ (l : List ℕ). length l ≤ longest_line) (sym c.line-line.ensures) given.short in
    let finds = found_at_once says (g.J.Judge.says c.loop-fault.judge) front line c.judge_at_front.result c.in-Some-Kept.field-0 Judgment.Kept i.3 c.in-Some-Kept.is c.in-Some-Kept.field-0-is front_is short c.judge_at_front.ensures.said c.judge_at_front.ensures.not_blank in
    let whole = subst (λ (l : List ℕ). IsOver c.next_line.new.reader ⊎ WhereKnown r s (λ rest after. rest ≡ l ++ 10 ∷ after)) (sym c.line-line.ensures) given.whole in
    let wrote = c.in_ok-keep-in-Some-Kept.ensures in
    let fewer = given.fewer in
    let lines_fit : c.loop-fault.lines + 1 + bytes_to_come c.next_line.new.reader ≤ bytes_to_come c.args.reader.now = omega (arith, i.0, fewer) in
    let rows_fit : c.loop-fault.tally.rows + 1 ≤ c.loop-fault.lines + 1 = omega (arith, i.1) in
    let kept_fit : c.loop-fault.tally.kept + 1 ≤ c.loop-fault.lines + 1 = omega (arith, i.2) in (
      lines_fit,
      rows_fit,
      kept_fit,
      SaysTheSame-trans _ _ _ i.3 c.judge_at_front.ensures.same,
      HasCome-kept says line (IsOver c.loop-fault.reader → ⊥) u v c.next_line.new.held.items c.loop-fault.lines c.loop-fault.tally not_over a r s came first finds (IsOver c.next_line.new.reader) whole (g.T.Writes.contents c.keep.new.out) c.keep.new.held.items wrote.ok,
      reads_well_more g.S.Reads.calls g.R.Read.remaining c.args.reader.now c.loop-fault.reader c.next_line.new.reader i.5 c.in_ok-next_line.ensures.reads (going_read c.next_line.new.reader given.going),
      stays_well_trans _ (g.T.Writes.calls c.next_line.new.out) _ (stays_well_trans _ (g.T.Writes.calls c.loop-fault.out) _ i.6 c.in_ok-next_line.ensures.well) wrote.well,
      λ is_unread. absurd (going_read c.next_line.new.reader given.going is_unread),
    )

pub loop-fault-preserved-in-Some-LeftOut : goal.loop-fault-preserved-in-Some-LeftOut
loop-fault-preserved-in-Some-LeftOut g c =
    let i = c.loop-fault.invariant in
    let says = g.J.Judge.says c.args.judge.now in
    let a = left_of g.R.Read.remaining c.args.reader.now in
    let r = left_of g.R.Read.remaining c.loop-fault.reader in
    let s = left_of g.R.Read.remaining c.next_line.new.reader in
    let u = g.T.Writes.contents c.args.out.now in
    let v = g.T.Writes.contents c.next_line.new.out in
    let line = c.line-line.result.now in
    let front = c.front.result.now in
    let given = subst (Gives g.R.Read.remaining c.loop-fault.reader c.next_line.new.reader) c.in-Line.is c.in_ok-next_line.ensures.given in
    let first = subst (λ (l : List ℕ). GivesLine r s l) (sym c.line-line.ensures) given.first in
    let not_over = λ (over : IsOver c.loop-fault.reader). let ends = c.in_ok-next_line.ensures.again.over over in absurd {A = ⊥} (cc) in
    let came = HasCome-written says a r (IsOver c.loop-fault.reader → ⊥) u (g.T.Writes.contents c.loop-fault.out) v c.loop-fault.held.items c.next_line.new.held.items c.loop-fault.lines c.loop-fault.tally i.4 c.in_ok-next_line.ensures.ok in
    let front_is : take (length line) front ≡ line = ap (λ (l : List ℕ). take (length l) front) c.line-line.ensures ∙ c.front.ensures ∙ sym c.line-line.ensures in
    let short : length line ≤ longest_line = subst (λ (l : List ℕ). length l ≤ longest_line) (sym c.line-line.ensures) given.short in
    let finds = found_at_once says (g.J.Judge.says c.loop-fault.judge) front line c.judge_at_front.result c.in-Some-LeftOut.field-0 Judgment.LeftOut i.3 c.in-Some-LeftOut.is c.in-Some-LeftOut.field-0-is front_is short c.judge_at_front.ensures.said c.judge_at_front.ensures.not_blank in
    let whole = subst (λ (l : List ℕ). IsOver c.next_line.new.reader ⊎ WhereKnown r s (λ rest after. rest ≡ l ++ 10 ∷ after)) (sym c.line-line.ensures) given.whole in
    let fewer = given.fewer in
    let lines_fit : c.loop-fault.lines + 1 + bytes_to_come c.next_line.new.reader ≤ bytes_to_come c.args.reader.now = omega (arith, i.0, fewer) in
    let rows_fit : c.loop-fault.tally.rows + 1 ≤ c.loop-fault.lines + 1 = omega (arith, i.1) in
    let kept_fit : c.loop-fault.tally.kept ≤ c.loop-fault.lines + 1 = omega (arith, i.2) in (
      lines_fit,
      rows_fit,
      kept_fit,
      SaysTheSame-trans _ _ _ i.3 c.judge_at_front.ensures.same,
      HasCome-left_out says line (IsOver c.loop-fault.reader → ⊥) u v c.next_line.new.held.items c.loop-fault.lines c.loop-fault.tally not_over a r s came first finds (IsOver c.next_line.new.reader) whole,
      reads_well_more g.S.Reads.calls g.R.Read.remaining c.args.reader.now c.loop-fault.reader c.next_line.new.reader i.5 c.in_ok-next_line.ensures.reads (going_read c.next_line.new.reader given.going),
      stays_well_trans _ (g.T.Writes.calls c.loop-fault.out) _ i.6 c.in_ok-next_line.ensures.well,
      λ is_unread. absurd (going_read c.next_line.new.reader given.going is_unread),
    )

pub loop-fault-preserved-in-Empty : goal.loop-fault-preserved-in-Empty
loop-fault-preserved-in-Empty g c =
    let i = c.loop-fault.invariant in
    let says = g.J.Judge.says c.args.judge.now in
    let a = left_of g.R.Read.remaining c.args.reader.now in
    let r = left_of g.R.Read.remaining c.loop-fault.reader in
    let s = left_of g.R.Read.remaining c.next_line.new.reader in
    let u = g.T.Writes.contents c.args.out.now in
    let v = g.T.Writes.contents c.next_line.new.out in
    let line = c.next_line.new.reader.line in
    let given = subst (Gives g.R.Read.remaining c.loop-fault.reader c.next_line.new.reader) c.in-Empty.is c.in_ok-next_line.ensures.given in
    let not_over = λ (over : IsOver c.loop-fault.reader). let ends = c.in_ok-next_line.ensures.again.over over in absurd {A = ⊥} (cc) in
    let came = HasCome-written says a r (IsOver c.loop-fault.reader → ⊥) u (g.T.Writes.contents c.loop-fault.out) v c.loop-fault.held.items c.next_line.new.held.items c.loop-fault.lines c.loop-fault.tally i.4 c.in_ok-next_line.ensures.ok in
    let fewer = given.0.fewer in
    let lines_fit : c.loop-fault.lines + 1 + bytes_to_come c.next_line.new.reader ≤ bytes_to_come c.args.reader.now = omega (arith, i.0, fewer) in
    let rows_fit : c.loop-fault.tally.rows ≤ c.loop-fault.lines + 1 = omega (arith, i.1) in
    let kept_fit : c.loop-fault.tally.kept ≤ c.loop-fault.lines + 1 = omega (arith, i.2) in (
      lines_fit,
      rows_fit,
      kept_fit,
      i.3,
      HasCome-empty says line (IsOver c.loop-fault.reader → ⊥) u v c.next_line.new.held.items c.loop-fault.lines c.loop-fault.tally not_over a r s came given.0.first given.1 (IsOver c.next_line.new.reader) given.0.whole,
      reads_well_more g.S.Reads.calls g.R.Read.remaining c.args.reader.now c.loop-fault.reader c.next_line.new.reader i.5 c.in_ok-next_line.ensures.reads (going_read c.next_line.new.reader given.0.going),
      stays_well_trans _ (g.T.Writes.calls c.loop-fault.out) _ i.6 c.in_ok-next_line.ensures.well,
      λ is_unread. absurd (going_read c.next_line.new.reader given.0.going is_unread),
    )

pub returns-in-Some-Fault-clause-ok : goal.returns-in-Some-Fault-clause-ok
returns-in-Some-Fault-clause-ok g c =
    let i = c.loop-fault.invariant in
    let says = g.J.Judge.says c.args.judge.now in
    let a = left_of g.R.Read.remaining c.args.reader.now in
    let r = left_of g.R.Read.remaining c.loop-fault.reader in
    let s = left_of g.R.Read.remaining c.next_line.new.reader in
    let u = g.T.Writes.contents c.args.out.now in
    let v = g.T.Writes.contents c.next_line.new.out in
    let line = c.line-line.result.now in
    let front = c.front.result.now in
    let given = subst (Gives g.R.Read.remaining c.loop-fault.reader c.next_line.new.reader) c.in-Line.is c.in_ok-next_line.ensures.given in
    let first = subst (λ (l : List ℕ). GivesLine r s l) (sym c.line-line.ensures) given.first in
    let not_over = λ (over : IsOver c.loop-fault.reader). let ends = c.in_ok-next_line.ensures.again.over over in absurd {A = ⊥} (cc) in
    let came = HasCome-written says a r (IsOver c.loop-fault.reader → ⊥) u (g.T.Writes.contents c.loop-fault.out) v c.loop-fault.held.items c.next_line.new.held.items c.loop-fault.lines c.loop-fault.tally i.4 c.in_ok-next_line.ensures.ok in
    let front_is : take (length line) front ≡ line = ap (λ (l : List ℕ). take (length l) front) c.line-line.ensures ∙ c.front.ensures ∙ sym c.line-line.ensures in
    let short : length line ≤ longest_line = subst (λ (l : List ℕ). length l ≤ longest_line) (sym c.line-line.ensures) given.short in
    let finds = found_at_once says (g.J.Judge.says c.loop-fault.judge) front line c.judge_at_front.result c.in-Some-Fault.field-0 (Judgment.Fault c.in-Some-Fault.fault) i.3 c.in-Some-Fault.is c.in-Some-Fault.field-0-is front_is short c.judge_at_front.ensures.said c.judge_at_front.ensures.not_blank in
    subst (λ (stop : RunStop g.row.J-Fault.Denot). IfSome a (λ bytes. (text : List ℕ) × WritesBut u v c.next_line.new.held.items text × StopsWith (lines says bytes) (LacksLine says bytes c.next_line.new.reader.waiting (g.R.Read.remaining c.next_line.new.reader.reader)) text stop)) (sym c.stop_at.ensures)
    (HasCome-at_fault says line (IsOver c.loop-fault.reader → ⊥) u v c.next_line.new.held.items c.loop-fault.lines c.loop-fault.tally not_over a r s came first c.in-Some-Fault.fault finds c.next_line.new.reader.waiting (g.R.Read.remaining c.next_line.new.reader.reader))

pub returns-in-Some-Fault-clause-reads : goal.returns-in-Some-Fault-clause-reads
returns-in-Some-Fault-clause-reads g c =
    let i = c.loop-fault.invariant in
    let calls = g.S.Reads.calls in
    let remaining = g.R.Read.remaining in
    let given = subst (Gives remaining c.loop-fault.reader c.next_line.new.reader) c.in-Line.is c.in_ok-next_line.ensures.given in
    let reads = reads_on calls remaining c.args.reader.now c.loop-fault.reader c.next_line.new.reader i.5 c.in_ok-next_line.ensures.reads in
    subst (λ (stop : RunStop g.row.J-Fault.Denot). ReadsUntil calls remaining c.args.reader.now c.next_line.new.reader stop) (sym c.stop_at.ensures)
    (reads_of_item calls remaining c.args.reader.now c.next_line.new.reader (RunStop.Fault (c.loop-fault.lines + 1) c.in-Some-Fault.fault) tt (reads.well (going_read c.next_line.new.reader given.going)))

pub loop-fault-preserved : goal.loop-fault-preserved
loop-fault-preserved g c =
    let i = c.loop-fault.invariant in
    let says = g.J.Judge.says c.args.judge.now in
    let a = left_of g.R.Read.remaining c.args.reader.now in
    let r = left_of g.R.Read.remaining c.loop-fault.reader in
    let s = left_of g.R.Read.remaining c.next_line.new.reader in
    let u = g.T.Writes.contents c.args.out.now in
    let v = g.T.Writes.contents c.next_line.new.out in
    let line = c.line-line.result.now in
    let kept = c.in_ok-keep_where-in-Ok.ensures in
    let counts = outcome_counts _ _ c.line_outcome.result c.in-Ok.one c.line_outcome.ensures.comes c.in-Ok.is in
    let given = subst (Gives g.R.Read.remaining c.loop-fault.reader c.next_line.new.reader) c.in-Line.is c.in_ok-next_line.ensures.given in
    let first = subst (λ (l : List ℕ). GivesLine r s l) (sym c.line-line.ensures) given.first in
    let whole = subst (λ (l : List ℕ). IsOver c.next_line.new.reader ⊎ WhereKnown r s (λ rest after. rest ≡ l ++ 10 ∷ after)) (sym c.line-line.ensures) given.whole in
    let not_over = λ (over : IsOver c.loop-fault.reader). let ends = c.in_ok-next_line.ensures.again.over over in absurd {A = ⊥} (cc) in
    let came = HasCome-written says a r (IsOver c.loop-fault.reader → ⊥) u (g.T.Writes.contents c.loop-fault.out) v c.loop-fault.held.items c.next_line.new.held.items c.loop-fault.lines c.loop-fault.tally i.4 c.in_ok-next_line.ensures.ok in
    let same = SaysTheSame-trans says (g.J.Judge.says c.loop-fault.judge) (g.J.Judge.says c.judge_at_front.new.self) i.3 c.judge_at_front.ensures.same in
    let comes = ComesOf-same _ _ line _ c.line_outcome.result same c.line_outcome.ensures.comes in
    let fewer = given.fewer in
    let lines_fit : c.loop-fault.lines + 1 + bytes_to_come c.next_line.new.reader ≤ bytes_to_come c.args.reader.now = omega (arith, i.0, fewer) in
    let rows_fit : c.loop-fault.tally.rows + c.in-Ok.one.rows ≤ c.loop-fault.lines + 1 = omega (arith, i.1, counts.0) in
    let kept_fit : c.loop-fault.tally.kept + c.in-Ok.one.kept ≤ c.loop-fault.lines + 1 = omega (arith, i.2, counts.1) in (
      lines_fit,
      rows_fit,
      kept_fit,
      SaysTheSame-trans _ _ _ same c.line_outcome.ensures.same,
      HasCome-more says line (IsOver c.loop-fault.reader → ⊥) u v c.next_line.new.held.items c.loop-fault.lines c.loop-fault.tally c.line_outcome.result comes not_over
          a r s (IsOver c.next_line.new.reader) c.in-Ok.one (g.T.Writes.contents c.keep_where.new.out) c.keep_where.new.held.items came first whole c.in-Ok.is kept.ok,
      reads_well_more g.S.Reads.calls g.R.Read.remaining c.args.reader.now c.loop-fault.reader c.next_line.new.reader i.5 c.in_ok-next_line.ensures.reads (going_read c.next_line.new.reader given.going),
      stays_well_trans _ (g.T.Writes.calls c.next_line.new.out) _ (stays_well_trans _ (g.T.Writes.calls c.loop-fault.out) _ i.6 c.in_ok-next_line.ensures.well) kept.well,
      λ is. absurd (going_read c.next_line.new.reader given.going is),
    )

pub returns-in-Err-clause-ok : goal.returns-in-Err-clause-ok
returns-in-Err-clause-ok g c =
    let i = c.loop-fault.invariant in
    let says = g.J.Judge.says c.args.judge.now in
    let a = left_of g.R.Read.remaining c.args.reader.now in
    let r = left_of g.R.Read.remaining c.loop-fault.reader in
    let s = left_of g.R.Read.remaining c.next_line.new.reader in
    let u = g.T.Writes.contents c.args.out.now in
    let v = g.T.Writes.contents c.next_line.new.out in
    let line = c.line-line.result.now in
    let given = subst (Gives g.R.Read.remaining c.loop-fault.reader c.next_line.new.reader) c.in-Line.is c.in_ok-next_line.ensures.given in
    let first = subst (λ (l : List ℕ). GivesLine r s l) (sym c.line-line.ensures) given.first in
    let not_over = λ (over : IsOver c.loop-fault.reader). let ends = c.in_ok-next_line.ensures.again.over over in absurd {A = ⊥} (cc) in
    let came = HasCome-written says a r (IsOver c.loop-fault.reader → ⊥) u (g.T.Writes.contents c.loop-fault.out) v c.loop-fault.held.items c.next_line.new.held.items c.loop-fault.lines c.loop-fault.tally i.4 c.in_ok-next_line.ensures.ok in
    let same = SaysTheSame-trans says (g.J.Judge.says c.loop-fault.judge) (g.J.Judge.says c.judge_at_front.new.self) i.3 c.judge_at_front.ensures.same in
    let comes = ComesOf-same _ _ line _ c.line_outcome.result same c.line_outcome.ensures.comes in
    HasCome-stopped says line (IsOver c.loop-fault.reader → ⊥) u v c.next_line.new.held.items c.loop-fault.lines c.loop-fault.tally c.line_outcome.result comes not_over
    c.next_line.new.reader.waiting (g.R.Read.remaining c.next_line.new.reader.reader) a r s c.in-Err.stop came first c.in-Err.is

pub returns-in-Fault-clause-reads : goal.returns-in-Fault-clause-reads
returns-in-Fault-clause-reads g c =
    let i = c.loop-fault.invariant in
    let calls = g.S.Reads.calls in
    let remaining = g.R.Read.remaining in
    let given = subst (Gives remaining c.loop-fault.reader c.next_line.new.reader) c.in-Fault.is c.in_ok-next_line.ensures.given in
    let reads = reads_on calls remaining c.args.reader.now c.loop-fault.reader c.next_line.new.reader i.5 c.in_ok-next_line.ensures.reads in
    subst (λ (s : RunStop g.row.J-Fault.Denot). ReadsUntil calls remaining c.args.reader.now c.next_line.new.reader s) (sym c.fault_stop.ensures)
    (reads_reported g.row.J-Fault.Denot calls remaining c.args.reader.now c.next_line.new.reader c.in-Fault.fault (c.loop-fault.lines + 1) given.failed reads)

pub returns-in-Err-clause-reads : goal.returns-in-Err-clause-reads
returns-in-Err-clause-reads g c =
    let i = c.loop-fault.invariant in
    let calls = g.S.Reads.calls in
    let remaining = g.R.Read.remaining in
    let given = subst (Gives remaining c.loop-fault.reader c.next_line.new.reader) c.in-Line.is c.in_ok-next_line.ensures.given in
    let not = going_read c.next_line.new.reader given.going in
    let reads = reads_on calls remaining c.args.reader.now c.loop-fault.reader c.next_line.new.reader i.5 c.in_ok-next_line.ensures.reads in
    let of_item = outcome_stops _ _ c.line_outcome.result c.in-Err.stop c.line_outcome.ensures.comes c.in-Err.is in
    reads_of_item calls remaining c.args.reader.now c.next_line.new.reader c.in-Err.stop of_item (reads.well not)
