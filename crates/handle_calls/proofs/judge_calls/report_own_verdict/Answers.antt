use Rattle.std.proofs.Common.{◌≡◌, ◌∙◌, ap, sym, subst, Option, Some}
use Rattle.std.specs.Prelude.{Box}
use Rattle.std.specs.declared.alloc.Global.{Global}
use Rattle.odata_checked_filter.specs.Filter.{Filter}
use Rattle.handle_calls.specs.RowCalls.{IsOutcomeOn}
use Rattle.handle_calls.specs.RowReports.{JudgesOneBy, JudgesOwn, ReportsVerdict}
use Rattle.call_handles.specs.declared.handle.JudgeHandle.{JudgeHandle}
use Rattle.handle_calls.proofs.judge_calls.report_own_verdict.Goals as goal

pub returns-in-Some : goal.returns-in-Some
returns-in-Some c =
    let old = c.args.judge.now in let own = c.in-Some.own in let row = c.args.row.now in
    let new = c.report_verdict.new.judge in let answer = c.report_verdict.new.answer in let status = c.report_verdict.result in
    let outcome = c.own_verdict-outcome.result in
    let same : c.own_verdict-outcome.new.own ≡ own.value = c.own_verdict-outcome.ensures.same ∙ c.deref_mut.ensures.value in
    let right : IsOutcomeOn own.value old.moment old.bound row outcome =
    subst (λ (filter : Filter). IsOutcomeOn filter old.moment old.bound row outcome) c.deref_mut.ensures.value c.own_verdict-outcome.ensures.outcome in
    let back : Some (record own { value = c.own_verdict-outcome.new.own }) ≡ old.own =
    ap (λ (filter : Filter). Some (record own { value = filter })) same ∙ sym c.in-Some.is in
    let judge : record old { own = Some (record own { value = c.own_verdict-outcome.new.own }) } ≡ old =
    ap (λ (o : Option (Box Filter Global)). record old { own = o }) back in
    let reports : ReportsVerdict outcome old new answer status =
    subst (λ (j : JudgeHandle). ReportsVerdict outcome j new answer status) judge c.report_verdict.ensures in
    subst (λ (o : Option (Box Filter Global)). JudgesOwn o old new row answer status) (sym c.in-Some.is)
    (record { outcome = outcome; right = right; reports = reports })
