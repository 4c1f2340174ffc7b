-- How the calls of a run add up.
use Rattle.std.proofs.Common.{◌≡◌, refl, sym, ap, ◌∙◌, subst}
use Rattle.line_filter.specs.declared.call_log.CallLog.{CallLog}
use Rattle.line_filter.specs.CallLogs.{after_work, after_flush, after_failure, IsWell, StaysWell, FlushesLast, FailsLast}

pub stays_well_refl : (a : CallLog) → StaysWell a a
stays_well_refl a = record { same = λ well. refl }

pub stays_well_trans : (a b c : CallLog) → StaysWell a b → StaysWell b c → StaysWell a c
stays_well_trans a b c first second = record {
  same = λ well. let e = first.same well in second.same (subst IsWell (sym e) well) ∙ e;
}

-- one call, which did its work
work_stays : (a : CallLog) → IsWell a → after_work a ≡ a
work_stays CallLog.Unlogged well = refl
work_stays CallLog.Unfailing well = refl
work_stays CallLog.Well well = refl
work_stays CallLog.Flushed well = absurd well
work_stays CallLog.Failed well = absurd well
work_stays CallLog.After well = absurd well

pub stays_well_by_work : (a b : CallLog) → b ≡ after_work a → StaysWell a b
stays_well_by_work a b e = record { same = λ well. e ∙ work_stays a well }

-- the last call
pub fails_last_by_failure : (a b : CallLog) → b ≡ after_failure a → FailsLast a b
fails_last_by_failure a b e = record { failed = λ well. e }

pub flushes_last_by_flush : (a b : CallLog) → b ≡ after_flush a → FlushesLast a b
flushes_last_by_flush a b e = record { flushed = λ well. e }

pub fails_last_after : (a b c : CallLog) → StaysWell a b → FailsLast b c → FailsLast a c
fails_last_after a b c first last = record {
  failed = λ well. let e = first.same well in last.failed (subst IsWell (sym e) well) ∙ ap after_failure e;
}

pub flushes_last_after : (a b c : CallLog) → StaysWell a b → FlushesLast b c → FlushesLast a c
flushes_last_after a b c first last = record {
  flushed = λ well. let e = first.same well in last.flushed (subst IsWell (sym e) well) ∙ ap after_flush e;
}
