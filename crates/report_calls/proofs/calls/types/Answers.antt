use Rattle.std.proofs.Common.{Ok, Err, refl, sym, subst}
use Rattle.report_calls.specs.TypeLines.{IsListingOf}
use Rattle.report_calls.proofs.calls.types.Goals as goal

pub returns-in-Ok : goal.returns-in-Ok
returns-in-Ok c = record {
  outcome = Ok c.as_bytes.result.now;
  right = subst (IsListingOf c.args.given.now) (sym c.as_bytes.ensures.value) c.in-Ok.ensures;
  writes = c.report_bytes.ensures;
}

pub returns-in-Err : goal.returns-in-Err
returns-in-Err c = record { outcome = Err c.in-Err.fault; right = c.in-Err.ensures; writes = (refl, c.report_fault.ensures) }
