use Rattle.std.proofs.Common.{ℕ, List, Ok, Err, refl, sym, subst}
use Rattle.report_calls.specs.SqlHandles.{IsValueIn}
use Rattle.report_calls.proofs.calls.sql_value.Goals as goal

pub returns-in-Ok : goal.returns-in-Ok
returns-in-Ok c =
    let kind = c.in-Ok.value.kind in
    let number = c.in-Ok.value.number in
    record {
      outcome = Ok (record { kind = kind; number = number; text = c.as_bytes.result.now });
      right =
          subst (λ (text : List ℕ). IsValueIn c.args.conditions.now c.args.which c.args.index (record { kind = kind; number = number; text = text })) (sym c.as_bytes.ensures.value)
          c.in-Ok.ensures;
      writes = c.report_shown.ensures;
    }

pub returns-in-Err : goal.returns-in-Err
returns-in-Err c = record { outcome = Err c.in-Err.fault; right = c.in-Err.ensures; writes = (refl, c.report_fault.ensures) }
