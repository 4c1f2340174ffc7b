use Rattle.std.proofs.Common.{Ok, Err, refl, sym, subst}
use Rattle.handle_calls.specs.Costs.{ArePaths}
use Rattle.handle_calls.proofs.calls.property_paths.Goals as goal

pub returns-in-Ok : goal.returns-in-Ok
returns-in-Ok c =
    let count = c.in-Ok.lines.count in
    record {
      outcome = Ok (count, c.as_bytes.result.now);
      right = subst (λ text. ArePaths c.args.filter.now count text) (sym c.as_bytes.ensures.value) c.in-Ok.ensures;
      reports = c.report_lines.ensures;
    }

pub returns-in-Err : goal.returns-in-Err
returns-in-Err c = record { outcome = Err c.in-Err.fault; right = c.in-Err.ensures; reports = (refl, c.report_fault.ensures) }
