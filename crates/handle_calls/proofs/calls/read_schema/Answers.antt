use Rattle.std.proofs.Common.{Ok, Err, refl}
use Rattle.handle_calls.proofs.calls.read_schema.Goals as goal

pub returns-in-Ok : goal.returns-in-Ok
returns-in-Ok c = record { outcome = Ok c.in-Ok.handle; right = c.in-Ok.ensures; gives = (refl, c.give.ensures) }

pub returns-in-Err : goal.returns-in-Err
returns-in-Err c = record { outcome = Err c.in-Err.fault; right = c.in-Err.ensures; gives = c.refuse_schema.ensures }
