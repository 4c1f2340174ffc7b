use Rattle.edm_rows.proofs.Values.{integer_held}
use Rattle.edm_rows.proofs.passed_value.number_end.Goals as goal

pub returns-in-Some : goal.returns-in-Some
returns-in-Some c slots depth =
    let found = c.in-Some.ensures in
    integer_held slots c.args.slot.now.prim depth c.args.line.now c.args.place c.in-Some.end found.0 _ found.1 found.2
