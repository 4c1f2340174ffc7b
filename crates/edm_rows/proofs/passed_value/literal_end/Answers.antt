use Rattle.csdl_schema.specs.ExprType.{primitive}
use Rattle.edm_rows.proofs.LeavesKept.{leaf_fits}
use Rattle.edm_rows.proofs.passed_value.literal_end.Goals as goal

pub returns-in-Some : goal.returns-in-Some
returns-in-Some c slots depth = leaf_fits slots depth c.args.line.now (primitive c.args.slot.now.prim) _ c.args.place c.in-Some.end c.in-Some.ensures
