use Rattle.row_explanation.proofs.NeededOperands.{other_decides_none}
use Rattle.row_explanation.proofs.node_report.decides_by.Goals as goal

pub returns-in_default : goal.returns-in_default
returns-in_default c = other_decides_none c.args.value.now c.args.operator c.in_default.not-Bool
