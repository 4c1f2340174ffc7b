use Rattle.row_explanation.proofs.evaluation_stop.has_fault.Goals as goal

pub returns-in-Ok : goal.returns-in-Ok
returns-in-Ok c = (c.in-Ok.field-0, c.in-Ok.ensures)

pub returns : goal.returns
returns c = (c.in-Err.fault, (c.is_memory.ensures c.if-is_memory.false, c.in-Err.ensures))
