use Rattle.odata_syntax.proofs.laws.Faults.{one_fault_lem}
use Rattle.odata_syntax.proofs.syntax_laws.one_fault.Goals as goal

pub returns : goal.returns
returns c = one_fault_lem
