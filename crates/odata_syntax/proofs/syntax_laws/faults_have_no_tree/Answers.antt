use Rattle.odata_syntax.proofs.laws.Faults.{fault_none}
use Rattle.odata_syntax.proofs.syntax_laws.faults_have_no_tree.Goals as goal

pub returns : goal.returns
returns c = fault_none
