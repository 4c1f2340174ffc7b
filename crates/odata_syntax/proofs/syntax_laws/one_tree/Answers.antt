use Rattle.odata_syntax.proofs.machine.Fronts.{derived_once}
use Rattle.odata_syntax.proofs.syntax_laws.one_tree.Goals as goal

pub returns : goal.returns
returns c = derived_once
