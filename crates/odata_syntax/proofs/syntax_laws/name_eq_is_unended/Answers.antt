use Rattle.odata_syntax.proofs.laws.FirstRuns.{name_eq_unended}
use Rattle.odata_syntax.proofs.syntax_laws.name_eq_is_unended.Goals as goal

pub returns : goal.returns
returns c = name_eq_unended
