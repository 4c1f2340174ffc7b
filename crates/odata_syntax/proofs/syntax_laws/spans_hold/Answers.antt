use Rattle.odata_syntax.proofs.laws.Nesting.{expression_holds}
use Rattle.odata_syntax.proofs.syntax_laws.spans_hold.Goals as goal

pub returns : goal.returns
returns c = expression_holds
