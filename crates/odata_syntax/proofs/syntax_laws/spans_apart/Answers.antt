use Rattle.odata_syntax.proofs.laws.Nesting.{expression_apart}
use Rattle.odata_syntax.proofs.syntax_laws.spans_apart.Goals as goal

pub returns : goal.returns
returns c = expression_apart
