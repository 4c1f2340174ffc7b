use Rattle.odata_syntax.proofs.laws.Nesting.{expression_solid}
use Rattle.odata_syntax.proofs.syntax_laws.spans_take_bytes.Goals as goal

pub returns : goal.returns
returns c = expression_solid
