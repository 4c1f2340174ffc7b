use Rattle.odata_syntax.proofs.laws.Nesting.{expression_children, expression_in_order}
use Rattle.odata_syntax.proofs.syntax_laws.children_apart.Goals as goal

pub returns : goal.returns
returns c = record { apart = expression_children; order = expression_in_order }
