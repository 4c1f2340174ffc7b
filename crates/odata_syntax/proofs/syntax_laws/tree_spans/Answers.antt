use Rattle.odata_syntax.proofs.laws.Spans.{derived_spanned}
use Rattle.odata_syntax.proofs.syntax_laws.tree_spans.Goals as goal

pub returns : goal.returns
returns c = λ level ts tree d. derived_spanned d
