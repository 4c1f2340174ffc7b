use Rattle.odata_syntax.proofs.laws.Spans.{within_spanned}
use Rattle.odata_syntax.proofs.syntax_laws.node_spans.Goals as goal

pub returns : goal.returns
returns c = λ ts tree part d w. within_spanned d part w
