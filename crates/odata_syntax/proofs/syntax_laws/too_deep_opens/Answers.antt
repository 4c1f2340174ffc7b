use Rattle.odata_syntax.proofs.laws.Deep.{deep_opens}
use Rattle.odata_syntax.proofs.syntax_laws.too_deep_opens.Goals as goal

pub returns : goal.returns
returns c = deep_opens
