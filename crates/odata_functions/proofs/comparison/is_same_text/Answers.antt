use Rattle.odata_functions.proofs.TextOrder.{same_test}
use Rattle.odata_functions.proofs.comparison.is_same_text.Goals as goal

pub returns : goal.returns
returns c = same_test c.args.left.now c.args.right.now c.eq.result c.utf8.left c.utf8.right c.eq.ensures
