use Rattle.odata_functions.proofs.TextOrder.{greater_test}
use Rattle.odata_functions.proofs.comparison.is_greater_text.Goals as goal

pub returns : goal.returns
returns c = greater_test c.args.left.now c.args.right.now c.gt.result c.utf8.left c.utf8.right c.gt.ensures
