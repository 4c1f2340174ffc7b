use Rattle.odata_checked_filter.proofs.flat.Forests.{whole_tree}
use Rattle.odata_checked_filter.proofs.laws.a_list_stands_for_one_tree.Goals as goal

pub returns : goal.returns
returns c = whole_tree
