use Rattle.std.proofs.Common.{refl}
use Rattle.odata_checked_filter.proofs.laws.a_list_is_read_as_its_tree.Goals as goal

pub returns : goal.returns
returns c = refl
