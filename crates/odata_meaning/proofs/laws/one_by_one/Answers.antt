use Rattle.odata_meaning.proofs.meaning.OneByOne.{compared_one_by_one, items_one_by_one, members_one_by_one}
use Rattle.odata_meaning.proofs.laws.one_by_one.Goals as goal

pub returns : goal.returns
returns c = record { members = members_one_by_one; compared = compared_one_by_one; items = items_one_by_one }
