use Rattle.odata_signatures.proofs.untypable.Untypable.{first_below, first_itself}
use Rattle.odata_signatures.proofs.tree_type_laws.children_come_first.Goals as goal

pub returns-clause-below : goal.returns-clause-below
returns-clause-below c = first_below c.calls_have_one_type.ensures.one

pub returns-clause-itself : goal.returns-clause-itself
returns-clause-itself c = first_itself c.calls_have_one_type.ensures.one
