use Rattle.odata_checked_filter.proofs.named.Once.{paths_of_nodes, paths_once}
use Rattle.odata_checked_filter.proofs.laws.property_paths_stand_once.Goals as goal

pub returns-clause-once : goal.returns-clause-once
returns-clause-once c = paths_once

pub returns-clause-nodes : goal.returns-clause-nodes
returns-clause-nodes c = paths_of_nodes
