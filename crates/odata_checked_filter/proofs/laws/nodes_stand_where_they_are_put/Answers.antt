use Rattle.odata_checked_filter.proofs.flat.Changes.{kept_stands, put_changes, put_stands}
use Rattle.odata_checked_filter.proofs.laws.nodes_stand_where_they_are_put.Goals as goal

pub returns-clause-kept : goal.returns-clause-kept
returns-clause-kept c = kept_stands

pub returns-clause-changes : goal.returns-clause-changes
returns-clause-changes c = put_changes

pub returns-clause-put : goal.returns-clause-put
returns-clause-put c = put_stands
