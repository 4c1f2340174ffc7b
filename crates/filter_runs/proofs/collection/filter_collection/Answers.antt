use Rattle.filter_runs.proofs.RowLemmas.DeviceCalls.{never_unwritten}
use Rattle.filter_runs.proofs.collection.filter_collection.Goals as goal

pub returns-clause-unwritten : goal.returns-clause-unwritten
returns-clause-unwritten g c never =
    never_unwritten g.W.Strategy.Writes.calls c.args.out.now c.filter_collection_with.new.out c.filter_collection_with.result c.filter_collection_with.ensures.writes never
