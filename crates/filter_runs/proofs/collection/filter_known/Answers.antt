use Rattle.std.proofs.Common.{sym, subst}
use Rattle.std.specs.Prelude.{IsSomeAnd}
use Rattle.line_filter.specs.Kept.{StopsHeld}
use Rattle.filter_runs.specs.private.Collection.{known_items}
use Rattle.filter_runs.proofs.RowLemmas.DeviceCalls.{writes_until_fault}
use Rattle.filter_runs.proofs.collection.filter_known.Goals as goal

pub returns-in-Err-clause-stops : goal.returns-in-Err-clause-stops
returns-in-Err-clause-stops g c =
    let (text, wrote, stops) = c.in-Err.ensures.stops in
    (text, wrote, subst (λ s. IsSomeAnd s (StopsHeld (known_items c.args.kept.now) text)) (sym c.run_fault.ensures) stops)

pub returns-in-Err-clause-writes : goal.returns-in-Err-clause-writes
returns-in-Err-clause-writes g c =
    writes_until_fault (g.T.Writes.calls c.args.out.now) (g.T.Writes.calls c.filter_items.new.out) c.run_fault.result c.in-Err.stop c.run_fault.ensures c.in-Err.ensures.writes
