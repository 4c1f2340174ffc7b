use Rattle.line_filter.specs.LineSource.{left_of}
use Rattle.filter_runs.proofs.RowLemmas.PassedFaults.{kept_past, stops_past}
use Rattle.filter_runs.proofs.past_faults.filter_past_faults.Goals as goal

pub returns-in-Ok-clause-kept : goal.returns-in-Ok-clause-kept
returns-in-Ok-clause-kept g c =
    let judge = c.new.result in
    kept_past (left_of g.R.Read.remaining c.new-reader.result) (g.R.Read.remaining c.args.rows) (g.W.Write.contents c.args.out.now) (g.W.Write.contents c.filter_past_faults.new.out) c.new-reader.ensures.left
    judge.filter c.args.filter.now.checked.now judge.moment c.args.filter.now.now.now c.new.ensures.filter c.new.ensures.moment c.in-Ok.tally c.in-Ok.ensures.kept

pub returns-clause-stops : goal.returns-clause-stops
returns-clause-stops g c =
    let judge = c.new.result in
    let source = c.filter_past_faults.new.reader in
    stops_past (left_of g.R.Read.remaining c.new-reader.result) (g.R.Read.remaining c.args.rows) (g.W.Write.contents c.args.out.now) (g.W.Write.contents c.filter_past_faults.new.out) c.new-reader.ensures.left
    judge.filter c.args.filter.now.checked.now judge.moment c.args.filter.now.now.now c.new.ensures.filter c.new.ensures.moment
    source.waiting (g.R.Read.remaining source.reader) c.in-Err.stop c.run_fault.result c.run_fault.ensures c.in-Err.ensures.stops
