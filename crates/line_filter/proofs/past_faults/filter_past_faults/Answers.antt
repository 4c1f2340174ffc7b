use Rattle.line_filter.specs.LineSource.{left_of}
use Rattle.line_filter.proofs.LineLaws.Passed.{kept_of_left}
use Rattle.line_filter.proofs.past_faults.filter_past_faults.Goals as goal

pub returns-clause-kept : goal.returns-clause-kept
returns-clause-kept g c =
    kept_of_left (g.J.Judge.says c.args.past.now.judge) (left_of g.R.Read.remaining c.args.reader.now)
    (g.T.Writes.contents c.args.out.now) (g.T.Writes.contents c.filter_reader.new.out) c.filter_reader.result c.filter_reader.ensures.filters
