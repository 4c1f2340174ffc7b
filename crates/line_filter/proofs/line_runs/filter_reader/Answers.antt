use Rattle.line_filter.specs.LineSource.{left_of}
use Rattle.line_filter.proofs.RunLaws.Answers.{left_answered-ok, left_answered-err, Ends-over}
use Rattle.line_filter.proofs.RunLaws.Called.{Closes-written, Ends-read}
use Rattle.line_filter.proofs.line_runs.filter_reader.Goals as goal

pub returns-in-Ok-clause-filters : goal.returns-in-Ok-clause-filters
returns-in-Ok-clause-filters g c =
    left_answered-ok _ c.write_kept_stream.new.reader.waiting (g.R.Read.remaining c.write_kept_stream.new.reader.reader) (left_of g.R.Read.remaining c.args.reader.now) _ _ _ c.in-Ok.outcome c.finish.result c.in-Ok.ensures.ok c.finish.ensures.kept c.finish.ensures.answer

pub returns-in-Ok-clause-stops : goal.returns-in-Ok-clause-stops
returns-in-Ok-clause-stops g c =
    left_answered-err _ c.write_kept_stream.new.reader.waiting (g.R.Read.remaining c.write_kept_stream.new.reader.reader) (left_of g.R.Read.remaining c.args.reader.now) _ _ _ c.in-Ok.outcome c.finish.result c.in-Ok.ensures.ok c.finish.ensures.kept c.finish.ensures.answer

pub returns-in-Ok-clause-ended : goal.returns-in-Ok-clause-ended
returns-in-Ok-clause-ended g c = Ends-over _ c.in-Ok.outcome c.finish.result c.in-Ok.ensures.ended c.finish.ensures.answer

pub returns-in-Ok-clause-reads : goal.returns-in-Ok-clause-reads
returns-in-Ok-clause-reads g c =
    Ends-read g.S.Reads.calls g.R.Read.remaining c.args.reader.now c.write_kept_stream.new.reader c.in-Ok.outcome c.finish.result c.in-Ok.ensures.reads c.finish.ensures.answer

pub returns-in-Ok-clause-writes : goal.returns-in-Ok-clause-writes
returns-in-Ok-clause-writes g c =
    Closes-written _ _ _ c.in-Ok.ensures.well c.in-Ok.outcome c.finish.result c.in-Ok.ensures.unwritten c.finish.ensures.calls c.finish.ensures.answer
