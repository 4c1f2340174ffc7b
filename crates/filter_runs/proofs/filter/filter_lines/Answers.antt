use Rattle.std.proofs.Common.{ap, ◌∙◌}
use Rattle.line_filter.specs.LineSource.{left_of}
use Rattle.filter_runs.proofs.RowLemmas.DeviceCalls.{never_unread, never_unwritten, read_at_end}
use Rattle.filter_runs.proofs.RowLemmas.RowLineJudges.{lines_lack, lines_pass, lines_stop}
use Rattle.filter_runs.proofs.filter.filter_lines.Goals as goal

pub returns-clause-filters : goal.returns-clause-filters
returns-clause-filters g c =
    let remaining = g.R.Reader.Read.remaining in
    let contents = g.W.Strategy.Writes.contents in
    lines_pass c.args.checked.now c.args.now.now (left_of remaining c.new-lines.result) (remaining (g.R.Input.reader c.args.rows)) (contents c.args.out.now) (contents c.filter_lines_with.new.out)
    c.filter_lines_with.result (c.new-lines.ensures.left ∙ ap remaining c.into_reader.ensures) c.filter_lines_with.ensures.filters

pub returns-clause-stops : goal.returns-clause-stops
returns-clause-stops g c =
    let remaining = g.R.Reader.Read.remaining in
    let contents = g.W.Strategy.Writes.contents in
    let source = c.filter_lines_with.new.rows in
    lines_stop c.args.checked.now c.args.now.now source.waiting (remaining source.reader) (left_of remaining c.new-lines.result) (remaining (g.R.Input.reader c.args.rows)) (contents c.args.out.now) (contents c.filter_lines_with.new.out)
    c.filter_lines_with.result (c.new-lines.ensures.left ∙ ap remaining c.into_reader.ensures) c.filter_lines_with.ensures.stops

pub returns-clause-read : goal.returns-clause-read
returns-clause-read g c line is =
    let remaining = g.R.Reader.Read.remaining in
    let contents = g.W.Strategy.Writes.contents in
    let source = c.filter_lines_with.new.rows in
    lines_lack c.args.checked.now c.args.now.now source.waiting (remaining source.reader) (left_of remaining c.new-lines.result) (remaining (g.R.Input.reader c.args.rows)) (contents c.args.out.now) (contents c.filter_lines_with.new.out)
    c.filter_lines_with.result line (c.new-lines.ensures.left ∙ ap remaining c.into_reader.ensures) is c.filter_lines_with.ensures.stops

pub returns-clause-unread : goal.returns-clause-unread
returns-clause-unread g c never =
    let remaining = g.R.Reader.Read.remaining in
    let new = c.new-lines in
    never_unread g.R.Strategy.Reads.calls remaining (g.R.Input.reader c.args.rows) c.new-lines.result c.filter_lines_with.new.rows c.filter_lines_with.result
    (new.ensures.reader ∙ c.into_reader.ensures) new.ensures.unread new.ensures.course c.filter_lines_with.ensures.reads never

pub returns-clause-line : goal.returns-clause-line
returns-clause-line g c at_end well =
    let remaining = g.R.Reader.Read.remaining in
    let contents = g.W.Strategy.Writes.contents in
    let new = c.new-lines in
    read_at_end g.R.Strategy.Reads.calls remaining (g.R.Input.reader c.args.rows) c.new-lines.result c.filter_lines_with.new.rows c.filter_lines_with.result
    (new.ensures.reader ∙ c.into_reader.ensures) new.ensures.unread new.ensures.course c.filter_lines_with.ensures.reads
    c.args.checked.now c.args.now.now (contents c.args.out.now) (contents c.filter_lines_with.new.out) (new.ensures.left ∙ ap remaining c.into_reader.ensures) c.filter_lines_with.ensures.stops at_end well

pub returns-clause-unwritten : goal.returns-clause-unwritten
returns-clause-unwritten g c never =
    never_unwritten g.W.Strategy.Writes.calls c.args.out.now c.filter_lines_with.new.out c.filter_lines_with.result c.filter_lines_with.ensures.writes never
