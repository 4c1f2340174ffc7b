use Rattle.std.proofs.Common.{◌-◌, arith}
use Rattle.std.specs.Io.Buffered.{reader_remaining}
use Rattle.line_filter.specs.private.PartText.{left_through}
use Rattle.line_filter.proofs.PartLaws.Readers.{first_part, later_part, sought_start}
use Rattle.line_filter.proofs.part_reader.lines_between.Goals as goal

pub returns-then-from-eq0 : goal.returns-then-from-eq0
returns-then-from-eq0 g c bytes sought =
    let known = sought_start g.R.Read.remaining g.R.Seek.stream_position g.R.Seek.stream_bytes c.args.reader c.seek.new.self bytes c.in_ok-seek.field-0 sought c.seek.ensures.bytes
    c.saturating_sub-start.result c.in_ok-seek.ensures.moves in
    let lines = c.in_ok-lines in
    first_part g.R.Read.remaining c.seek.new.self lines.lines c.saturating_sub-start.result c.saturating_sub.result c.args.from c.args.to bytes lines.ensures.inner lines.ensures.empty lines.ensures.capacity
    c.saturating_sub-start.ensures c.requires c.saturating_sub.ensures known c.if-from-eq0.true

pub returns : goal.returns
returns g c bytes sought =
    let known = sought_start g.R.Read.remaining g.R.Seek.stream_position g.R.Seek.stream_bytes c.args.reader c.seek.new.self bytes c.in_ok-seek.field-0 sought c.seek.ensures.bytes
    c.saturating_sub-start.result c.in_ok-seek.ensures.moves in
    let lines = c.in_ok-lines in
    later_part g.R.Read.remaining c.seek.new.self lines.lines c.saturating_sub-start.result c.saturating_sub.result c.args.from c.args.to bytes lines.ensures.inner lines.ensures.empty lines.ensures.capacity
    c.saturating_sub-start.ensures c.requires c.saturating_sub.ensures known
    (reader_remaining (left_through g.R.Read.remaining) c.skip_until.new.self) (omega arith) c.in_ok-skip_until.ensures.rest
