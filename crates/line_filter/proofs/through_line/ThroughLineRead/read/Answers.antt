use Rattle.std.proofs.Common.{refl}
use Rattle.line_filter.proofs.PartLaws.Readers.{end_through, read_ends, read_on}
use Rattle.line_filter.proofs.through_line.ThroughLineRead.read.Goals as goal

pub returns-in-Some-clause-bytes : goal.returns-in-Some-clause-bytes
returns-in-Some-clause-bytes g c =
    let self = c.args.self.now in
    let read = c.in_ok-count in
    let found = c.in-Some.ensures in (
      read_ends (g.R.Read.remaining self.reader) (g.R.Read.remaining c.read.new.self) c.read.new.buf self.before read.count c.min-before.result self.is_over c.if-self.false c.min-before.ensures
          read.ensures.bound.0 read.ensures.bytes.0 c.in-Some.feed found.0.low found.0.high found.0.before found.1,
      λ none some. refl,
    )

pub returns-in-None-clause-bytes : goal.returns-in-None-clause-bytes
returns-in-None-clause-bytes g c =
    let self = c.args.self.now in
    let read = c.in_ok-count in (
      read_on (g.R.Read.remaining self.reader) (g.R.Read.remaining c.read.new.self) c.read.new.buf self.before read.count c.min-before.result self.is_over c.if-self.false c.min-before.ensures
          read.ensures.bound.0 read.ensures.bytes.0 c.in-None.ensures,
      λ none some. end_through (g.R.Read.remaining c.read.new.self) _ self.is_over (read.ensures.bytes.1 none some),
    )
