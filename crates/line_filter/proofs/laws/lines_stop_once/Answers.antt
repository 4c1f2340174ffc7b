use Rattle.line_filter.specs.LineItems.{line_sieve}
use Rattle.line_filter.specs.Lines.{lines_of}
use Rattle.line_filter.proofs.ItemLaws.Once.{IsFoundOf-once, StopsAt-once, StopsAt-never, Passes-one_tally, Passes-once}
use Rattle.line_filter.proofs.laws.lines_stop_once.Goals as goal

pub returns-clause-found : goal.returns-clause-found
returns-clause-found g c = IsFoundOf-once (g.J.Judge.says c.args.judge.now) c.requires

pub returns-clause-stopped : goal.returns-clause-stopped
returns-clause-stopped g c bytes =
    let says = g.J.Judge.says c.args.judge.now in
    StopsAt-once (line_sieve says) (IsFoundOf-once says c.requires) (lines_of bytes) _

pub returns-clause-filtered : goal.returns-clause-filtered
returns-clause-filtered g c bytes =
    let says = g.J.Judge.says c.args.judge.now in
    StopsAt-never (line_sieve says) (IsFoundOf-once says c.requires) (lines_of bytes) _

pub returns-clause-kept : goal.returns-clause-kept
returns-clause-kept g c bytes text other m n p q =
    let says = g.J.Judge.says c.args.judge.now in
    let once = IsFoundOf-once says c.requires in (
      Passes-once (line_sieve says) once (lines_of bytes) text other m n p q,
      Passes-one_tally (line_sieve says) once (lines_of bytes) text other m n p q,
    )
