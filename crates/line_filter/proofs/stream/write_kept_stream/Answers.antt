use Rattle.std.proofs.Common.{length, ap, arith}
use Rattle.line_filter.specs.LineSource.{left_of}
use Rattle.line_filter.specs.private.Reading.{IsUnread}
use Rattle.line_filter.proofs.RunLaws.Streams.{left_unwritten, left_written}
use Rattle.line_filter.proofs.WriteLaws.HeldBack.{OnErr-from}
use Rattle.line_filter.proofs.stream.write_kept_stream.Goals as goal

pub returns-in_err-release-clause-err : goal.returns-in_err-release-clause-err
returns-in_err-release-clause-err g c =
    OnErr-from c.from_residual-in_err-release.result _
    (left_unwritten (g.J.Judge.says c.args.judge.now) c.judge_stream.new.reader.waiting (g.R.Read.remaining c.judge_stream.new.reader.reader) (left_of g.R.Read.remaining c.args.reader.now) (g.T.Writes.contents c.args.out.now) (g.T.Writes.contents c.judge_stream.new.out) (g.T.Writes.contents c.release.new.out)
    c.judge_stream.new.held.items c.in_ok-outcome.outcome c.in_ok-outcome.ensures.ok c.in_err-release.ensures.err)

pub returns-clause-ok : goal.returns-clause-ok
returns-clause-ok g c =
    left_written (g.J.Judge.says c.args.judge.now) c.judge_stream.new.reader.waiting (g.R.Read.remaining c.judge_stream.new.reader.reader) (left_of g.R.Read.remaining c.args.reader.now) (g.T.Writes.contents c.args.out.now) (g.T.Writes.contents c.judge_stream.new.out) (g.T.Writes.contents c.release.new.out)
    c.judge_stream.new.held.items c.in_ok-outcome.outcome c.in_ok-outcome.ensures.ok c.in_ok-release.ensures.ok

pub returns-in_err-release-clause-read_well : goal.returns-in_err-release-clause-read_well
returns-in_err-release-clause-read_well g c =
    let some = c.in_err-release.ensures.some in
    let not : ¬ IsUnread c.judge_stream.new.reader = λ is. let none = c.in_ok-outcome.ensures.none_held is in omega (arith, some, ap length none) in
    OnErr-from c.from_residual-in_err-release.result _ (c.in_ok-outcome.ensures.none_failed not)
