use Rattle.std.proofs.Common.{◌≡◌, ◌∙◌, inr, subst}
use Rattle.std.specs.Io.KnownBytes.{Keeps}
use Rattle.std.proofs.KnownBytes.{Keeps-trans}
use Rattle.line_filter.specs.LineSource.{LineSource, left_of}
use Rattle.line_filter.specs.private.Giving.{bytes_to_come}
use Rattle.line_filter.specs.private.Reading.{ReadsOn}
use Rattle.line_filter.proofs.DeviceLaws.Called.{stays_well_trans}
use Rattle.line_filter.proofs.DeviceLaws.Unread.{open_at, reads_given, reads_more}
use Rattle.line_filter.proofs.WriteLaws.HeldBack.{OnErr-from, WritesBut-all, WritesBut-failed, WritesBut-written}
use Rattle.line_filter.proofs.stream.next_line.Goals as goal

pub returns-in_err-release-in-None-clause-err : goal.returns-in_err-release-in-None-clause-err
returns-in_err-release-in-None-clause-err g c =
    OnErr-from c.from_residual.result _ (WritesBut-failed _ _ _ c.loop-next.held.items c.args.held.now.items c.loop-next.invariant.3 c.in_err-release-in-None.ensures.err)

pub returns-in-Some-clause-reads : goal.returns-in-Some-clause-reads
returns-in-Some-clause-reads g c =
    reads_given g.S.Reads.calls g.R.Read.remaining c.args.reader.now c.loop-next.reader c.give.new.self c.loop-next.invariant.4 c.give.ensures.reader c.give.ensures.unread c.give.ensures.reported

pub loop-next-preserved : goal.loop-next-preserved
loop-next-preserved g c =
    let i = c.loop-next.invariant in
    let calls = g.S.Reads.calls in
    let remaining = g.R.Read.remaining in
    let none = c.in-None.ensures.given in
    let same : c.give.new.self ≡ c.loop-next.reader = none.2 in
    let more = subst (λ (s : LineSource g.row.R.Denot). ReadsOn calls remaining s c.read_more.new.self) same c.read_more.ensures.reads in
    let left = subst (λ (s : LineSource g.row.R.Denot). Keeps (left_of remaining s) (left_of remaining c.read_more.new.self)) same c.read_more.ensures.left in
    let to_come : bytes_to_come c.read_more.new.self ≡ bytes_to_come c.loop-next.reader = subst (λ (s : LineSource g.row.R.Denot). bytes_to_come c.read_more.new.self ≡ bytes_to_come s) same c.read_more.ensures.to_come in (
      Keeps-trans _ _ _ i.0 left,
      to_come ∙ i.1,
      inr (open_at c.args.reader.now c.loop-next.reader i.2 none.0),
      WritesBut-all _ _ c.release.new.held.items c.args.held.now.items (WritesBut-written _ _ _ c.loop-next.held.items c.args.held.now.items i.3 c.in_ok-release-in-None.ensures.ok) c.in_ok-release-in-None.ensures.none_held,
      reads_more calls remaining c.args.reader.now c.loop-next.reader c.read_more.new.self i.4 none.0 more,
      stays_well_trans _ _ _ i.5 c.in_ok-release-in-None.ensures.well,
      λ is held. c.in_ok-release-in-None.ensures.none_held,
      λ is. i.7 none.1,
    )
