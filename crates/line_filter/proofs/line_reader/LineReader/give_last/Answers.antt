use Rattle.std.proofs.Common.{◌≡◌, ◌<◌, length, arith, ap, ◌∙◌, subst}
use Rattle.std.specs.Io.KnownBytes.{IsAtEnd}
use Rattle.line_filter.specs.LineSource.{LineSource, IsNoWholeLine}
use Rattle.line_filter.specs.declared.line_reader.Course.{Course}
use Rattle.line_filter.proofs.ReaderLaws.Giving.{given_at_end}
use Rattle.line_filter.proofs.line_reader.LineReader.give_last.Goals as goal

pub returns-clause-given : goal.returns-clause-given
returns-clause-given g c =
    let ws = c.self.inside.buffer.waiting in
    let waits : ws ≡ c.args.self.now.waiting = ap (λ (s : LineSource g.row.R.Denot). s.waiting) c.self.view_is in
    let reader : c.self.inside.reader ≡ c.args.self.now.reader = ap (λ (s : LineSource g.row.R.Denot). s.reader) c.self.view_is in
    let course : c.self.inside.course ≡ Course.AtEnd = ap (λ (s : LineSource g.row.R.Denot). s.course) c.self.view_is ∙ c.requires in
    let end = c.self.invariant.at_end course in
    let some : 0 < length c.args.self.now.waiting = omega (arith, c.waiting.ensures, c.if-waiting-eq0.false, ap length waits) in
    given_at_end g.R.Read.remaining c.args.self.now _ reader (ap (λ (s : LineSource g.row.R.Denot). s.unread) c.self.view_is)
    (c.give_rest.ensures.line ∙ waits) c.give_rest.ensures.waiting course some (subst IsNoWholeLine waits end.1) (subst (λ r. IsAtEnd (g.R.Read.remaining r)) reader end.0)
