use Rattle.std.proofs.Common.{◌≡◌, ap, ◌∙◌, sym, subst, refl}
use Rattle.line_filter.specs.LineSource.{LineSource, IsNoWholeLine}
use Rattle.line_filter.specs.declared.line_reader.Course.{Course}
use Rattle.line_filter.specs.private.Giving.{IsLongBy}
use Rattle.line_filter.proofs.ReaderLaws.Giving.{fault_reported, not_ended}
use Rattle.line_filter.proofs.line_reader.LineReader.give.Goals as goal

pub returns-in-Failed-clause-given : goal.returns-in-Failed-clause-given
returns-in-Failed-clause-given g c =
    let fault = c.in-Failed.fault in
    let waits : c.self.inside.buffer.waiting ≡ c.args.self.now.waiting = ap (λ (s : LineSource g.row.R.Denot). s.waiting) c.self.view_is in
    let course : c.args.self.now.course ≡ Course.Failed fault = ap (λ (s : LineSource g.row.R.Denot). s.course) (sym c.self.view_is) ∙ c.in-Failed.is in
    fault_reported g.R.Read.remaining c.args.self.now c.args.self.now refl fault refl course (λ is. subst IsLongBy waits (c.self.invariant.too_long (c.in-Failed.is ∙ ap Course.Failed is)))
    (λ not. subst IsNoWholeLine waits (not_ended fault c.self.inside.buffer.waiting c.self.inside.course c.in-Failed.is c.self.invariant.not_read c.self.invariant.not_held not))
