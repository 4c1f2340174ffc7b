use Rattle.std.proofs.Common.{◌≤◌, ◌+◌, [], Some, Err, inl, length, arith, refl, ap, ◌∙◌}
use Rattle.std.proofs.lemmas.Result.{err_from_is_err_and}
use Rattle.line_filter.specs.declared.run_stop.RunStop.{RunStop}
use Rattle.line_filter.proofs.LineLaws.Found.{SaysTheSame-refl, SaysTheSame-trans, ComesOf-same}
use Rattle.line_filter.proofs.LineLaws.InMemory.{grows_whole, put_whole}
use Rattle.line_filter.proofs.LineLaws.Walked.{HasPassed-none, HasPassed-more, HasPassed-stopped}
use Rattle.line_filter.proofs.lines_in_memory.filter_bytes.Goals as goal

pub loop-rest-init : goal.loop-rest-init
loop-rest-init g c = (omega arith, SaysTheSame-refl (g.J.Judge.says c.args.judge.now), HasPassed-none _ c.args.bytes.now _ (Some c.args.out.now.items) [] refl)

pub loop-rest-preserved : goal.loop-rest-preserved
loop-rest-preserved g c =
    let line = c.first_line.result.0.now in
    let after = c.first_line.result.1.now in
    let comes = ComesOf-same _ _ line _ c.outcome_at_front.result c.loop-rest.invariant.1 c.outcome_at_front.ensures.comes in
    let put = put_whole c.loop-rest.out.items c.put_where.new.out.items _ c.in_ok-put_where.ensures.ok in
    let room : c.loop-rest.lines + 1 + length after ≤ length c.args.bytes.now = omega (arith, c.loop-rest.invariant.0, c.first_line.ensures.shorter) in (
      room,
      SaysTheSame-trans _ _ _ c.loop-rest.invariant.1 c.outcome_at_front.ensures.same,
      HasPassed-more _ _ line c.loop-rest.rest.now after _ (Some c.args.out.now.items) (Some c.loop-rest.out.items) [] c.loop-rest.lines c.loop-rest.tally c.outcome_at_front.result c.first_line.ensures.lines comes
          c.loop-rest.invariant.2 c.in_ok-one.one _ (Some c.put_where.new.out.items) [] c.first_line.ensures.whole (omega (arith, c.first_line.ensures.shorter)) c.in_ok-one.was put,
    )

pub returns-in_err-one-clause-stops : goal.returns-in_err-one-clause-stops
returns-in_err-one-clause-stops g c =
    let exit = err_from_is_err_and c.from_residual.result c.from_residual.ensures.1 in
    let line = c.first_line.result.0.now in
    let after = c.first_line.result.1.now in
    let comes = ComesOf-same _ _ line _ c.outcome_at_front.result c.loop-rest.invariant.1 c.outcome_at_front.ensures.comes in
    let (text, wrote, stops) = HasPassed-stopped _ _ line c.loop-rest.rest.now after _ (Some c.args.out.now.items) (Some c.loop-rest.out.items) [] c.loop-rest.lines c.loop-rest.tally c.outcome_at_front.result
    c.first_line.ensures.lines comes c.loop-rest.invariant.2 (λ text line. ⊥) c.in_err-one.field-0.0 (omega (arith, c.first_line.ensures.shorter)) c.in_err-one.was in
    rw (exit.1 ∙ ap Err exit.2) (grows_whole _ c.args.out.now.items c.loop-rest.out.items text wrote stops)

-- the vector could not grow: nothing of the line is in it
pub returns-in_err-put_where-clause-stops : goal.returns-in_err-put_where-clause-stops
returns-in_err-put_where-clause-stops g c =
    let exit = err_from_is_err_and c.from_residual-in_err-put_where.result c.from_residual-in_err-put_where.ensures.1 in
    let says = g.J.Judge.says c.args.judge.now in
    let line = c.first_line.result.0.now in
    let after = c.first_line.result.1.now in
    let (text, wrote, stops) = HasPassed-stopped says c.args.bytes.now line c.loop-rest.rest.now after _ (Some c.args.out.now.items) (Some c.loop-rest.out.items) [] c.loop-rest.lines c.loop-rest.tally
    (Err (RunStop.Memory (c.loop-rest.lines + 1))) c.first_line.ensures.lines (inl refl) c.loop-rest.invariant.2 (λ text line. ⊥) (RunStop.Memory (c.loop-rest.lines + 1)) (omega (arith, c.first_line.ensures.shorter)) refl in
    rw (exit.1 ∙ ap Err (exit.2 ∙ c.in_err-put_where.ensures.memory)) (rw c.in_err-put_where.ensures.err (grows_whole _ c.args.out.now.items c.loop-rest.out.items text wrote stops))
