use Rattle.std.proofs.Common.{arith, string_bytes}
use Rattle.report_calls.proofs.TypeSteps.{type_more, types_all}
use Rattle.report_calls.proofs.type_lines.lines_of_schema.Goals as goal

pub loop-index-preserved : goal.loop-index-preserved
loop-index-preserved c =
    type_more c.args.schema.now c.loop-index.index (string_bytes c.loop-index.text) (string_bytes c.push_type_at.new.text) (omega (arith, c.loop-index-test.true, c.type_count-index-end.ensures)) c.loop-index.invariant
    c.in_ok-push_type_at.ensures

pub returns : goal.returns
returns c =
    types_all c.args.schema.now c.loop-index.index (string_bytes c.loop-index.text) (omega (arith, c.loop-index-test.false, c.type_count-index-end.ensures)) c.loop-index.invariant
