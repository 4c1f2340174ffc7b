use Rattle.std.proofs.Common.{◌<◌, arith, length, rules}
use Rattle.odata_signatures.specs.ExprTypes.{IsBooleanOrNull}
use Rattle.odata_eval.proofs.walking.AndChains.{ands_further, next_stands}
use Rattle.filter_context.proofs.Parts.{part_inside}
use Rattle.filter_context.proofs.Spines.{typed_part}
use Rattle.odata_eval.proofs.and_chain.ands_end.Goals as goal

pub overflow_add-place : goal.overflow_add-place
overflow_add-place c =
    let within : c.loop-place.place < length c.args.context.now.list.nodes = part_inside c.args.context.now c.loop-place.place (typed_part c.args.context.now c.loop-place.place IsBooleanOrNull c.loop-place.invariant.stands) in
    let same = c.nodes-nodes.ensures in
    search rules

pub loop-place-smaller : goal.loop-place-smaller
loop-place-smaller c =
    let within : c.loop-place.place < length c.args.context.now.list.nodes = part_inside c.args.context.now c.loop-place.place (typed_part c.args.context.now c.loop-place.place IsBooleanOrNull c.loop-place.invariant.stands) in
    omega (arith, within)

pub loop-place-preserved : goal.loop-place-preserved
loop-place-preserved c =
    let here = c.is_and.ensures c.loop-place-test.true in
    record {
      stands = next_stands c.args.context.now c.loop-place.place here c.loop-place.invariant.stands;
      ands = ands_further c.args.context.now.list c.loop-place.place c.loop-place.invariant.ands here;
    }
