use Rattle.odata_ranges.proofs.Common.{ap, arith, Range}
use Rattle.odata_ranges.proofs.Flags.{neither}
use Rattle.odata_ranges.proofs.LinesOn.{begins_onward, ends_onward, next_within, rest_inside, steps_onward}
use Rattle.odata_ranges.proofs.list_ranges.flags_between.Goals as goal

pub node_at-node-requires : goal.node_at-node-requires
node_at-node-requires c =
    let left = c.loop-at.invariant.line c.requires.lie.0 c.requires.lie.1 c.requires.lie.2 in
    rest_inside c.args.checked.now c.requires.lie.0 c.loop-at.at c.args.stop c.loop-at-test.true left.rest left.stand

pub range_in-range-requires : goal.range_in-range-requires
range_in-range-requires c =
    let left = c.loop-at.invariant.line c.requires.lie.0 c.requires.lie.1 c.requires.lie.2 in
    let there = rest_inside c.args.checked.now c.requires.lie.0 c.loop-at.at c.args.stop c.loop-at-test.true left.rest left.stand in
    omega (arith, there, c.requires.as_many)

pub loop-at-init : goal.loop-at-init
loop-at-init c = record {
  line = begins_onward c.args.checked.now c.args.ranges.now c.plain-flags.result c.args.from c.args.stop;
  onward = omega arith;
  quiet = λ quiet. ap (λ (r : Range). r.may_fault) c.plain-flags.ensures;
}

pub loop-at-preserved : goal.loop-at-preserved
loop-at-preserved c =
    let l = c.loop-at in
    let left = l.invariant.line c.requires.lie.0 c.requires.lie.1 c.requires.lie.2 in
    let next = next_within c.args.checked.now c.args.ranges.now c.requires.lie.0 l.at c.args.stop c.node_at-node.result c.node_at-node.ensures.found c.loop-at-test.true left.rest left.stand in
    record {
      line = steps_onward c.args.checked.now c.args.ranges.now l.flags c.joined-flags.result c.range_in-range.result c.args.from c.args.stop l.at c.node_at-node.result
          l.invariant.line c.loop-at-test.true c.node_at-node.ensures.found c.range_in-range.ensures c.joined-flags.ensures.first c.joined-flags.ensures.second;
      onward = omega (arith, l.invariant.onward, next.0);
      quiet = λ quiet.
          neither c.joined-flags.result.may_fault l.flags.may_fault c.range_in-range.result.may_fault c.joined-flags.ensures.faults (l.invariant.quiet quiet)
          (quiet l.at c.range_in-range.result l.invariant.onward c.loop-at-test.true c.range_in-range.ensures);
    }

pub loop-at-smaller : goal.loop-at-smaller
loop-at-smaller c =
    let left = c.loop-at.invariant.line c.requires.lie.0 c.requires.lie.1 c.requires.lie.2 in
    let next = next_within c.args.checked.now c.args.ranges.now c.requires.lie.0 c.loop-at.at c.args.stop c.node_at-node.result c.node_at-node.ensures.found c.loop-at-test.true left.rest left.stand in
    let before = c.loop-at-test.true in
    omega (arith, next.0, next.1, before)

pub returns-clause-covers : goal.returns-clause-covers
returns-clause-covers c = ends_onward c.args.checked.now c.args.ranges.now c.loop-at.flags c.args.from c.args.stop c.loop-at.at c.loop-at.invariant.line c.loop-at-test.false
