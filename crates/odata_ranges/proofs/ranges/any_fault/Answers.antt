use Rattle.std.proofs.Common.{refl, arith}
use Rattle.odata_ranges.proofs.Ends.{node_onward}
use Rattle.odata_ranges.proofs.Flags.{both_none, neither}
use Rattle.odata_ranges.proofs.Quiet.{quiet_on}
use Rattle.odata_ranges.proofs.ranges.any_fault.Goals as goal

pub loop-at-init : goal.loop-at-init
loop-at-init c = record { onward = omega arith; none = λ none place range after before found. absurd (omega (arith, after, before)); one = λ quiet. refl }

pub loop-at-preserved : goal.loop-at-preserved
loop-at-preserved c =
    let l = c.loop-at in
    let further = node_onward c.args.checked.now c.node_at-node.ensures.right l.at c.node_at-node.result c.node_at-node.ensures.found in
    let reported = c.requires.reported l.at c.node_at-node.result c.range_in-range.result l.invariant.onward c.node_at-node.ensures.found c.range_in-range.ensures in
    record {
      onward = omega (arith, further, l.invariant.onward);
      none = λ none.
          let both = both_none c.either-found.result l.found c.range_in-range.result.may_fault c.either-found.ensures none in
          quiet_on c.args.ranges.now c.args.from l.at c.node_at-node.result.stop c.range_in-range.result (l.invariant.none both.0) c.range_in-range.ensures both.1 (reported.inherits both.1);
      one = λ quiet.
          neither c.either-found.result l.found c.range_in-range.result.may_fault c.either-found.ensures (l.invariant.one quiet)
          (quiet l.at c.range_in-range.result l.invariant.onward c.loop-at-test.true c.range_in-range.ensures);
    }

pub loop-at-smaller : goal.loop-at-smaller
loop-at-smaller c =
    let before = c.loop-at-test.true in
    let further = node_onward c.args.checked.now c.node_at-node.ensures.right c.loop-at.at c.node_at-node.result c.node_at-node.ensures.found in
    omega (arith, before, further)

pub returns-clause-none : goal.returns-clause-none
returns-clause-none c = λ none place range after within found.
    let past = c.loop-at-test.false in
    c.loop-at.invariant.none none place range after (omega (arith, past, within)) found
