use Rattle.std.proofs.Common.{Bool, List, ap, arith, false, inl, inr, length, subst, true}
use Rattle.odata_checked_filter.specs.declared.checked_node.CheckedNode.{CheckedNode}
use Rattle.row_explanation.specs.NodeReports.{HasFault}
use Rattle.row_explanation.proofs.Faults.{first_fault, none_asked, none_at_first, none_passed, none_to_end, none_to_stop, still_passed, stop_by_asked, stop_by_first, stop_by_passed}
use Rattle.row_explanation.proofs.evaluation_stop.fault_below.Goals as goal

pub loop-child-init : goal.loop-child-init
loop-child-init c =
    let e = c.args.evaluation.now in
    record {
      after = omega arith;
      none = none_at_first e.entity.now e.moment.now e.filter.now.list c.args.index;
      passed = inl (omega arith);
      stops = stop_by_first e.entity.now e.moment.now e.filter.now.list c.args.index;
    }

pub returns-then-stop-child : goal.returns-then-stop-child
returns-then-stop-child c =
    let e = c.args.evaluation.now in
    let l = c.loop-child in
    none_to_stop e.entity.now e.moment.now e.filter.now.list c.args.index c.stop_at-stop.result l.child c.stop_at-stop.ensures (omega arith) l.invariant.none

pub returns-then-is_faulty : goal.returns-then-is_faulty
returns-then-is_faulty c =
    let e = c.args.evaluation.now in
    let l = c.loop-child in
    first_fault e.entity.now e.moment.now e.filter.now.list c.args.index l.child l.next c.stop_at-stop.result l.invariant.after c.stop_at-stop.ensures (omega arith)
    (subst (λ (b : Bool). HasFault e.entity.now e.moment.now e.filter.now.list l.child b) c.if-is_faulty.true c.in_ok-is_faulty.ensures) l.invariant.none (omega arith) l.invariant.stops

pub loop-child-preserved-then-child-next : goal.loop-child-preserved-then-child-next
loop-child-preserved-then-child-next c =
    let e = c.args.evaluation.now in
    let l = c.loop-child in
    let after = l.invariant.after in
    record {
      after = omega arith;
      none = none_passed e.entity.now e.moment.now e.filter.now.list c.args.index l.child l.next (omega arith) l.invariant.passed l.invariant.none;
      passed = still_passed e.entity.now e.moment.now e.filter.now.list c.args.index l.child l.next l.invariant.passed;
      stops = stop_by_passed e.entity.now e.moment.now e.filter.now.list c.args.index l.child l.next (omega arith) l.invariant.passed l.invariant.stops;
    }

pub loop-child-preserved : goal.loop-child-preserved
loop-child-preserved c =
    let e = c.args.evaluation.now in
    let l = c.loop-child in
    let after = l.invariant.after in
    record {
      after = omega arith;
      none = none_asked e.entity.now e.moment.now e.filter.now.list c.args.index l.child l.invariant.none
          (subst (λ (b : Bool). HasFault e.entity.now e.moment.now e.filter.now.list l.child b) c.if-is_faulty.false c.in_ok-is_faulty.ensures);
      passed = inr (l.child, after, omega arith, c.stop_at-next.ensures);
      stops = stop_by_asked e.entity.now e.moment.now e.filter.now.list c.args.index l.child l.next c.stop_at-next.result (omega arith) c.stop_at-next.ensures l.invariant.stops;
    }

pub returns : goal.returns
returns c =
    let e = c.args.evaluation.now in
    let l = c.loop-child in
    let count = ap (λ (nodes : List CheckedNode). length nodes) c.nodes-count.ensures.same in
    none_to_end e.entity.now e.moment.now e.filter.now.list c.args.index l.child (omega (arith, count)) l.invariant.none

pub overflow_add-next : goal.overflow_add-next
overflow_add-next c =
    let count = ap (λ (nodes : List CheckedNode). length nodes) c.nodes-count.ensures.same in
    omega (arith, count)

pub overflow_step-child : goal.overflow_step-child
overflow_step-child c =
    let count = ap (λ (nodes : List CheckedNode). length nodes) c.nodes-count.ensures.same in
    omega (arith, count)
