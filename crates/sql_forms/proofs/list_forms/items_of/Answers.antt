use Rattle.sql_forms.proofs.Common.{◌≡◌, ◌<◌, arith, subst, sym, slice_get, CheckedNode, NodeKind, found_there, question_of}
use Rattle.sql_forms.proofs.answers.AlongAnswers.{ItemsSoFar, items_end, items_more, items_start, next_after, next_inside}
use Rattle.sql_outcomes.proofs.nodes.ChildPlaces.{has_range, list_child}
use Rattle.sql_outcomes.proofs.nodes.ListPlaces.{items_few}
use Rattle.sql_forms.proofs.list_forms.items_of.Goals as goal

pub second-at-requires : goal.second-at-requires
second-at-requires c = list_child c.args.context.now.checked.now c.requires.translated.right c.args.place c.requires.list

pub loop-at-init : goal.loop-at-init
loop-at-init c =
    let filter = c.args.context.now.checked.now in
    let kind = found_there (λ (n : CheckedNode). n.kind ≡ NodeKind.InList) (slice_get filter.list.nodes c.args.place) c.node-stop.result c.node-stop.ensures c.requires.list in
    record {
      so = subst (ItemsSoFar filter c.args.context.now.ranges.now c.args.place c.second-at.result c.node-stop.result.stop) (sym c.new-items.ensures.items)
          (items_start filter c.args.context.now.ranges.now c.args.place c.requires.translated.right c.node-stop.result c.node-stop.ensures kind c.second-at.result c.second-at.ensures);
    }

pub push_side-requires-clause-there : goal.push_side-requires-clause-there
push_side-requires-clause-there c = next_inside c.args.context.now.checked.now c.loop-at.at c.node-stop.result.stop c.loop-at-test.true c.loop-at.invariant.so.on

pub push_side-requires-clause-ranged : goal.push_side-requires-clause-ranged
push_side-requires-clause-ranged c =
    has_range (question_of c.args.context.now) c.args.context.now.ranges.now c.requires.translated.ranges c.loop-at.at
    (next_inside c.args.context.now.checked.now c.loop-at.at c.node-stop.result.stop c.loop-at-test.true c.loop-at.invariant.so.on)

pub node-at-requires : goal.node-at-requires
node-at-requires c = next_inside c.args.context.now.checked.now c.loop-at.at c.node-stop.result.stop c.loop-at-test.true c.loop-at.invariant.so.on

pub loop-at-smaller : goal.loop-at-smaller
loop-at-smaller c =
    let below : c.loop-at.at < c.node-stop.result.stop = c.loop-at-test.true in
    let after : c.loop-at.at < c.node-at.result.stop = next_after c.args.context.now.checked.now c.loop-at.at c.node-stop.result.stop below c.loop-at.invariant.so.on c.node-at.result c.node-at.ensures in
    omega (arith, below, after)

pub loop-at-preserved : goal.loop-at-preserved
loop-at-preserved c =
    let filter = c.args.context.now.checked.now in
    let ranges = c.args.context.now.ranges.now in
    let pushed = c.in_ok-push_side.ensures in
    record {
      so = subst (ItemsSoFar filter ranges c.args.place c.node-at.result.stop c.node-stop.result.stop) (sym pushed.2)
          (items_more filter ranges c.args.place c.loop-at.at c.node-stop.result.stop c.loop-at.items.items pushed.0 c.node-at.result c.node-at.ensures c.loop-at-test.true pushed.1 c.loop-at.invariant.so);
    }

pub returns-clause-items : goal.returns-clause-items
returns-clause-items c =
    let past = c.loop-at-test.false in
    items_end c.args.context.now.checked.now c.args.context.now.ranges.now c.args.place c.loop-at.at c.node-stop.result c.node-stop.ensures c.loop-at.items.items (omega (arith, past)) c.loop-at.invariant.so

pub returns-clause-few : goal.returns-clause-few
returns-clause-few c =
    let past = c.loop-at-test.false in
    let filter = c.args.context.now.checked.now in
    let ranges = c.args.context.now.ranges.now in
    items_few filter c.requires.translated.right ranges c.args.place c.loop-at.items.items
    (items_end filter ranges c.args.place c.loop-at.at c.node-stop.result c.node-stop.ensures c.loop-at.items.items (omega (arith, past)) c.loop-at.invariant.so)
