use Rattle.sql_forms.proofs.Common.{◌≡◌, ◌<◌, ◌+◌, arith, refl, subst, sym, CheckedNode, NodeKind, found_there, slice_get, Operand, Source, question_of}
use Rattle.sql_forms.proofs.answers.AlongAnswers.{ArgumentsSoFar, arguments_end, arguments_more, arguments_start, next_after, next_inside, node_is_at}
use Rattle.sql_outcomes.proofs.nodes.ChildPlaces.{has_range}
use Rattle.sql_forms.proofs.call_forms.arguments_of.Goals as goal

pub loop-at-init : goal.loop-at-init
loop-at-init c =
    let filter = c.args.context.now.checked.now in
    let kind = found_there (λ (n : CheckedNode). n.kind ≡ NodeKind.Call c.requires.call.0) (slice_get filter.list.nodes c.args.place) c.node-stop.result c.node-stop.ensures c.requires.call.1 in
    record {
      so = subst (ArgumentsSoFar filter c.args.context.now.ranges.now c.args.place (c.args.place + 1) c.node-stop.result.stop) (sym c.new-operands.ensures.items)
          (arguments_start filter c.args.context.now.ranges.now c.args.place c.requires.translated.right c.node-stop.result c.node-stop.ensures c.requires.call.0 kind);
    }

pub kind-requires : goal.kind-requires
kind-requires c = next_inside c.args.context.now.checked.now c.loop-at.at c.node-stop.result.stop c.loop-at-test.true c.loop-at.invariant.so.on

pub range-requires : goal.range-requires
range-requires c =
    has_range (question_of c.args.context.now) c.args.context.now.ranges.now c.requires.translated.ranges c.loop-at.at
    (next_inside c.args.context.now.checked.now c.loop-at.at c.node-stop.result.stop c.loop-at-test.true c.loop-at.invariant.so.on)

pub node-at-requires : goal.node-at-requires
node-at-requires c = next_inside c.args.context.now.checked.now c.loop-at.at c.node-stop.result.stop c.loop-at-test.true c.loop-at.invariant.so.on

pub loop-at-smaller : goal.loop-at-smaller
loop-at-smaller c =
    let below : c.loop-at.at < c.node-stop.result.stop = c.loop-at-test.true in
    let after : c.loop-at.at < c.node-at.result.stop = next_after c.args.context.now.checked.now c.loop-at.at c.node-stop.result.stop below c.loop-at.invariant.so.on c.node-at.result c.node-at.ensures in
    omega (arith, below, after)

pub loop-at-preserved : goal.loop-at-preserved
loop-at-preserved c =
    let filter = c.args.context.now.checked.now in
    let ranges = c.args.context.now.ranges.now in
    let x : Operand = record { source = Source.Node c.loop-at.at; kind = c.kind.result; range = c.range.result } in
    record {
      so = subst (ArgumentsSoFar filter ranges c.args.place c.node-at.result.stop c.node-stop.result.stop) (sym c.in_ok-push.ensures.items)
          (arguments_more filter ranges c.args.place c.loop-at.at c.node-stop.result.stop c.loop-at.operands.items x c.node-at.result c.node-at.ensures c.loop-at-test.true
          (node_is_at filter ranges c.loop-at.at x refl c.kind.ensures c.range.ensures) c.loop-at.invariant.so);
    }

pub returns : goal.returns
returns c =
    let past = c.loop-at-test.false in
    arguments_end c.args.context.now.checked.now c.args.context.now.ranges.now c.args.place c.loop-at.at c.node-stop.result c.node-stop.ensures c.loop-at.operands.items (omega (arith, past)) c.loop-at.invariant.so
