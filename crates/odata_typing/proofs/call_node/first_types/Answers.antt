use Rattle.std.proofs.Common.{◌≡◌, ◌∙◌, ◌<◌, ◌≤◌, arith, rules, length, length-set}
use Rattle.std.proofs.lemmas.Option.{slice_get_within}
use Rattle.odata_typing.proofs.placed.TypeLoops.{taken_all, taken_four, taken_more, taken_next, taken_none}
use Rattle.odata_typing.proofs.call_node.first_types.Goals as goal

pub loop-place-init : goal.loop-place-init
loop-place-init c = record {
  few = omega arith;
  room = search rules;
  taken = taken_none c.args.walk.now.list.nodes c.args.from c.args.stop c.requires.0 c.args.types.now c.requires.1;
}

pub type_at-requires : goal.type_at-requires
type_at-requires c =
    let next = taken_next c.args.walk.now.list.nodes c.args.from c.args.stop c.loop-place.types c.loop-place.place c.loop-place.count c.loop-place.invariant.taken c.loop-place-test.true in
    slice_get_within c.args.walk.now.list.nodes c.loop-place.place next.found next.at

pub stop_at-place-requires : goal.stop_at-place-requires
stop_at-place-requires c =
    let next = taken_next c.args.walk.now.list.nodes c.args.from c.args.stop c.loop-place.types c.loop-place.place c.loop-place.count c.loop-place.invariant.taken c.loop-place-test.true in
    slice_get_within c.args.walk.now.list.nodes c.loop-place.place next.found next.at

pub loop-place-smaller : goal.loop-place-smaller
loop-place-smaller c =
    let next = taken_next c.args.walk.now.list.nodes c.args.from c.args.stop c.loop-place.types c.loop-place.place c.loop-place.count c.loop-place.invariant.taken c.loop-place-test.true in
    let same = c.stop_at-place.ensures next.found next.at in
    let order : c.loop-place.place < next.found.stop = next.order in
    let inside : next.found.stop ≤ c.args.stop = next.inside in
    omega arith

pub loop-place-preserved : goal.loop-place-preserved
loop-place-preserved c =
    let next = taken_next c.args.walk.now.list.nodes c.args.from c.args.stop c.loop-place.types c.loop-place.place c.loop-place.count c.loop-place.invariant.taken c.loop-place-test.true in
    let few : c.loop-place.count < 4 = c.if-count-lt4.true in
    let room : length c.loop-place.types ≡ 4 = c.loop-place.invariant.room in
    record {
      few = omega arith;
      room = length-set c.loop-place.types c.loop-place.count c.type_at.result.now ∙ room;
      taken = rw (c.type_at.ensures next.found next.at, c.stop_at-place.ensures next.found next.at)
          (taken_more c.args.walk.now.list.nodes c.args.from c.args.stop c.loop-place.types c.loop-place.place c.loop-place.count c.loop-place.invariant.taken next (omega arith));
    }

pub returns-else-count-lt4-clause-first : goal.returns-else-count-lt4-clause-first
returns-else-count-lt4-clause-first c = λ row are.
    let many : 4 ≤ c.loop-place.count = c.if-count-lt4.false in
    let few : c.loop-place.count ≤ 4 = c.loop-place.invariant.few in
    let four : c.loop-place.count ≡ 4 = omega arith in
    taken_four c.args.walk.now.list.nodes c.args.from c.args.stop c.loop-place.types c.loop-place.place c.loop-place.count row four c.loop-place.invariant.taken are

pub returns-after-loop-place-clause-first : goal.returns-after-loop-place-clause-first
returns-after-loop-place-clause-first c = λ row are.
    taken_all c.args.walk.now.list.nodes c.args.from c.args.stop c.loop-place.types c.loop-place.place c.loop-place.count row c.loop-place.invariant.taken c.loop-place-test.false c.loop-place.invariant.few are
