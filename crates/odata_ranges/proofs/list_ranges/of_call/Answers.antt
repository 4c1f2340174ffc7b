use Rattle.odata_ranges.proofs.Common.{◌≡◌, ◌<◌, ◌≤◌, ◌+◌, ℕ, Some, slice_get, sym, ap, subst, arith, more_trees, CheckedNode, NodeKind, same_found, IsBounded, MakesNone}
use Rattle.odata_ranges.proofs.Flags.{neither}
use Rattle.odata_ranges.proofs.HoldingLines.{call_holds, wider_within}
use Rattle.odata_ranges.proofs.Inside.{argument_inside, arguments_here, call_kind, further_inside, second_inside}
use Rattle.odata_ranges.proofs.Quiet.{own_above}
use Rattle.odata_ranges.proofs.Values.{before_or_past, bounded_alike}
use Rattle.odata_ranges.proofs.list_ranges.of_call.Goals as goal

pub node_at-next-requires : goal.node_at-next-requires
node_at-next-requires c =
    argument_inside c.args.checked.now c.requires.form.right c.args.place c.args.node c.requires.form.at (arguments_here c.calls_have_one_type.ensures.named c.requires.form)

pub range_in-first-requires : goal.range_in-first-requires
range_in-first-requires c =
    let there = argument_inside c.args.checked.now c.requires.form.right c.args.place c.args.node c.requires.form.at (arguments_here c.calls_have_one_type.ensures.named c.requires.form) in
    omega (arith, there, c.requires.known.as_many)

pub second_or-second-requires : goal.second_or-second-requires
second_or-second-requires c = λ before.
    let there = second_inside c.args.checked.now c.requires.form.right c.args.place c.args.node c.requires.form.at (arguments_here c.calls_have_one_type.ensures.named c.requires.form)
    c.node_at-next.result c.node_at-next.ensures.found before in
    omega (arith, there, c.requires.known.as_many)

pub flags_between-flags-requires : goal.flags_between-flags-requires
flags_between-flags-requires c =
    let there = arguments_here c.calls_have_one_type.ensures.named c.requires.form in
    record { as_many = c.requires.known.as_many; lie = (there.scope, more_trees there.first there.more, there.stand) }

pub called-plain-requires : goal.called-plain-requires
called-plain-requires c =
    let next : c.args.place + 1 ≤ c.args.place + 1 = omega arith in
    let first = (c.requires.known.after (c.args.place + 1) c.range_in-first.result next c.range_in-first.ensures).bounded in
    let onward = further_inside c.args.checked.now c.requires.form.right c.args.place c.args.node c.requires.form.at (arguments_here c.calls_have_one_type.ensures.named c.requires.form)
    c.node_at-next.result c.node_at-next.ensures.found in
    record {
      first = first;
      second = before_or_past c.node_at-next.result.stop c.args.node.stop
          (λ before. (c.requires.known.after c.node_at-next.result.stop c.second_or-second.result onward (c.second_or-second.ensures.there before)).bounded)
          (λ past. subst IsBounded (sym (c.second_or-second.ensures.past past)) first);
    }

pub returns : goal.returns
returns c =
    let call = call_kind c.args.node.kind c.args.function c.requires.form.is in
    own_above c.requires.form tt (record {
      bounded = bounded_alike c.called-plain.result c.joined.result c.joined.ensures.bounds.0 c.joined.ensures.bounds.1 c.called-plain.ensures.bounded;
      holds = call_holds c.typed_trees_end_once.ensures c.args.checked.now c.args.place c.args.node c.requires.form.at c.args.ranges.now c.requires.known.after
          c.flags_between-flags.result c.joined.result c.flags_between-flags.ensures.covers c.joined.ensures.second.fault c.calls_have_one_type.ensures.named c.args.function
          c.range_in-first.result c.second_or-second.result c.called-plain.result call c.range_in-first.ensures
          (λ one one_at before.
          let stops = ap (λ (n : CheckedNode). n.stop) (same_found _ one c.node_at-next.result one_at c.node_at-next.ensures.found) in
          subst (λ (n : ℕ). slice_get c.args.ranges.now n ≡ Some c.second_or-second.result) (sym stops)
          (c.second_or-second.ensures.there (subst (λ (n : ℕ). n < c.args.node.stop) stops before)))
          c.called-plain.ensures.called.within
          (λ o. wider_within c.called-plain.result c.joined.result o c.joined.ensures.first.fault c.joined.ensures.first.null c.joined.ensures.bounds.0 c.joined.ensures.bounds.1)
          c.joined.ensures.second.null;
    })
    (λ makes quiet. neither c.joined.result.may_fault c.called-plain.result.may_fault c.flags_between-flags.result.may_fault c.joined.ensures.faults
    (c.called-plain.ensures.called.quiet c.args.node.edm_type (subst (λ (k : NodeKind). MakesNone k c.args.node.edm_type) call makes))
    (c.flags_between-flags.ensures.quiet quiet))
