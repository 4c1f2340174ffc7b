use Rattle.std.proofs.Common.{◌∙◌}
use Rattle.odata_syntax.specs.PostOrder.{trees_before, trees_in}
use Rattle.odata_syntax.proofs.lists.Reduced.{held_reduced, join_reduced, read_popped, when_none}
use Rattle.odata_syntax.proofs.parser.state.State.reduce.Goals as goal

pub join-requires : goal.join-requires
join-requires c = read_popped c.loop-pending.self c.pop_closed.new.self c.in-Some.pending c.in-Some.ensures.popped c.in-Some.ensures.nodes c.loop-pending.invariant.read

pub loop-pending-preserved : goal.loop-pending-preserved
loop-pending-preserved c =
    record {
      read = c.in-Taken.ensures.read;
      same = λ texts.
          join_reduced texts c.args.level c.loop-pending.self c.pop_closed.new.self c.join.new.self c.in-Some.pending c.in-Some.ensures.popped c.in-Some.ensures.nodes (c.in-Some.ensures.closed _)
          (c.in-Taken.ensures.joined texts) (c.in-Taken.ensures.waiting texts) c.in-Taken.ensures.frames
          ∙ c.loop-pending.invariant.same texts;
    }

pub returns-clause-reduced : goal.returns-clause-reduced
returns-clause-reduced c = λ texts.
    let none = c.in_default.is in
    held_reduced texts c.args.level c.loop-pending.self c.pop_closed.new.self (when_none c.pop_closed.result _ none c.pop_closed.ensures.held texts (trees_before (trees_in texts c.loop-pending.self.nodes.items))) (when_none c.pop_closed.result _ none c.pop_closed.ensures.unchanged) c.pop_closed.ensures.nodes
    ∙ c.loop-pending.invariant.same texts
