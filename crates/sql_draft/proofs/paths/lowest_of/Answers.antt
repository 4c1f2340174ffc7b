use Rattle.sql_draft.proofs.PathKinds.{one_down}
use Rattle.sql_draft.proofs.paths.lowest_of.Goals as goal

pub loop-at-preserved : goal.loop-at-preserved
loop-at-preserved c = record {
  way = one_down c.args.context.now.checked.now c.args.place c.requires.translated.right c.loop-at.at c.in-Member.slot c.node.result c.node.ensures c.in-Member.is c.loop-at.invariant.way;
}
