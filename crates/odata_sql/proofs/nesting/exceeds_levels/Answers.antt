use Rattle.std.proofs.Common.{◌≤◌, length, arith}
use Rattle.odata_sql.specs.Nesting.{most_levels}
use Rattle.odata_sql.proofs.LevelsFound.{none_yet, one_counted}
use Rattle.odata_sql.proofs.nesting.exceeds_levels.Goals as goal

pub loop-at-init : goal.loop-at-init
loop-at-init c = none_yet c.args.nodes.now c.new-around.result.items c.new-around.ensures.items

pub loop-at-preserved : goal.loop-at-preserved
loop-at-preserved c =
    let nodes = c.args.nodes.now in
    let at = c.loop-at.at in
    let kept = c.forget_stopped.new.around.items in
    let few : length kept ≤ most_levels = (let not_more = c.if-most_levels-len.false in let most = c.most_levels.ensures in omega (arith, not_more, most)) in
    one_counted nodes at c.loop-at.before c.loop-at.around.items kept c.loop-at.invariant c.forget_stopped.ensures c.node_at-node.result c.push_level.new.around.items
    c.node_at-node.ensures few c.in_ok-push_level.ensures
