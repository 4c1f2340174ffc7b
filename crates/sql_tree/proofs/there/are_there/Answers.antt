use Rattle.std.proofs.Common.{length, refl}
use Rattle.std.proofs.lemmas.Option.{slice_get_read}
use Rattle.sql_tree.specs.Shapes.{IsThere}
use Rattle.sql_tree.specs.TableModel.{table_in}
use Rattle.sql_tree.proofs.Elements.{left_end, left_first, left_not, left_on}
use Rattle.sql_tree.proofs.there.are_there.Goals as goal

pub loop-node-init : goal.loop-node-init
loop-node-init c = left_first (IsThere (table_in c.args.table.now) c.args.tree.now.paths.items) c.args.nodes.now

pub loop-node-preserved : goal.loop-node-preserved
loop-node-preserved c =
    let nodes = c.args.nodes.now in
    let at = slice_get_read nodes (length nodes) c.loop-node.node-index c.node-item.result refl c.loop-node-test.true c.node-item.is in
    left_on (IsThere (table_in c.args.table.now) c.args.tree.now.paths.items) nodes c.loop-node.node-index c.node-item.result at c.loop-node.invariant (c.is_there.ensures.0 c.if-not-is_there.false)

pub returns-then-not-is_there : goal.returns-then-not-is_there
returns-then-not-is_there c =
    let nodes = c.args.nodes.now in
    let at = slice_get_read nodes (length nodes) c.loop-node.node-index c.node-item.result refl c.loop-node-test.true c.node-item.is in
    left_not (IsThere (table_in c.args.table.now) c.args.tree.now.paths.items) nodes c.loop-node.node-index c.node-item.result at c.loop-node.invariant c.is_there.result c.is_there.ensures
    c.if-not-is_there.true

pub returns : goal.returns
returns c =
    left_end (IsThere (table_in c.args.table.now) c.args.tree.now.paths.items) c.args.nodes.now c.loop-node.node-index c.loop-node-test.false c.loop-node.invariant
