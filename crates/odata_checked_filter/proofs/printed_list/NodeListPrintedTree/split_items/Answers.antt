use Rattle.odata_checked_filter.proofs.flat.Standing.{line_within}
use Rattle.odata_checked_filter.proofs.printed.Shapes.{no_items, some_items}
use Rattle.odata_checked_filter.proofs.printed_list.NodeListPrintedTree.split_items.Goals as goal

pub node-requires : goal.node-requires
node-requires c = line_within c.args.self.now c.args.items.0 c.args.items.1 c.requires.0 c.requires.1 c.if-first-stop.true

pub returns-then-first-stop : goal.returns-then-first-stop
returns-then-first-stop c = some_items c.args.self.now c.args.items.0 c.args.items.1 c.node.result c.node.ensures c.requires c.if-first-stop.true

pub returns-else-first-stop : goal.returns-else-first-stop
returns-else-first-stop c = no_items c.args.self.now c.args.items.0 c.args.items.1 c.requires c.if-first-stop.false
