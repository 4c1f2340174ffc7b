use Rattle.csdl_schema.specs.SchemaModel.{properties_at}
use Rattle.odata_checked_filter.proofs.flat.Places.{found_before}
use Rattle.odata_checked_filter.proofs.needed.Kinds.{property_there, typed_there}
use Rattle.odata_checked_filter.proofs.needed.Paths.{without_target}
use Rattle.odata_checked_filter.proofs.needed.Steps.{slot_below}
use Rattle.odata_checked_filter.proofs.needed_paths.expand_operand.Goals as goal

pub node-requires : goal.node-requires
node-requires c =
    let r = c.requires in
    let schema = c.args.context.now.schema.now in
    let n = c.args.context.now.filtered_type in
    let list = c.args.context.now.list.now in
    let at = typed_there schema n r.scope list c.args.place r.stop r.tree r.stands in
    found_before list.nodes c.args.place at.0 at.1.0

pub has_no_target-requires : goal.has_no_target-requires
has_no_target-requires c slot is =
    let r = c.requires in
    let schema = c.args.context.now.schema.now in
    let n = c.args.context.now.filtered_type in
    let list = c.args.context.now.list.now in
    let there = property_there schema n r.scope list c.args.place r.stop slot r.tree c.node.result r.stands c.node.ensures is in
    slot_below (properties_at schema n) there.asked slot there.named

pub returns-then-has_no_target : goal.returns-then-has_no_target
returns-then-has_no_target c scope paths stop tree stands lead =
    without_target c.args.context.now.schema.now c.args.context.now.filtered_type scope c.args.context.now.list.now paths c.args.expansion.now c.args.place stop tree c.node.result c.has_no_target.result
    stands c.node.ensures c.has_no_target.ensures c.if-has_no_target.true

pub returns : goal.returns
returns c scope paths stop tree stands lead =
    let reached = c.in_ok-end.ensures scope paths stop tree stands lead in
    record { puts = reached.puts; begins = reached.begins }
