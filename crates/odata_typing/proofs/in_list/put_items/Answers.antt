use Rattle.std.proofs.Common.{◌<◌, ◌≤◌, arith}
use Rattle.std.proofs.lemmas.Option.{slice_get_within}
use Rattle.csdl_schema.specs.SchemaModel.{slots_of}
use Rattle.odata_signatures.specs.TypeView.{expr_type}
use Rattle.odata_typing.proofs.placed.ItemLoops.{all_fit, next_at, next_item, put_all, put_more, put_none}
use Rattle.odata_typing.proofs.placed.Loops.{types_next}
use Rattle.odata_typing.proofs.in_list.put_items.Goals as goal

pub loop-item-init : goal.loop-item-init
loop-item-init c =
    let schema = c.args.schema.now in
    put_none (slots_of schema) schema (expr_type schema c.args.left.now) c.args.walk.now c.args.items c.args.stop c.requires.items.0 c.requires.items.1 c.requires.items.2

pub put_item-requires-clause-item : goal.put_item-requires-clause-item
put_item-requires-clause-item c =
    let schema = c.args.schema.now in
    let left = expr_type schema c.args.left.now in
    let old = c.args.walk.now in
    let so_far = c.loop-item.invariant in
    let next = next_item (slots_of schema) schema left old.list c.args.items c.args.stop c.loop-item.item so_far.seen c.loop-item.fit so_far.items c.loop-item-test.true in (
      next.found,
      next_at (slots_of schema) schema left old c.args.items c.args.stop c.loop-item.walk c.loop-item.item c.loop-item.fit so_far next,
      (types_next schema old.list.nodes so_far.items.rest c.loop-item.item c.args.stop next so_far.items.there).0,
    )

pub stop_at-next-requires : goal.stop_at-next-requires
stop_at-next-requires c =
    let schema = c.args.schema.now in
    let left = expr_type schema c.args.left.now in
    let old = c.args.walk.now in
    let so_far = c.loop-item.invariant in
    let next = next_item (slots_of schema) schema left old.list c.args.items c.args.stop c.loop-item.item so_far.seen c.loop-item.fit so_far.items c.loop-item-test.true in
    slice_get_within c.loop-item.walk.list.nodes c.loop-item.item next.found
    (next_at (slots_of schema) schema left old c.args.items c.args.stop c.loop-item.walk c.loop-item.item c.loop-item.fit so_far next)

pub loop-item-smaller : goal.loop-item-smaller
loop-item-smaller c =
    let schema = c.args.schema.now in
    let left = expr_type schema c.args.left.now in
    let old = c.args.walk.now in
    let so_far = c.loop-item.invariant in
    let next = next_item (slots_of schema) schema left old.list c.args.items c.args.stop c.loop-item.item so_far.seen c.loop-item.fit so_far.items c.loop-item-test.true in
    let same = c.stop_at-next.ensures next.found
    (next_at (slots_of schema) schema left old c.args.items c.args.stop c.loop-item.walk c.loop-item.item c.loop-item.fit so_far next) in
    let order : c.loop-item.item < next.found.stop = next.order in
    let inside : next.found.stop ≤ c.args.stop = next.inside in
    omega arith

pub loop-item-preserved : goal.loop-item-preserved
loop-item-preserved c =
    let schema = c.args.schema.now in
    let left = expr_type schema c.args.left.now in
    let old = c.args.walk.now in
    let so_far = c.loop-item.invariant in
    let next = next_item (slots_of schema) schema left old.list c.args.items c.args.stop c.loop-item.item so_far.seen c.loop-item.fit so_far.items c.loop-item-test.true in
    let at = next_at (slots_of schema) schema left old c.args.items c.args.stop c.loop-item.walk c.loop-item.item c.loop-item.fit so_far next in
    rw (c.stop_at-next.ensures next.found at, c.worse-fit.ensures)
    (put_more (slots_of schema) schema left old c.args.items c.args.stop c.loop-item.walk c.put_item.new.walk c.loop-item.item c.loop-item.fit c.put_item.result so_far next
    (c.put_item.ensures.fit next.found at) (c.put_item.ensures.put next.found at) c.put_item.ensures.kept c.put_item.ensures.walk)

pub returns-clause-fit : goal.returns-clause-fit
returns-clause-fit c = λ row are.
    let schema = c.args.schema.now in
    let so_far = c.loop-item.invariant in
    all_fit (slots_of schema) schema (expr_type schema c.args.left.now) c.args.walk.now.list c.args.items c.args.stop c.loop-item.item so_far.seen row c.loop-item.fit so_far.items c.loop-item-test.false are

pub returns-clause-put : goal.returns-clause-put
returns-clause-put c = λ row are.
    let schema = c.args.schema.now in
    put_all (slots_of schema) schema (expr_type schema c.args.left.now) c.args.walk.now c.args.items c.args.stop c.loop-item.walk c.loop-item.item c.loop-item.fit row c.loop-item.invariant c.loop-item-test.false are

pub returns-clause-walk : goal.returns-clause-walk
returns-clause-walk c = c.loop-item.invariant.put

pub returns-clause-count : goal.returns-clause-count
returns-clause-count c = c.loop-item.invariant.kept.count
