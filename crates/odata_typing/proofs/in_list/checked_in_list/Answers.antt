use Rattle.std.proofs.Common.{◌≡◌, ◌∙◌, length, arith}
use Rattle.odata_typing.proofs.placed.Listed.{listed, not_true, numbered_code, row_there, unnumbered_code}
use Rattle.odata_typing.proofs.in_list.checked_in_list.Goals as goal

pub put_items-fit-requires-clause-items : goal.put_items-fit-requires-clause-items
put_items-fit-requires-clause-items c =
    let given = c.requires.children in
    let list = listed c.args.context.now c.args.walk.now c.args.judged.now given.0 given.1 given.2 in
    row_there c.args.context.now c.args.walk.now c.args.judged.now given.0 given.1 list c.stop_at-items.result (c.stop_at-items.ensures list.left.found list.left.at ∙ list.left.last)

pub fit_of-fit-requires-clause-items : goal.fit_of-fit-requires-clause-items
fit_of-fit-requires-clause-items c =
    let given = c.requires.children in
    let list = listed c.args.context.now c.args.walk.now c.args.judged.now given.0 given.1 given.2 in
    row_there c.args.context.now c.args.walk.now c.args.judged.now given.0 given.1 list c.stop_at-items.result (c.stop_at-items.ensures list.left.found list.left.at ∙ list.left.last)

pub put_list-requires : goal.put_list-requires
put_list-requires c =
    let same : length c.put_items-fit.new.walk.list.nodes ≡ length c.args.walk.now.list.nodes = c.put_items-fit.ensures.count in
    let order = c.requires.ready.order in
    let inside = c.requires.ready.inside in
    omega arith

pub returns-then-is_enumeration : goal.returns-then-is_enumeration
returns-then-is_enumeration c = λ l items over.
    let context = c.args.context.now in
    let schema = context.schema.now in
    let judged = c.args.judged.now in
    let old = c.args.walk.now in
    let list = listed context old judged l items over in
    numbered_code c.laws_below.ensures context judged old c.put_list.new.walk l items c.put_list.result c.requires.ready list
    c.type_at.result.now c.stop_at-items.result c.put_items-fit.result
    (c.type_at.ensures list.left.found list.left.at) (c.stop_at-items.ensures list.left.found list.left.at ∙ list.left.last)
    c.put_items-fit.new.walk (c.is_enumeration.ensures.single schema c.if-is_enumeration.true)
    c.put_items-fit.ensures.fit c.put_items-fit.ensures.put c.put_items-fit.ensures.walk
    c.put_list.ensures.goes_on c.put_list.ensures.put

pub returns-else-is_enumeration : goal.returns-else-is_enumeration
returns-else-is_enumeration c = λ l items over.
    let context = c.args.context.now in
    let schema = context.schema.now in
    let judged = c.args.judged.now in
    let old = c.args.walk.now in
    let list = listed context old judged l items over in
    unnumbered_code c.laws_below.ensures context judged old c.put_list-else-is_enumeration.new.walk l items c.put_list-else-is_enumeration.result c.requires.ready list
    c.type_at.result.now c.stop_at-items.result c.fit_of-fit.result
    (c.type_at.ensures list.left.found list.left.at) (c.stop_at-items.ensures list.left.found list.left.at ∙ list.left.last)
    (c.is_enumeration.ensures.unread schema (not_true c.is_enumeration.result c.if-is_enumeration.false))
    c.fit_of-fit.ensures c.put_list-else-is_enumeration.ensures.goes_on c.put_list-else-is_enumeration.ensures.put
