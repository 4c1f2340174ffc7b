use Rattle.std.proofs.Common.{◌∙◌, arith}
use Rattle.odata_syntax.proofs.numbering.Next.{IsNextIn, begun_so_far, body_before, first_before, next_fits, next_marked, next_node, next_put, next_tiles}
use Rattle.odata_syntax.proofs.numbering.Nodes.{size_still}
use Rattle.odata_syntax.proofs.node_places.grow.Goals as goal

pub child_count-requires : goal.child_count-requires
child_count-requires c =
    let nodes = c.args.nodes.now.items in
    let index = c.args.index in
    let n = c.index.result.now in
    let next : IsNextIn nodes index n = record { whole = c.requires.whole; growing = c.requires.growing; inside = c.requires.inside; is = c.index.ensures } in
    let fits = next_fits nodes index n next in
    omega (arith, fits, next.inside, c.args.nodes.now.ok, c.args.nodes.now.small)

pub first_of-first-requires-clause-tiles : goal.first_of-first-requires-clause-tiles
first_of-first-requires-clause-tiles c =
    let nodes = c.args.nodes.now.items in
    let index = c.args.index in
    let n = c.index.result.now in
    let next : IsNextIn nodes index n = record { whole = c.requires.whole; growing = c.requires.growing; inside = c.requires.inside; is = c.index.ensures } in
    next_tiles nodes index c.child_count.result n next c.child_count.ensures

pub begin-requires-clause-order : goal.begin-requires-clause-order
begin-requires-clause-order c =
    let nodes = c.args.nodes.now.items in
    let index = c.args.index in
    let n = c.index.result.now in
    let next : IsNextIn nodes index n = record { whole = c.requires.whole; growing = c.requires.growing; inside = c.requires.inside; is = c.index.ensures } in
    let node = next_node nodes index c.child_count.result c.first_of-first.result n next c.child_count.ensures c.first_of-first.ensures in
    first_before nodes index c.first_of-first.result n next node

pub begin-requires-clause-few : goal.begin-requires-clause-few
begin-requires-clause-few c =
    let nodes = c.args.nodes.now.items in
    let index = c.args.index in
    let n = c.index.result.now in
    let next : IsNextIn nodes index n = record { whole = c.requires.whole; growing = c.requires.growing; inside = c.requires.inside; is = c.index.ensures } in
    let begun = begun_so_far nodes index n next in
    omega (arith, begun)

pub mark_body-requires-clause-lambda : goal.mark_body-requires-clause-lambda
mark_body-requires-clause-lambda c =
    let nodes = c.args.nodes.now.items in
    let index = c.args.index in
    let n = c.index.result.now in
    let next : IsNextIn nodes index n = record { whole = c.requires.whole; growing = c.requires.growing; inside = c.requires.inside; is = c.index.ensures } in
    let node = next_node nodes index c.child_count.result c.first_of-first.result n next c.child_count.ensures c.first_of-first.ensures in
    (body_before nodes c.begin.new.nodes.items index c.first_of-first.result n c.in-Lambda.field-0 next node c.begin.ensures.begun c.in-Lambda.is).some

pub mark_body-requires-clause-inside : goal.mark_body-requires-clause-inside
mark_body-requires-clause-inside c =
    let size = size_still c.args.nodes.now.items c.begin.new.nodes.items c.begin.ensures.same in
    omega (arith, size, c.requires.inside)

pub mark_body-requires-clause-begins : goal.mark_body-requires-clause-begins
mark_body-requires-clause-begins c =
    let nodes = c.args.nodes.now.items in
    let index = c.args.index in
    let n = c.index.result.now in
    let next : IsNextIn nodes index n = record { whole = c.requires.whole; growing = c.requires.growing; inside = c.requires.inside; is = c.index.ensures } in
    let node = next_node nodes index c.child_count.result c.first_of-first.result n next c.child_count.ensures c.first_of-first.ensures in
    (body_before nodes c.begin.new.nodes.items index c.first_of-first.result n c.in-Lambda.field-0 next node c.begin.ensures.begun c.in-Lambda.is).begins

pub returns-in-Lambda-clause-growing : goal.returns-in-Lambda-clause-growing
returns-in-Lambda-clause-growing c =
    let nodes = c.args.nodes.now.items in
    let index = c.args.index in
    let n = c.index.result.now in
    let next : IsNextIn nodes index n = record { whole = c.requires.whole; growing = c.requires.growing; inside = c.requires.inside; is = c.index.ensures } in
    let node = next_node nodes index c.child_count.result c.first_of-first.result n next c.child_count.ensures c.first_of-first.ensures in
    next_marked nodes c.begin.new.nodes.items c.mark_body.new.nodes.items index c.first_of-first.result n c.in-Lambda.field-0 next node c.begin.ensures.begun c.in-Lambda.is c.mark_body.ensures.marked

pub returns-in-Lambda-clause-same : goal.returns-in-Lambda-clause-same
returns-in-Lambda-clause-same c =
    c.mark_body.ensures.same ∙ c.begin.ensures.same

pub returns-in_default-clause-growing : goal.returns-in_default-clause-growing
returns-in_default-clause-growing c =
    let nodes = c.args.nodes.now.items in
    let index = c.args.index in
    let n = c.index.result.now in
    let next : IsNextIn nodes index n = record { whole = c.requires.whole; growing = c.requires.growing; inside = c.requires.inside; is = c.index.ensures } in
    let node = next_node nodes index c.child_count.result c.first_of-first.result n next c.child_count.ensures c.first_of-first.ensures in
    next_put nodes c.begin.new.nodes.items index c.first_of-first.result n next node c.begin.ensures.begun c.in_default.not-Lambda
