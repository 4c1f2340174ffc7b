use Rattle.std.proofs.Common.{◌∙◌, ◌-◌, ◌<◌, ℕ, ap, arith, subst, sym}
use Rattle.odata_syntax.specs.Places.{first_at}
use Rattle.odata_syntax.specs.private.PlaceGrowth.{AreTiles, places_before}
use Rattle.odata_syntax.proofs.numbering.Nodes.{before_size, node_read_before}
use Rattle.odata_syntax.proofs.numbering.Tiles.{over_more, over_within}
use Rattle.odata_syntax.proofs.node_places.first_of.Goals as goal

pub overflow_sub-first : goal.overflow_sub-first
overflow_sub-first c =
    let index = c.args.index in
    let items = places_before c.args.nodes.now.items index in
    let roots = c.requires.tiles.roots in
    let size = before_size c.args.nodes.now.items index (omega (arith, c.requires.inside)) in
    let tiles : AreTiles items index roots = subst (λ (k : ℕ). AreTiles items k roots) size c.requires.tiles.tiles in
    let so_far = c.loop.invariant roots tiles c.requires.tiles.enough in
    let more = over_more items index roots c.loop.counter tiles (omega (arith, c.loop-test.true, c.requires.tiles.enough)) in
    omega (arith, so_far, more.some)

pub index-requires : goal.index-requires
index-requires c =
    let index = c.args.index in
    let items = places_before c.args.nodes.now.items index in
    let roots = c.requires.tiles.roots in
    let size = before_size c.args.nodes.now.items index (omega (arith, c.requires.inside)) in
    let tiles : AreTiles items index roots = subst (λ (k : ℕ). AreTiles items k roots) size c.requires.tiles.tiles in
    let so_far = c.loop.invariant roots tiles c.requires.tiles.enough in
    let more = over_more items index roots c.loop.counter tiles (omega (arith, c.loop-test.true, c.requires.tiles.enough)) in
    let within = over_within items index roots c.loop.counter tiles in
    omega (arith, so_far, more.some, within, c.requires.inside, c.args.nodes.now.ok)

pub loop-preserved : goal.loop-preserved
loop-preserved c = λ roots tiles enough.
    let nodes = c.args.nodes.now.items in
    let index = c.args.index in
    let items = places_before nodes index in
    let so_far = c.loop.invariant roots tiles enough in
    let more = over_more items index roots c.loop.counter tiles (omega (arith, c.loop-test.true, enough)) in
    let within = over_within items index roots c.loop.counter tiles in
    let before : c.loop.first - 1 < index = omega (arith, so_far, more.some, within) in
    let read = node_read_before nodes index (c.loop.first - 1) c.index.result.now before (omega (arith, before, c.requires.inside)) c.index.ensures in
    read.first ∙ ap (λ (f : ℕ). first_at items (f - 1)) so_far ∙ sym more.further
