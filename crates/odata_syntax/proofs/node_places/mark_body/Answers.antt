use Rattle.std.proofs.Common.{◌+◌, ◌-◌, ◌≤◌, ℕ, arith, refl, slice_set, subst, sym}
use Rattle.odata_syntax.specs.declared.node_places.Place.{Place}
use Rattle.odata_syntax.specs.declared.syntax_list.SyntaxNode.{SyntaxNode}
use Rattle.odata_syntax.specs.private.PlaceGrowth.{IsMarked, places_before}
use Rattle.odata_syntax.proofs.numbering.Nodes.{marked_nodes, node_read_before, unplaced_set, with_place}
use Rattle.odata_syntax.proofs.node_places.mark_body.Goals as goal

pub returns-clause-marked : goal.returns-clause-marked
returns-clause-marked c =
    let old = c.args.nodes.now.items in
    let index = c.args.index in
    let begin = c.index.result.now.place.first in
    let body = node_read_before old (index + 1) (index - 1) c.index.result.now (omega (arith, c.requires.lambda)) (omega (arith, c.requires.inside)) c.index.ensures in
    let before : begin ≤ index = subst (λ (k : ℕ). k ≤ index) (sym body.first) c.requires.begins in
    let n : SyntaxNode = c.index_mut.result.now in
    let mark : Place = record { number = n.place.number; first = n.place.first; lambda = index } in
    subst (λ (k : ℕ). IsMarked (places_before old (index + 1)) (places_before (slice_set old begin (with_place n mark)) (index + 1)) k index) body.first
    (marked_nodes old (index + 1) begin index n mark (omega (arith, before)) (omega (arith, c.requires.inside)) c.index_mut.ensures.value refl refl refl)

pub returns-clause-same : goal.returns-clause-same
returns-clause-same c =
    let n : SyntaxNode = c.index_mut.result.now in
    unplaced_set c.args.nodes.now.items c.index.result.now.place.first n (record { number = n.place.number; first = n.place.first; lambda = c.args.index }) c.index_mut.ensures.value

pub index_mut-requires : goal.index_mut-requires
index_mut-requires c =
    let old = c.args.nodes.now.items in
    let index = c.args.index in
    let body = node_read_before old (index + 1) (index - 1) c.index.result.now (omega (arith, c.requires.lambda)) (omega (arith, c.requires.inside)) c.index.ensures in
    omega (arith, body.first, c.requires.begins, c.requires.inside, c.args.nodes.now.ok)
