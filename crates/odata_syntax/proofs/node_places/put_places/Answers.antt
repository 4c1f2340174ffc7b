use Rattle.std.proofs.Common.{◌≡◌, ◌∙◌, ◌+◌, ◌≤◌, ℕ, List, arith, length, refl, subst, sym}
use Rattle.odata_syntax.specs.declared.node_places.Place.{Place}
use Rattle.odata_syntax.specs.declared.syntax_list.SyntaxNode.{SyntaxNode}
use Rattle.odata_syntax.specs.Places.{ArePlaces, places_of}
use Rattle.odata_syntax.specs.PostOrder.{IsWholeTree}
use Rattle.odata_syntax.specs.private.PlaceGrowth.{IsGrowing, begun_before, places_before, unplaced_nodes}
use Rattle.odata_syntax.proofs.numbering.Growing.{growing_none}
use Rattle.odata_syntax.proofs.numbering.Next.{all_before}
use Rattle.odata_syntax.proofs.numbering.Nodes.{places_size, places_unplaced, size_still, unplaced_length, whole_unplaced}
use Rattle.odata_syntax.proofs.numbering.Placed.{all_begun, places_numbered, rooms_all}
use Rattle.odata_syntax.proofs.node_places.put_places.Goals as goal

pub loop-index-init : goal.loop-index-init
loop-index-init c = record { growing = growing_none (unplaced_nodes c.args.nodes.now.items); same = refl }

pub grow-requires-clause-whole : goal.grow-requires-clause-whole
grow-requires-clause-whole c =
    subst (λ (ns : List SyntaxNode). IsWholeTree ns) (sym c.loop-index.invariant.same) (whole_unplaced c.args.nodes.now.items c.requires)

pub grow-requires-clause-inside : goal.grow-requires-clause-inside
grow-requires-clause-inside c =
    let size = size_still c.args.nodes.now.items c.loop-index.nodes.items c.loop-index.invariant.same in
    omega (arith, size, c.loop-index-test.true, c.len-index-end.ensures, c.args.nodes.now.ok)

pub grow-requires-clause-growing : goal.grow-requires-clause-growing
grow-requires-clause-growing c =
    subst (λ (ns : List SyntaxNode). IsGrowing ns (places_before c.loop-index.nodes.items c.loop-index.index)) (sym c.loop-index.invariant.same) c.loop-index.invariant.growing

pub loop-index-preserved : goal.loop-index-preserved
loop-index-preserved c = record {
  growing = subst (λ (ns : List SyntaxNode). IsGrowing ns (places_before c.grow.new.nodes.items (c.loop-index.index + 1))) c.loop-index.invariant.same c.grow.ensures.growing;
  same = c.grow.ensures.same ∙ c.loop-index.invariant.same;
}

-- all nodes have a place
all_growing : (first now : List SyntaxNode) (index : ℕ) → length now ≤ index → unplaced_nodes now ≡ unplaced_nodes first → IsGrowing (unplaced_nodes first) (places_before now index) → IsGrowing (unplaced_nodes now) (places_of now)
all_growing first now index past same growing =
    subst (λ (ps : List Place). IsGrowing (unplaced_nodes now) ps) (all_before now index past) (subst (λ (ns : List SyntaxNode). IsGrowing ns (places_before now index)) (sym same) growing)

all_few : (nodes : List SyntaxNode) (places : List Place) → IsGrowing nodes places → begun_before places (length places) ≤ length places
all_few nodes places growing = let all = all_begun nodes places growing in omega (arith, all)

pub number-requires-clause-rooms : goal.number-requires-clause-rooms
number-requires-clause-rooms c = λ index inside.
    let now = c.loop-index.nodes.items in
    let size = size_still c.args.nodes.now.items now c.loop-index.invariant.same in
    let growing = all_growing c.args.nodes.now.items now c.loop-index.index (omega (arith, size, c.loop-index-test.false, c.len-index-end.ensures, c.args.nodes.now.ok)) c.loop-index.invariant.same c.loop-index.invariant.growing in
    let full : length (places_of now) ≡ length (unplaced_nodes now) = places_size now ∙ sym (unplaced_length now) in
    rooms_all (unplaced_nodes now) (places_of now) full growing index (omega (arith, places_size now, inside))

pub number-requires-clause-few : goal.number-requires-clause-few
number-requires-clause-few c =
    let now = c.loop-index.nodes.items in
    let size = size_still c.args.nodes.now.items now c.loop-index.invariant.same in
    let growing = all_growing c.args.nodes.now.items now c.loop-index.index (omega (arith, size, c.loop-index-test.false, c.len-index-end.ensures, c.args.nodes.now.ok)) c.loop-index.invariant.same c.loop-index.invariant.growing in
    subst (λ (k : ℕ). begun_before (places_of now) k ≤ k) (places_size now) (all_few (unplaced_nodes now) (places_of now) growing)

pub returns-clause-places : goal.returns-clause-places
returns-clause-places c =
    let now = c.loop-index.nodes.items in
    let new = c.number.new.nodes.items in
    let size = size_still c.args.nodes.now.items now c.loop-index.invariant.same in
    let growing = all_growing c.args.nodes.now.items now c.loop-index.index (omega (arith, size, c.loop-index-test.false, c.len-index-end.ensures, c.args.nodes.now.ok)) c.loop-index.invariant.same c.loop-index.invariant.growing in
    let full : length (places_of now) ≡ length (unplaced_nodes now) = places_size now ∙ sym (unplaced_length now) in
    let whole : IsWholeTree (unplaced_nodes now) = subst (λ (ns : List SyntaxNode). IsWholeTree ns) (sym c.loop-index.invariant.same) (whole_unplaced c.args.nodes.now.items c.requires) in
    places_unplaced new (places_of new)
    (subst (λ (ns : List SyntaxNode). ArePlaces ns (places_of new)) (sym c.number.ensures.same)
    (places_numbered (unplaced_nodes now) (places_of now) (places_of new) whole full growing c.number.ensures.numbered))

pub returns-clause-same : goal.returns-clause-same
returns-clause-same c = c.number.ensures.same ∙ c.loop-index.invariant.same
