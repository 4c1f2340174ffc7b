use Rattle.std.proofs.Common.{◌≡◌, ◌∙◌, ◌+◌, ◌-◌, ◌<◌, ◌≤◌, ℕ, List, ap, arith, length, refl, slice_set, subst, sym}
use Rattle.odata_syntax.specs.declared.node_places.Place.{Place}
use Rattle.odata_syntax.specs.declared.syntax_list.SyntaxNode.{SyntaxNode}
use Rattle.odata_syntax.specs.Places.{first_at, places_of}
use Rattle.odata_syntax.specs.private.PlaceGrowth.{begun_before}
use Rattle.odata_syntax.proofs.numbering.Nodes.{node_read, places_set, places_size, size_still, unplaced_set}
use Rattle.odata_syntax.proofs.numbering.Numbers.{IsNumberedUntil, fits_before, numbered_all, numbered_more, numbered_none}
use Rattle.odata_syntax.proofs.numbering.Writes.{begun_next, begun_rises, begun_start}
use Rattle.odata_syntax.proofs.node_places.number.Goals as goal

pub loop-index-init : goal.loop-index-init
loop-index-init c = record { numbered = numbered_none (places_of c.args.nodes.now.items); next = sym (begun_start (places_of c.args.nodes.now.items)); same = refl }

pub overflow_add-stop : goal.overflow_add-stop
overflow_add-stop c =
    let old = places_of c.args.nodes.now.items in
    let items = c.loop-index.nodes.items in
    let i = c.loop-index.index in
    let n : SyntaxNode = c.index.result.now in
    let numbered = c.loop-index.invariant.numbered in
    let inside : i < length c.args.nodes.now.items = omega (arith, c.loop-index-test.true, c.len-index-end.ensures, c.args.nodes.now.ok) in
    let size = size_still c.args.nodes.now.items items c.loop-index.invariant.same in
    let read = node_read items i n (omega (arith, inside, size)) c.index.ensures in
    let rises = begun_rises old (i + 1) (length c.args.nodes.now.items) (omega (arith, inside)) in
    omega (arith, c.loop-index.invariant.next, read.number, numbered.later i (omega arith), begun_next old i, rises, c.requires.few, c.args.nodes.now.ok, c.args.nodes.now.small)

pub overflow_sub-index : goal.overflow_sub-index
overflow_sub-index c =
    let old = places_of c.args.nodes.now.items in
    let items = c.loop-index.nodes.items in
    let i = c.loop-index.index in
    let n : SyntaxNode = c.index.result.now in
    let numbered = c.loop-index.invariant.numbered in
    let inside : i < length c.args.nodes.now.items = omega (arith, c.loop-index-test.true, c.len-index-end.ensures, c.args.nodes.now.ok) in
    let size = size_still c.args.nodes.now.items items c.loop-index.invariant.same in
    let read = node_read items i n (omega (arith, inside, size)) c.index.ensures in
    omega (arith, read.first, numbered.firsts i, (c.requires.rooms i inside).order)

pub overflow_sub-stop : goal.overflow_sub-stop
overflow_sub-stop c =
    let old = places_of c.args.nodes.now.items in
    let items = c.loop-index.nodes.items in
    let i = c.loop-index.index in
    let n : SyntaxNode = c.index.result.now in
    let numbered = c.loop-index.invariant.numbered in
    let inside : i < length c.args.nodes.now.items = omega (arith, c.loop-index-test.true, c.len-index-end.ensures, c.args.nodes.now.ok) in
    let size = size_still c.args.nodes.now.items items c.loop-index.invariant.same in
    let read = node_read items i n (omega (arith, inside, size)) c.index.ensures in
    let total : c.loop-index.stop + n.place.number ≡ begun_before old (i + 1) =
    omega (arith, c.loop-index.invariant.next, read.number, numbered.later i (omega arith), begun_next old i) in
    omega (arith, total, fits_before old i (c.requires.rooms i inside), read.first, numbered.firsts i)

pub loop-index-preserved : goal.loop-index-preserved
loop-index-preserved c =
    let old = places_of c.args.nodes.now.items in
    let items = c.loop-index.nodes.items in
    let i = c.loop-index.index in
    let n : SyntaxNode = c.index.result.now in
    let numbered = c.loop-index.invariant.numbered in
    let inside : i < length c.args.nodes.now.items = omega (arith, c.loop-index-test.true, c.len-index-end.ensures, c.args.nodes.now.ok) in
    let size = size_still c.args.nodes.now.items items c.loop-index.invariant.same in
    let read = node_read items i n (omega (arith, inside, size)) c.index.ensures in
    let total : c.loop-index.stop + n.place.number ≡ begun_before old (i + 1) =
    omega (arith, c.loop-index.invariant.next, read.number, numbered.later i (omega arith), begun_next old i) in
    let m : SyntaxNode = c.index_mut.result.now in
    let again = node_read items i m (omega (arith, inside, size)) c.index_mut.ensures.value in
    let first : n.place.first ≡ first_at old i = read.first ∙ numbered.firsts i in
    let own : c.loop-index.stop + n.place.number - (i + 1 - n.place.first) ≡ begun_before old (i + 1) - (i + 1 - first_at old i) =
    ap (λ (k : ℕ). k - (i + 1 - n.place.first)) total ∙ ap (λ (f : ℕ). begun_before old (i + 1) - (i + 1 - f)) first in
    let place : Place = record { number = c.loop-index.stop + n.place.number - (i + 1 - n.place.first); first = m.place.first; lambda = m.place.lambda } in
    let more : IsNumberedUntil old (slice_set (places_of items) i place) (i + 1) =
    numbered_more old (places_of items) i place (omega (arith, inside, places_size c.args.nodes.now.items)) (c.requires.rooms i inside) numbered own again.first again.lambda in
    record {
      numbered = subst (λ (ps : List Place). IsNumberedUntil old ps (i + 1)) (sym (places_set items i m place)) more;
      next = total;
      same = unplaced_set items i m place c.index_mut.ensures.value ∙ c.loop-index.invariant.same;
    }

pub returns-clause-numbered : goal.returns-clause-numbered
returns-clause-numbered c =
    let all : length (places_of c.args.nodes.now.items) ≤ c.loop-index.index =
    omega (arith, places_size c.args.nodes.now.items, c.loop-index-test.false, c.len-index-end.ensures, c.args.nodes.now.ok) in
    numbered_all (places_of c.args.nodes.now.items) (places_of c.loop-index.nodes.items) c.loop-index.index all c.loop-index.invariant.numbered
