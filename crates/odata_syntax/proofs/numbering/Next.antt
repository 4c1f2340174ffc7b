-- The next node of a list that holds its places.
use Rattle.std.proofs.Common.{◌≡◌, ◌≢◌, ap, sym, subst, ◌∙◌, ℕ, ◌+◌, ◌-◌, ◌<◌, ◌≤◌, List, length, get_or, slice_get, take, Some, arith}
use Rattle.std.proofs.lemmas.List.{take_all}
use Rattle.odata_syntax.specs.declared.node.Quantifier.{Quantifier}
use Rattle.odata_syntax.specs.declared.syntax_list.SyntaxKind.{SyntaxKind}
use Rattle.odata_syntax.specs.declared.syntax_list.SyntaxNode.{SyntaxNode}
use Rattle.odata_syntax.specs.Places.{first_at, first_over, nodes_before, places_of, roots_back}
use Rattle.odata_syntax.specs.PostOrder.{IsWholeTree, child_count}
use Rattle.odata_syntax.specs.private.PlaceGrowth.{AreTiles, HasTiles, IsBegun, IsGrowing, IsMarked, begun_before, places_before, unplaced, unplaced_nodes}
use Rattle.odata_syntax.proofs.numbering.Growing.{IsNextNode, next_body, next_lambda, next_plain}
use Rattle.odata_syntax.proofs.numbering.Nodes.{before_size, node_at, places_size, unplaced_at, whole_of_unplaced}
use Rattle.odata_syntax.proofs.numbering.Tiles.{child_fits, enough_roots, over_within, seam_at}

-- a node whose place is the next
pub record IsNextIn (nodes : List SyntaxNode) (index : ℕ) (n : SyntaxNode) : Type 0 where
  pub whole : IsWholeTree (unplaced_nodes nodes)
  pub growing : IsGrowing (unplaced_nodes nodes) (places_before nodes index)
  pub inside : index < length nodes
  pub is : n ≡ get_or nodes index n

size_of : (nodes : List SyntaxNode) (index : ℕ) (n : SyntaxNode) → IsNextIn nodes index n → length (places_before nodes index) ≡ index
size_of nodes index n next = before_size nodes index (omega (arith, next.inside))

there : (nodes : List SyntaxNode) (index : ℕ) (n : SyntaxNode) → IsNextIn nodes index n → slice_get (unplaced_nodes nodes) (length (places_before nodes index)) ≡ Some (unplaced n)
there nodes index n next = ap (slice_get (unplaced_nodes nodes)) (size_of nodes index n next) ∙ unplaced_at nodes index n (node_at nodes index n next.inside next.is)

-- it has no more children than nodes stand before it
pub next_fits : (nodes : List SyntaxNode) (index : ℕ) (n : SyntaxNode) → IsNextIn nodes index n → child_count n.kind n.count ≤ index
next_fits nodes index n next =
    subst (λ (m : SyntaxNode). child_count m.kind m.count ≤ index) (sym next.is) (child_fits nodes index n (whole_of_unplaced nodes next.whole).fed next.inside)

-- its children stand before it
pub next_tiles : (nodes : List SyntaxNode) (index count : ℕ) (n : SyntaxNode) → IsNextIn nodes index n → count ≡ child_count n.kind n.count → HasTiles (places_before nodes index) count
next_tiles nodes index count n next is =
    let to = length (places_before nodes index) in
    let enough = enough_roots (unplaced_nodes nodes) to (unplaced n) next.whole.fed (there nodes index n next) in
    record { roots = roots_back (nodes_before (unplaced_nodes nodes) to); tiles = next.growing.tiles; enough = omega (arith, enough, is) }

-- where its tree begins
pub next_node : (nodes : List SyntaxNode) (index count first : ℕ) (n : SyntaxNode) → IsNextIn nodes index n → count ≡ child_count n.kind n.count
    → ((roots : List ℕ) → AreTiles (places_before nodes index) index roots → count ≤ length roots → first ≡ first_over (places_before nodes index) index (take count roots))
    → IsNextNode (unplaced_nodes nodes) (places_before nodes index) (unplaced n) first
next_node nodes index count first n next is found =
    let places = places_before nodes index in
    let roots = roots_back (nodes_before (unplaced_nodes nodes) (length places)) in
    let size = size_of nodes index n next in
    let enough = enough_roots (unplaced_nodes nodes) (length places) (unplaced n) next.whole.fed (there nodes index n next) in
    record {
      whole = next.whole;
      growing = next.growing;
      at = there nodes index n next;
      first_is = found roots (subst (λ (k : ℕ). AreTiles places k roots) size next.growing.tiles) (omega (arith, enough, is))
          ∙ ap (λ (k : ℕ). first_over places k (take count roots)) (sym size) ∙ ap (λ (k : ℕ). first_over places (length places) (take k roots)) is;
    }

pub first_before : (nodes : List SyntaxNode) (index first : ℕ) (n : SyntaxNode) → IsNextIn nodes index n → IsNextNode (unplaced_nodes nodes) (places_before nodes index) (unplaced n) first → first ≤ index
first_before nodes index first n next node =
    let places = places_before nodes index in
    let roots = roots_back (nodes_before (unplaced_nodes nodes) (length places)) in
    let first_is : first ≡ first_over places (length places) (take (child_count n.kind n.count) roots) = node.first_is in
    let within = over_within places (length places) roots (child_count n.kind n.count) next.growing.tiles in
    omega (arith, first_is, within, size_of nodes index n next)

-- as many trees begin before it as nodes stand there
pub begun_so_far : (nodes : List SyntaxNode) (index : ℕ) (n : SyntaxNode) → IsNextIn nodes index n → begun_before (places_before nodes index) index ≡ index
begun_so_far nodes index n next =
    let places = places_before nodes index in
    subst (λ (k : ℕ). begun_before places k ≡ k) (size_of nodes index n next)
    (seam_at places (length places) (roots_back (nodes_before (unplaced_nodes nodes) (length places))) next.growing.seams).begun

-- the place is put
pub next_put : (old new : List SyntaxNode) (index first : ℕ) (n : SyntaxNode) → IsNextIn old index n → IsNextNode (unplaced_nodes old) (places_before old index) (unplaced n) first
    → IsBegun (places_before old index) (places_before new (index + 1)) first → ((quantifier : Quantifier) → n.kind ≢ SyntaxKind.Lambda quantifier)
    → IsGrowing (unplaced_nodes old) (places_before new (index + 1))
next_put old new index first n next node begun plain = next_plain (unplaced_nodes old) (places_before old index) (places_before new (index + 1)) (unplaced n) first node begun plain

-- a lambda expression has its body before it
pub record IsBodyBefore (mid : List SyntaxNode) (index : ℕ) : Type 0 where
  pub some : 0 < index
  pub begins : first_at (places_before mid (index + 1)) (index - 1) ≤ index

pub body_before : (old mid : List SyntaxNode) (index first : ℕ) (n : SyntaxNode) (quantifier : Quantifier) → IsNextIn old index n → IsNextNode (unplaced_nodes old) (places_before old index) (unplaced n) first
    → IsBegun (places_before old index) (places_before mid (index + 1)) first → n.kind ≡ SyntaxKind.Lambda quantifier
    → IsBodyBefore mid index
body_before old mid index first n quantifier next node begun is =
    let places = places_before old index in
    let size = size_of old index n next in
    let body = next_body (unplaced_nodes old) places (unplaced n) quantifier first node is in
    let stays = begun.firsts (length places - 1) (omega (arith, body.some)) in
    let begins : first_at (places_before mid (index + 1)) (length places - 1) ≤ index = omega (arith, stays, body.order, size) in
    record {
      some = omega (arith, body.some, size);
      begins = subst (λ (k : ℕ). first_at (places_before mid (index + 1)) (k - 1) ≤ index) size begins;
    }

pub next_marked : (old mid new : List SyntaxNode) (index first : ℕ) (n : SyntaxNode) (quantifier : Quantifier) → IsNextIn old index n → IsNextNode (unplaced_nodes old) (places_before old index) (unplaced n) first
    → IsBegun (places_before old index) (places_before mid (index + 1)) first → n.kind ≡ SyntaxKind.Lambda quantifier
    → IsMarked (places_before mid (index + 1)) (places_before new (index + 1)) (first_at (places_before mid (index + 1)) (index - 1)) index
    → IsGrowing (unplaced_nodes old) (places_before new (index + 1))
next_marked old mid new index first n quantifier next node begun is marked =
    let places = places_before mid (index + 1) in
    next_lambda (unplaced_nodes old) (places_before old index) places (places_before new (index + 1)) (unplaced n) quantifier first node begun is
    (subst (λ (k : ℕ). IsMarked places (places_before new (index + 1)) (first_at places (k - 1)) k) (sym (size_of old index n next)) marked)

-- after the last node all places are there
pub all_before : (nodes : List SyntaxNode) (index : ℕ) → length nodes ≤ index → places_before nodes index ≡ places_of nodes
all_before nodes index past =
    let size = places_size nodes in
    take_all index (places_of nodes) (omega (arith, size, past))
