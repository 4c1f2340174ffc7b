-- Trees side by side in a list of places.
use Rattle.std.proofs.Common.{◌≡◌, refl, ap, sym, subst, ◌∙◌, ℕ, zero, suc, ◌+◌, ◌-◌, ◌<◌, ◌≤◌, List, [], ◌∷◌, ◌++◌, length, length-drop, drop, take, get_or, reverse, slice_get, Some, arith}
use Rattle.std.proofs.lemmas.List.{length-reverse, length-take-le, reverse-append, take_more}
use Rattle.std.proofs.lemmas.Option.{get_or_from_slice_get, slice_get_within}
use Rattle.odata_syntax.specs.declared.node_places.Place.{Place}
use Rattle.odata_syntax.specs.declared.syntax_list.SyntaxNode.{SyntaxNode}
use Rattle.odata_syntax.specs.Places.{first_at, first_over, nodes_before, roots_back}
use Rattle.odata_syntax.specs.PostOrder.{AreFed, child_count, tree_count_back}
use Rattle.odata_syntax.specs.private.PlaceGrowth.{AreSeams, AreTiles, IsSeam}
use Rattle.odata_syntax.proofs.lists.Counts.{fewer_trees}
use Rattle.odata_syntax.proofs.lists.Fronts.{next_fed}

-- Roots and nodes.

pub roots_length : (back : List SyntaxNode) → length (roots_back back) ≡ tree_count_back back
roots_length [] = refl
roots_length (n ∷ earlier) =
    let before = roots_length earlier in
    let left = length-drop (child_count n.kind n.count) (roots_back earlier) in
    omega (arith, before, left)

pub before_length : (nodes : List SyntaxNode) (k : ℕ) → k ≤ length nodes → length (nodes_before nodes k) ≡ k
before_length nodes k within = length-reverse (take k nodes) ∙ length-take-le k nodes within

pub before_more : (nodes : List SyntaxNode) (k : ℕ) (n : SyntaxNode) → slice_get nodes k ≡ Some n → nodes_before nodes (k + 1) ≡ n ∷ nodes_before nodes k
before_more nodes k n at =
    let within = slice_get_within nodes k n at in
    let same : get_or nodes k n ≡ n = get_or_from_slice_get nodes k n n at in
    ap (λ (ns : List SyntaxNode). reverse ns) (take_more nodes k n within)
    ∙ reverse-append (take k nodes) (get_or nodes k n ∷ [])
    ∙ ap (λ (m : SyntaxNode). m ∷ reverse (take k nodes)) same

-- the next node has its children before it
pub enough_roots : (nodes : List SyntaxNode) (k : ℕ) (n : SyntaxNode) → AreFed nodes → slice_get nodes k ≡ Some n → child_count n.kind n.count ≤ length (roots_back (nodes_before nodes k))
enough_roots nodes k n fed at =
    let within = slice_get_within nodes k n at in
    let same : get_or nodes k n ≡ n = get_or_from_slice_get nodes k n n at in
    let next = next_fed nodes k n fed within in
    let enough : child_count n.kind n.count ≤ tree_count_back (nodes_before nodes k) = subst (λ (m : SyntaxNode). child_count m.kind m.count ≤ tree_count_back (nodes_before nodes k)) same next in
    let size = roots_length (nodes_before nodes k) in
    omega (arith, enough, size)

-- a node has fewer children than there are nodes before it
pub child_fits : (nodes : List SyntaxNode) (k : ℕ) (d : SyntaxNode) → AreFed nodes → k < length nodes → child_count (get_or nodes k d).kind (get_or nodes k d).count ≤ k
child_fits nodes k d fed inside =
    let next = next_fed nodes k d fed inside in
    let fewer = fewer_trees (take k nodes) in
    let size = length-take-le k nodes (omega (arith, inside)) in
    omega (arith, next, fewer, size)

-- Tiles.

-- the first of some trees begins no later than they stop
pub over_within : (places : List Place) (to : ℕ) (roots : List ℕ) (count : ℕ) → AreTiles places to roots → first_over places to (take count roots) ≤ to
over_within places to roots zero tiles = omega arith
over_within places to [] (suc count) tiles = omega arith
over_within places to (root ∷ roots) (suc count) tiles =
    let later = over_within places (first_at places root) roots count tiles.2 in
    omega (arith, later, tiles.0, tiles.1)

pub tiles_drop : (places : List Place) (to : ℕ) (roots : List ℕ) (count : ℕ) → AreTiles places to roots → count ≤ length roots
    → AreTiles places (first_over places to (take count roots)) (drop count roots)
tiles_drop places to roots zero tiles enough = tiles
tiles_drop places to [] (suc count) tiles enough = absurd (omega arith)
tiles_drop places to (root ∷ roots) (suc count) tiles enough = tiles_drop places (first_at places root) roots count tiles.2 (omega arith)

pub seam_at : (places : List Place) (to : ℕ) (roots : List ℕ) → AreSeams places to roots → IsSeam places to
seam_at places to [] seams = seams
seam_at places to (root ∷ roots) seams = seams.0

pub seams_drop : (places : List Place) (to : ℕ) (roots : List ℕ) (count : ℕ) → AreSeams places to roots → count ≤ length roots
    → AreSeams places (first_over places to (take count roots)) (drop count roots)
seams_drop places to roots zero seams enough = seams
seams_drop places to [] (suc count) seams enough = absurd (omega arith)
seams_drop places to (root ∷ roots) (suc count) seams enough = seams_drop places (first_at places root) roots count seams.1 (omega arith)

-- one tree further back
pub record IsOverMore (places : List Place) (first next : ℕ) : Type 0 where
  pub some : 0 < first
  pub further : next ≡ first_at places (first - 1)

over_suc : (places : List Place) (to : ℕ) (roots : List ℕ) (k : ℕ) → AreTiles places to roots → k < length roots
    → IsOverMore places (first_over places to (take k roots)) (first_over places to (take (suc k) roots))
over_suc places to [] k tiles more = absurd (omega (arith, more))
over_suc places to (root ∷ roots) zero tiles more =
    let last : root ≡ to - 1 = omega (arith, tiles.0) in
    record { some = omega (arith, tiles.0); further = ap (first_at places) last }
over_suc places to (root ∷ roots) (suc k) tiles more = over_suc places (first_at places root) roots k tiles.2 (omega (arith, more))

pub over_more : (places : List Place) (to : ℕ) (roots : List ℕ) (k : ℕ) → AreTiles places to roots → k < length roots
    → IsOverMore places (first_over places to (take k roots)) (first_over places to (take (k + 1) roots))
over_more places to roots k tiles more =
    let next : suc k ≡ k + 1 = omega arith in
    subst (λ (i : ℕ). IsOverMore places (first_over places to (take k roots)) (first_over places to (take i roots))) next (over_suc places to roots k tiles more)
