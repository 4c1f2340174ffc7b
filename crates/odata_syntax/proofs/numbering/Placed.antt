-- The places of a whole tree.
use Rattle.std.proofs.Common.{◌≡◌, ◌≢◌, refl, ap, sym, subst, ◌∙◌, ℕ, zero, suc, ◌+◌, ◌-◌, ◌<◌, ◌≤◌, List, [], ◌∷◌, length, drop, take, reverse, slice_get, Some, arith, inl, inr}
use Rattle.std.proofs.lemmas.Bool.{cases_lt}
use Rattle.std.proofs.lemmas.List.{take_all}
use Rattle.std.proofs.lemmas.Option.{slice_get_within}
use Rattle.odata_syntax.specs.declared.node_places.Place.{Place}
use Rattle.odata_syntax.specs.declared.syntax_list.SyntaxNode.{SyntaxNode}
use Rattle.odata_syntax.specs.Places.{AreBefore, ArePlaces, AreSideBySide, BeginsBody, IsPlaced, child_roots, first_at, first_over, lambda_at, nodes_before, number_at, older_roots, roots_back, stop_at}
use Rattle.odata_syntax.specs.PostOrder.{IsWholeTree, child_count, tree_count_back}
use Rattle.odata_syntax.specs.private.PlaceGrowth.{AreEven, AreTiles, HasRoom, IsGrowing, IsGrown, IsNumbered, begun_before}
use Rattle.odata_syntax.proofs.numbering.Tiles.{before_length, over_within, roots_length, seam_at, tiles_drop}
use Rattle.odata_syntax.proofs.numbering.Writes.{begun_rises}

-- A numbered tree.

-- where a tree begins by number, and where it stops
number_is : (old new : List Place) (k : ℕ) → IsNumbered old new → k < length old → first_at old k ≤ k → number_at new k + (k + 1) ≡ begun_before old (k + 1) + first_at old k
number_is old new k is inside order = omega (arith, is.stops k inside, is.firsts k, order)

over_same : (old new : List Place) → ((k : ℕ) → first_at new k ≡ first_at old k) → (to : ℕ) (roots : List ℕ) → first_over new to roots ≡ first_over old to roots
over_same old new firsts to [] = refl
over_same old new firsts to (root ∷ roots) = ap (λ (f : ℕ). first_over new f roots) (firsts root) ∙ over_same old new firsts (first_at old root) roots

side_by_side : (old new : List Place) (k from to value : ℕ) (roots : List ℕ) (count : ℕ) → IsNumbered old new → k < length old
    → AreTiles old to roots → AreEven old k (take count roots) → to ≤ k → count ≤ length roots
    → value + k ≡ begun_before old k + to → from + k ≡ begun_before old k + first_over old to (take count roots)
    → AreSideBySide new from value (take count roots)
side_by_side old new k from to value roots zero is inside tiles even within enough at begins = omega (arith, at, begins)
side_by_side old new k from to value [] (suc count) is inside tiles even within enough at begins = absurd (omega (arith, enough))
side_by_side old new k from to value (root ∷ roots) (suc count) is inside tiles even within enough at begins =
    let stop = is.stops root (omega (arith, tiles.0, within, inside)) in
    let number = number_is old new root is (omega (arith, tiles.0, within, inside)) tiles.1 in
    let here : stop_at new root ≡ value = stop ∙ omega (arith, even.0, tiles.0, at) in (
      here,
      side_by_side old new k from (first_at old root) (number_at new root) roots count is inside tiles.2 even.3 (omega (arith, tiles.0, tiles.1, within)) (omega (arith, enough))
          (omega (arith, number, even.0)) begins,
    )

before_value : (old new : List Place) → IsNumbered old new → ((k : ℕ) → k < length old → HasRoom old k) → (to value : ℕ) (roots : List ℕ) → to ≤ length old
    → AreTiles old to roots → begun_before old to ≤ value → AreBefore new value roots
before_value old new is rooms to value [] within tiles low = tt
before_value old new is rooms to value (root ∷ roots) within tiles low =
    let inside : root < length old = omega (arith, tiles.0, within) in
    let stop : stop_at new root ≡ begun_before old to = is.stops root inside ∙ ap (begun_before old) tiles.0 in
    let number = number_is old new root is inside tiles.1 in
    let room = (rooms root inside).room in (
      omega (arith, stop, low),
      before_value old new is rooms (first_at old root) (number_at new root) roots (omega (arith, tiles.1, inside)) tiles.2 (omega (arith, number, room)),
    )

children_placed : (old new : List Place) (n : SyntaxNode) (earlier : List SyntaxNode) → IsNumbered old new → IsGrown old n earlier → length earlier < length old
    → AreSideBySide new (number_at new (length earlier) + 1) (stop_at new (length earlier)) (child_roots n earlier)
children_placed old new n earlier is grown inside =
    let k = length earlier in
    let count = child_count n.kind n.count in
    let roots = roots_back earlier in
    let number = number_is old new k is inside grown.room.order in
    let stop = is.stops k inside in
    elim (cases_lt 0 count) [
      | inl some ↦ let none = (grown.none some).1 in
          side_by_side old new k (number_at new k + 1) k (stop_at new k) roots count is inside grown.tiles grown.even (omega arith) grown.enough
          (omega (arith, stop, none)) (omega (arith, number, none, grown.begins))
      | inr low ↦ let empty : 0 ≡ count = omega (arith, low) in
          let begins : first_at old k ≡ k = grown.begins ∙ ap (λ (c : ℕ). first_over old k (take c roots)) (sym empty) in
          subst (λ (c : ℕ). AreSideBySide new (number_at new k + 1) (stop_at new k) (take c roots)) empty (omega (arith, is.firsts k, begins))
    ]

placed_one : (old new : List Place) (n : SyntaxNode) (earlier : List SyntaxNode) → IsNumbered old new → ((k : ℕ) → k < length old → HasRoom old k)
    → begun_before old (length old) ≡ length old → IsGrown old n earlier → length earlier < length old
    → IsPlaced new n earlier
placed_one old new n earlier is rooms all grown inside =
    let k = length earlier in
    let count = child_count n.kind n.count in
    let roots = roots_back earlier in
    let number = number_is old new k is inside grown.room.order in
    let low : begun_before old (first_at old k) ≤ number_at new k = omega (arith, number, grown.room.room) in
    let tiles : AreTiles old (first_at old k) (drop count roots) = subst (λ (f : ℕ). AreTiles old f (drop count roots)) (sym grown.begins) (tiles_drop old k roots count grown.tiles grown.enough) in
    record {
      begins = is.firsts k ∙ grown.begins ∙ sym (over_same old new is.firsts k (child_roots n earlier));
      order = subst (λ (f : ℕ). f ≤ k) (sym (is.firsts k)) grown.room.order;
      children = children_placed old new n earlier is grown inside;
      older = before_value old new is rooms (first_at old k) (number_at new k) (drop count roots) (omega (arith, grown.room.order, inside)) tiles low;
      within = omega (arith, is.stops k inside, begun_rises old (k + 1) (length old) (omega (arith, inside)), all, is.size);
    }

-- The whole list.

-- there is a node at each index
pub record IsThere (nodes : List SyntaxNode) (index : ℕ) : Type 0 where
  pub found : SyntaxNode
  pub at : slice_get nodes index ≡ Some found

there : (nodes : List SyntaxNode) (index : ℕ) → index < length nodes → IsThere nodes index
there [] index inside = absurd (omega (arith, inside))
there (n ∷ nodes) zero inside = record { found = n; at = refl }
there (n ∷ nodes) (suc index) inside = let later = there nodes index (omega (arith, inside)) in record { found = later.found; at = later.at }

-- the last node is the root of all
pub record IsOneRoot (places : List Place) (to : ℕ) : Type 0 where
  pub some : 0 < to
  pub first : first_at places (to - 1) ≡ 0

one_root : (places : List Place) (to : ℕ) (roots : List ℕ) → AreTiles places to roots → length roots ≡ 1 → IsOneRoot places to
one_root places to [] tiles one = absurd (omega (arith, one))
one_root places to (root ∷ (more ∷ roots)) tiles one = absurd (omega (arith, one))
one_root places to (root ∷ []) tiles one =
    let last : to - 1 ≡ root = omega (arith, tiles.0) in
    record { some = omega (arith, tiles.0); first = ap (first_at places) last ∙ tiles.2 }

body_same : (nodes : List SyntaxNode) (old new : List Place) → ((k : ℕ) → first_at new k ≡ first_at old k) → (begin index : ℕ) → BeginsBody nodes old begin index → BeginsBody nodes new begin index
body_same nodes old new same begin index body = record {
  lambda = body.lambda;
  at = body.at;
  quantifier = body.quantifier;
  is_lambda = body.is_lambda;
  begins = same (index - 1) ∙ body.begins;
}

rooms_of : (nodes : List SyntaxNode) (old : List Place) → length old ≡ length nodes → IsGrowing nodes old → (k : ℕ) → k < length old → HasRoom old k
rooms_of nodes old full growing k inside =
    let is = there nodes k (omega (arith, full, inside)) in
    let size : length (nodes_before nodes k) ≡ k = before_length nodes k (omega (arith, full, inside)) in
    subst (λ (i : ℕ). HasRoom old i) size (growing.grown k is.found is.at inside).room

pub rooms_all : (nodes : List SyntaxNode) (old : List Place) → length old ≡ length nodes → IsGrowing nodes old → (k : ℕ) → k < length old → HasRoom old k
rooms_all = rooms_of

pub all_begun : (nodes : List SyntaxNode) (old : List Place) → IsGrowing nodes old → begun_before old (length old) ≡ length old
all_begun nodes old growing = (seam_at old (length old) (roots_back (nodes_before nodes (length old))) growing.seams).begun

nested_same : (nodes : List SyntaxNode) (old new : List Place) → length old ≡ length nodes → IsGrowing nodes old → ((k : ℕ) → first_at new k ≡ first_at old k)
    → (index inner : ℕ) → index < length nodes → inner ≤ index → first_at new index ≤ inner → first_at new index ≤ first_at new inner
nested_same nodes old new full growing firsts index inner inside to from =
    let is = there nodes index inside in
    let size : length (nodes_before nodes index) ≡ index = before_length nodes index (omega (arith, inside)) in
    let grown = growing.grown index is.found is.at (omega (arith, full, inside)) in
    let nested : (i : ℕ) → i ≤ index → first_at old index ≤ i → first_at old index ≤ first_at old i =
    subst (λ (k : ℕ). (i : ℕ) → i ≤ k → first_at old k ≤ i → first_at old k ≤ first_at old i) size grown.nested in
    let low = nested inner to (subst (λ (f : ℕ). f ≤ inner) (firsts index) from) in
    omega (arith, low, firsts index, firsts inner)

whole_root : (nodes : List SyntaxNode) (old : List Place) → IsWholeTree nodes → length old ≡ length nodes → IsGrowing nodes old → IsOneRoot old (length old)
whole_root nodes old whole full growing =
    let all : nodes_before nodes (length old) ≡ reverse nodes = ap (λ (ns : List SyntaxNode). reverse ns) (take_all (length old) nodes (omega (arith, full))) in
    let one : length (roots_back (nodes_before nodes (length old))) ≡ 1 = roots_length (nodes_before nodes (length old)) ∙ ap tree_count_back all ∙ whole.one in
    one_root old (length old) (roots_back (nodes_before nodes (length old))) growing.tiles one

pub places_numbered : (nodes : List SyntaxNode) (old new : List Place) → IsWholeTree nodes → length old ≡ length nodes → IsGrowing nodes old → IsNumbered old new → ArePlaces nodes new
places_numbered nodes old new whole full growing is =
    let rooms = rooms_of nodes old full growing in
    let all = all_begun nodes old growing in
    let root = whole_root nodes old whole full growing in
    let last : length nodes - 1 ≡ length old - 1 = omega (arith, full) in
    let inside : length old - 1 < length old = omega (arith, root.some) in
    let back : length old - 1 + 1 ≡ length old = omega (arith, root.some) in
    let stop : stop_at new (length old - 1) ≡ length nodes = is.stops (length old - 1) inside ∙ ap (begun_before old) back ∙ all ∙ full in
    let number : number_at new (length old - 1) ≡ 0 = omega (arith, stop, is.firsts (length old - 1), root.first, full, root.some) in
    record {
      beside = is.size ∙ full;
      placed = λ index n at.
          let within = slice_get_within nodes index n at in
          let size : length (nodes_before nodes index) ≡ index = before_length nodes index (omega (arith, within)) in
          placed_one old new n (nodes_before nodes index) is rooms all (growing.grown index n at (omega (arith, within, full))) (omega (arith, within, full, size));
      root = ap (number_at new) last ∙ number;
      whole = ap (stop_at new) last ∙ stop;
      nested = nested_same nodes old new full growing is.firsts;
      marked = λ begin some.
          let was = growing.marked begin (λ none. some (is.lambdas begin ∙ none)) in
          subst (λ (l : ℕ). BeginsBody nodes new begin l) (sym (is.lambdas begin)) (body_same nodes old new is.firsts begin (lambda_at old begin) was.1);
      marks = λ begin index body.
          let was = body_same nodes new old (λ k. sym (is.firsts k)) begin index body in
          is.lambdas begin ∙ growing.marks begin index (omega (arith, slice_get_within nodes index body.lambda body.at, full)) was;
    }
