-- Nodes that hold their places: what they are without them, and what is written of a place.
use Rattle.std.proofs.Common.{◌≡◌, refl, ap, sym, subst, ◌∙◌, ℕ, zero, suc, ◌+◌, ◌-◌, ◌<◌, ◌≤◌, List, [], ◌∷◌, ◌++◌, Some, drop, get_or, length, length-set, reverse, slice_get, slice_set, take, arith}
use Rattle.std.specs.Option.{option_map}
use Rattle.std.proofs.lemmas.List.{length-map, length-take-le, map-append, map-set, reverse-append, take-map, take_more_set}
use Rattle.std.proofs.lemmas.Option.{slice_get-map, slice_get_read}
use Rattle.std.proofs.Math.Seq.{map-set_same, take-set-lt}
use Rattle.odata_text.specs.declared.span.Span.{Span}
use Rattle.odata_syntax.specs.declared.node_places.Place.{Place}
use Rattle.odata_syntax.specs.declared.syntax_list.SyntaxKind.{SyntaxKind}
use Rattle.odata_syntax.specs.declared.syntax_list.SyntaxNode.{SyntaxNode}
use Rattle.odata_syntax.specs.Places.{AreBefore, ArePlaces, AreSideBySide, BeginsBody, IsPlaced, first_at, first_of, first_over, lambda_at, lambda_of, nodes_before, number_at, number_of, places_of, roots_back, stop_at}
use Rattle.odata_syntax.specs.PostOrder.{AreFedBack, IsWholeTree, Texts, child_count, last_tree, tree_count_back, trees_back, trees_in, trees_with}
use Rattle.odata_syntax.specs.TextTree.{AreTextRanges, HasText, IsTextRange, listed_tree, text_in}
use Rattle.odata_syntax.specs.private.PlaceGrowth.{IsBegun, IsMarked, begun_before, places_before, unplaced, unplaced_nodes}
use Rattle.odata_syntax.proofs.numbering.Writes.{IsRead, is_begun, is_marked, number_within}

-- Nodes without their positions.

unplaced_reverse : (nodes : List SyntaxNode) → reverse (unplaced_nodes nodes) ≡ unplaced_nodes (reverse nodes)
unplaced_reverse [] = refl
unplaced_reverse (n ∷ nodes) =
    reverse-append (unplaced n ∷ []) (unplaced_nodes nodes)
    ∙ ap (λ (ns : List SyntaxNode). ns ++ unplaced n ∷ []) (unplaced_reverse nodes)
    ∙ sym (map-append unplaced (reverse nodes) (n ∷ []))
    ∙ ap unplaced_nodes (sym (reverse-append (n ∷ []) nodes))

unplaced_before : (nodes : List SyntaxNode) (index : ℕ) → nodes_before (unplaced_nodes nodes) index ≡ unplaced_nodes (nodes_before nodes index)
unplaced_before nodes index = ap (λ (ns : List SyntaxNode). reverse ns) (take-map unplaced index nodes) ∙ unplaced_reverse (take index nodes)

pub unplaced_length : (nodes : List SyntaxNode) → length (unplaced_nodes nodes) ≡ length nodes
unplaced_length nodes = length-map nodes unplaced

-- they are the same trees
trees_unplaced : (texts : Texts) (back : List SyntaxNode) → trees_back texts (unplaced_nodes back) ≡ trees_back texts back
trees_unplaced texts [] = refl
trees_unplaced texts (n ∷ earlier) = ap (trees_with texts n) (trees_unplaced texts earlier)

count_unplaced : (back : List SyntaxNode) → tree_count_back (unplaced_nodes back) ≡ tree_count_back back
count_unplaced [] = refl
count_unplaced (n ∷ earlier) = ap (λ (k : ℕ). k - child_count n.kind n.count + 1) (count_unplaced earlier)

fed_unplaced : (back : List SyntaxNode) → AreFedBack back → AreFedBack (unplaced_nodes back)
fed_unplaced [] fed = tt
fed_unplaced (n ∷ earlier) fed = (subst (λ (k : ℕ). child_count n.kind n.count ≤ k) (sym (count_unplaced earlier)) fed.0, fed_unplaced earlier fed.1)

fed_whole : (back : List SyntaxNode) → AreFedBack (unplaced_nodes back) → AreFedBack back
fed_whole [] fed = tt
fed_whole (n ∷ earlier) fed = (subst (λ (k : ℕ). child_count n.kind n.count ≤ k) (count_unplaced earlier) fed.0, fed_whole earlier fed.1)

pub whole_unplaced : (nodes : List SyntaxNode) → IsWholeTree nodes → IsWholeTree (unplaced_nodes nodes)
whole_unplaced nodes whole = record {
  fed = subst (λ (ns : List SyntaxNode). AreFedBack ns) (sym (unplaced_reverse nodes)) (fed_unplaced (reverse nodes) whole.fed);
  one = ap tree_count_back (unplaced_reverse nodes) ∙ count_unplaced (reverse nodes) ∙ whole.one;
}

pub whole_of_unplaced : (nodes : List SyntaxNode) → IsWholeTree (unplaced_nodes nodes) → IsWholeTree nodes
whole_of_unplaced nodes whole = record {
  fed = fed_whole (reverse nodes) (subst (λ (ns : List SyntaxNode). AreFedBack ns) (unplaced_reverse nodes) whole.fed);
  one = sym (count_unplaced (reverse nodes)) ∙ ap tree_count_back (sym (unplaced_reverse nodes)) ∙ whole.one;
}

trees_in_unplaced : (texts : Texts) (nodes : List SyntaxNode) → trees_in texts (unplaced_nodes nodes) ≡ trees_in texts nodes
trees_in_unplaced texts nodes = ap (trees_back texts) (unplaced_reverse nodes) ∙ trees_unplaced texts (reverse nodes)

-- a node that is found without its place
record IsFound (nodes : List SyntaxNode) (index : ℕ) (n : SyntaxNode) : Type 0 where
  found : SyntaxNode
  at : slice_get nodes index ≡ Some found
  same : unplaced found ≡ n

some_node : (m n : SyntaxNode) → Some m ≡ Some n → m ≡ n
some_node m n is = cc

found_unplaced : (nodes : List SyntaxNode) (index : ℕ) (n : SyntaxNode) → slice_get (unplaced_nodes nodes) index ≡ Some n → IsFound nodes index n
found_unplaced [] index n at = absurd (cc)
found_unplaced (m ∷ nodes) zero n at = record { found = m; at = refl; same = some_node (unplaced m) n at }
found_unplaced (m ∷ nodes) (suc index) n at = let later = found_unplaced nodes index n at in record { found = later.found; at = later.at; same = later.same }

pub unplaced_at : (nodes : List SyntaxNode) (index : ℕ) (n : SyntaxNode) → slice_get nodes index ≡ Some n → slice_get (unplaced_nodes nodes) index ≡ Some (unplaced n)
unplaced_at nodes index n at = slice_get-map unplaced nodes index ∙ ap (option_map unplaced) at

-- What does not change where places alone do.

pub whole_still : (old new : List SyntaxNode) → unplaced_nodes new ≡ unplaced_nodes old → IsWholeTree old → IsWholeTree new
whole_still old new same whole = whole_of_unplaced new (subst (λ (ns : List SyntaxNode). IsWholeTree ns) (sym same) (whole_unplaced old whole))

pub size_still : (old new : List SyntaxNode) → unplaced_nodes new ≡ unplaced_nodes old → length new ≡ length old
size_still old new same = sym (unplaced_length new) ∙ ap (λ (ns : List SyntaxNode). length ns) same ∙ unplaced_length old

pub tree_still : (text : List ℕ) (old new : List SyntaxNode) → unplaced_nodes new ≡ unplaced_nodes old → listed_tree text new ≡ listed_tree text old
tree_still text old new same =
    ap last_tree (sym (trees_in_unplaced (text_in text) new) ∙ ap (λ (ns : List SyntaxNode). trees_in (text_in text) ns) same ∙ trees_in_unplaced (text_in text) old)

pub ranges_still : (text : List ℕ) (old new : List SyntaxNode) → unplaced_nodes new ≡ unplaced_nodes old → AreTextRanges text old → AreTextRanges text new
ranges_still text old new same ranges = λ index n at has.
    let was = found_unplaced old index (unplaced n) (ap (λ (ns : List SyntaxNode). slice_get ns index) (sym same) ∙ unplaced_at new index n at) in
    let kind : was.found.kind ≡ n.kind = ap (λ (m : SyntaxNode). m.kind) was.same in
    let range : was.found.text ≡ n.text = ap (λ (m : SyntaxNode). m.text) was.same in
    subst (λ (r : Span). IsTextRange text r) range (ranges index was.found was.at (subst (λ (k : SyntaxKind). HasText k) (sym kind) has))

-- Places of nodes without theirs.

roots_unplaced : (back : List SyntaxNode) → roots_back (unplaced_nodes back) ≡ roots_back back
roots_unplaced [] = refl
roots_unplaced (n ∷ earlier) =
    ap (λ (k : ℕ). k ∷ drop (child_count n.kind n.count) (roots_back (unplaced_nodes earlier))) (unplaced_length earlier)
    ∙ ap (λ (roots : List ℕ). length earlier ∷ drop (child_count n.kind n.count) roots) (roots_unplaced earlier)

placed_unplaced : (places : List Place) (n : SyntaxNode) (earlier : List SyntaxNode) → IsPlaced places (unplaced n) (unplaced_nodes earlier) → IsPlaced places n earlier
placed_unplaced places n earlier is =
    let size = unplaced_length earlier in
    let roots = roots_unplaced earlier in
    let k = length (unplaced_nodes earlier) in
    let count = child_count n.kind n.count in
    record {
      begins = subst (λ (i : ℕ). first_at places i ≡ first_over places i (take count (roots_back earlier))) size
          (subst (λ (rs : List ℕ). first_at places k ≡ first_over places k (take count rs)) roots is.begins);
      order = subst (λ (i : ℕ). first_at places i ≤ i) size is.order;
      children = subst (λ (i : ℕ). AreSideBySide places (number_at places i + 1) (stop_at places i) (take count (roots_back earlier))) size
          (subst (λ (rs : List ℕ). AreSideBySide places (number_at places k + 1) (stop_at places k) (take count rs)) roots is.children);
      older = subst (λ (i : ℕ). AreBefore places (number_at places i) (drop count (roots_back earlier))) size
          (subst (λ (rs : List ℕ). AreBefore places (number_at places k) (drop count rs)) roots is.older);
      within = subst (λ (i : ℕ). stop_at places i ≤ length places) size is.within;
    }

body_unplaced : (nodes : List SyntaxNode) (places : List Place) (begin index : ℕ) → BeginsBody (unplaced_nodes nodes) places begin index → BeginsBody nodes places begin index
body_unplaced nodes places begin index body =
    let was = found_unplaced nodes index body.lambda body.at in
    record {
      lambda = was.found;
      at = was.at;
      quantifier = body.quantifier;
      is_lambda = ap (λ (m : SyntaxNode). m.kind) was.same ∙ body.is_lambda;
      begins = body.begins;
    }

unplaced_body : (nodes : List SyntaxNode) (places : List Place) (begin index : ℕ) → BeginsBody nodes places begin index → BeginsBody (unplaced_nodes nodes) places begin index
unplaced_body nodes places begin index body = record {
  lambda = unplaced body.lambda;
  at = unplaced_at nodes index body.lambda body.at;
  quantifier = body.quantifier;
  is_lambda = body.is_lambda;
  begins = body.begins;
}

pub places_unplaced : (nodes : List SyntaxNode) (places : List Place) → ArePlaces (unplaced_nodes nodes) places → ArePlaces nodes places
places_unplaced nodes places are =
    let size = unplaced_length nodes in
    record {
      beside = are.beside ∙ size;
      placed = λ index n at.
          placed_unplaced places n (nodes_before nodes index)
          (subst (λ (earlier : List SyntaxNode). IsPlaced places (unplaced n) earlier) (unplaced_before nodes index) (are.placed index (unplaced n) (unplaced_at nodes index n at)));
      root = subst (λ (k : ℕ). number_at places (k - 1) ≡ 0) size are.root;
      whole = subst (λ (k : ℕ). stop_at places (k - 1) ≡ k) size are.whole;
      nested = λ index inner inside. are.nested index inner (subst (λ (k : ℕ). index < k) (sym size) inside);
      marked = λ begin some. body_unplaced nodes places begin (lambda_at places begin) (are.marked begin some);
      marks = λ begin index body. are.marks begin index (unplaced_body nodes places begin index body);
    }

-- A place that is read.

slice_take : (places : List Place) (until k : ℕ) → k < until → slice_get (take until places) k ≡ slice_get places k
slice_take places zero k before = absurd (omega (arith, before))
slice_take [] (suc until) k before = refl
slice_take (p ∷ places) (suc until) zero before = refl
slice_take (p ∷ places) (suc until) (suc k) before = slice_take places until k (omega (arith, before))

pub node_at : (nodes : List SyntaxNode) (k : ℕ) (n : SyntaxNode) → k < length nodes → n ≡ get_or nodes k n → slice_get nodes k ≡ Some n
node_at nodes k n inside is = slice_get_read nodes (length nodes) k n refl inside is

place_at : (nodes : List SyntaxNode) (k : ℕ) (n : SyntaxNode) → k < length nodes → n ≡ get_or nodes k n → slice_get (places_of nodes) k ≡ Some n.place
place_at nodes k n inside is = slice_get-map (λ (m : SyntaxNode). m.place) nodes k ∙ ap (option_map (λ (m : SyntaxNode). m.place)) (node_at nodes k n inside is)

read_of : (places : List Place) (k : ℕ) (p : Place) → slice_get places k ≡ Some p → IsRead places k p
read_of places k p at = record { number = sym (ap number_of at); first = sym (ap first_of at); lambda = sym (ap lambda_of at) }

pub node_read : (nodes : List SyntaxNode) (k : ℕ) (n : SyntaxNode) → k < length nodes → n ≡ get_or nodes k n → IsRead (places_of nodes) k n.place
node_read nodes k n inside is = read_of (places_of nodes) k n.place (place_at nodes k n inside is)

pub node_read_before : (nodes : List SyntaxNode) (until k : ℕ) (n : SyntaxNode) → k < until → k < length nodes → n ≡ get_or nodes k n → IsRead (places_before nodes until) k n.place
node_read_before nodes until k n before inside is =
    read_of (places_before nodes until) k n.place (slice_take (places_of nodes) until k before ∙ place_at nodes k n inside is)

pub places_size : (nodes : List SyntaxNode) → length (places_of nodes) ≡ length nodes
places_size nodes = length-map nodes (λ (m : SyntaxNode). m.place)

pub before_size : (nodes : List SyntaxNode) (until : ℕ) → until ≤ length nodes → length (places_before nodes until) ≡ until
before_size nodes until within =
    let size = places_size nodes in
    length-take-le until (places_of nodes) (omega (arith, size, within))

-- A place that is written.

-- the node with another place
abbrev pub with_place : SyntaxNode → Place → SyntaxNode
with_place n p = record n { place = p }

pub places_set : (nodes : List SyntaxNode) (k : ℕ) (n : SyntaxNode) (p : Place) → places_of (slice_set nodes k (with_place n p)) ≡ slice_set (places_of nodes) k p
places_set nodes k n p = map-set (λ (m : SyntaxNode). m.place) nodes k (with_place n p)

pub unplaced_set : (nodes : List SyntaxNode) (k : ℕ) (n : SyntaxNode) (p : Place) → n ≡ get_or nodes k n → unplaced_nodes (slice_set nodes k (with_place n p)) ≡ unplaced_nodes nodes
unplaced_set nodes k n p is = map-set_same unplaced nodes k (with_place n p) n (ap unplaced is)

-- the places before an index, with the place of the node there
put_before : (nodes : List SyntaxNode) (index : ℕ) (n : SyntaxNode) (p : Place) → index < length nodes
    → places_before (slice_set nodes index (with_place n p)) (index + 1) ≡ places_before nodes index ++ p ∷ []
put_before nodes index n p inside =
    let size = places_size nodes in
    ap (take (index + 1)) (places_set nodes index n p) ∙ take_more_set (places_of nodes) index p (omega (arith, size, inside))

-- the places before an index, with another place of one of those nodes
set_before : (nodes : List SyntaxNode) (until k : ℕ) (n : SyntaxNode) (p : Place) → k < until
    → places_before (slice_set nodes k (with_place n p)) until ≡ slice_set (places_before nodes until) k p
set_before nodes until k n p before = ap (take until) (places_set nodes k n p) ∙ take-set-lt until (places_of nodes) k p before

-- one more tree begins
pub begun_fits : (nodes : List SyntaxNode) (index first : ℕ) (n m : SyntaxNode) (p : Place) → index < length nodes → first ≤ index → p.number ≡ 0
    → m ≡ get_or (slice_set nodes index (with_place n p)) first m → begun_before (places_before nodes index) index ≤ index
    → m.place.number ≤ index
begun_fits nodes index first n m p inside order none is few =
    let mid = slice_set nodes index (with_place n p) in
    let within : first < length mid = omega (arith, length-set nodes index (with_place n p), inside, order) in
    let read = node_read_before mid (index + 1) first m (omega (arith, order)) within is in
    let number = number_within (places_before nodes index) (places_before mid (index + 1)) p first (put_before nodes index n p inside) none in
    let size = before_size nodes index (omega (arith, inside)) in
    let most : begun_before (places_before nodes index) (length (places_before nodes index)) ≤ index =
    subst (λ (k : ℕ). begun_before (places_before nodes index) k ≤ index) (sym size) few in
    omega (arith, read.number, number, most)

pub begun_nodes : (nodes : List SyntaxNode) (index first : ℕ) (n m : SyntaxNode) (p more : Place) → index < length nodes → first ≤ index
    → p.number ≡ 0 → p.first ≡ first → p.lambda ≡ 0 → m ≡ get_or (slice_set nodes index (with_place n p)) first m
    → more.number ≡ m.place.number + 1 → more.first ≡ m.place.first → more.lambda ≡ m.place.lambda
    → IsBegun (places_before nodes index) (places_before (slice_set (slice_set nodes index (with_place n p)) first (with_place m more)) (index + 1)) first
begun_nodes nodes index first n m p more inside order none own plain is one same_first same_lambda =
    let mid = slice_set nodes index (with_place n p) in
    let old = places_before nodes index in
    let within : first < length mid = omega (arith, length-set nodes index (with_place n p), inside, order) in
    let read = node_read_before mid (index + 1) first m (omega (arith, order)) within is in
    let put : places_before mid (index + 1) ≡ old ++ p ∷ [] = put_before nodes index n p inside in
    let size = before_size nodes index (omega (arith, inside)) in
    let number : more.number ≡ number_at (old ++ p ∷ []) first + 1 = one ∙ ap (λ (k : ℕ). k + 1) read.number ∙ ap (λ (ps : List Place). number_at ps first + 1) put in
    let begins : more.first ≡ first_at (old ++ p ∷ []) first = same_first ∙ read.first ∙ ap (λ (ps : List Place). first_at ps first) put in
    let lambda : more.lambda ≡ lambda_at (old ++ p ∷ []) first = same_lambda ∙ read.lambda ∙ ap (λ (ps : List Place). lambda_at ps first) put in
    let here : places_before (slice_set mid first (with_place m more)) (index + 1) ≡ slice_set (old ++ p ∷ []) first more =
    set_before mid (index + 1) first m more (omega (arith, order)) ∙ ap (λ (ps : List Place). slice_set ps first more) put in
    subst (λ (ps : List Place). IsBegun old ps first) (sym here) (is_begun old first p more (omega (arith, size, order)) none own plain number begins lambda)

pub unplaced_begun : (nodes : List SyntaxNode) (index first : ℕ) (n m : SyntaxNode) (p more : Place) → n ≡ get_or nodes index n → m ≡ get_or (slice_set nodes index (with_place n p)) first m
    → unplaced_nodes (slice_set (slice_set nodes index (with_place n p)) first (with_place m more)) ≡ unplaced_nodes nodes
unplaced_begun nodes index first n m p more at is = unplaced_set (slice_set nodes index (with_place n p)) first m more is ∙ unplaced_set nodes index n p at

-- a body is marked
pub marked_nodes : (nodes : List SyntaxNode) (until begin index : ℕ) (n : SyntaxNode) (mark : Place) → begin < until → until ≤ length nodes → n ≡ get_or nodes begin n
    → mark.number ≡ n.place.number → mark.first ≡ n.place.first → mark.lambda ≡ index
    → IsMarked (places_before nodes until) (places_before (slice_set nodes begin (with_place n mark)) until) begin index
marked_nodes nodes until begin index n mark before within is same_number same_first own =
    let size = before_size nodes until within in
    let read = node_read_before nodes until begin n before (omega (arith, before, within)) is in
    subst (λ (ps : List Place). IsMarked (places_before nodes until) ps begin index) (sym (set_before nodes until begin n mark before))
    (is_marked (places_before nodes until) begin index mark (omega (arith, size, before)) (same_number ∙ read.number) (same_first ∙ read.first) own)
