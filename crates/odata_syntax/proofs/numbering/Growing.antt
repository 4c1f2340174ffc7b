-- The places of the nodes so far, with one node more.
use Rattle.std.proofs.Common.{◌≡◌, ◌≢◌, refl, ap, sym, subst, ◌∙◌, ℕ, ◌+◌, ◌-◌, ◌<◌, ◌≤◌, List, [], ◌∷◌, length, slice_get, take, Some, arith, inl, inr}
use Rattle.std.proofs.lemmas.Bool.{cases_eq, cases_lt}
use Rattle.std.proofs.lemmas.Option.{slice_get_within}
use Rattle.odata_syntax.specs.declared.node.Quantifier.{Quantifier}
use Rattle.odata_syntax.specs.declared.node_places.Place.{Place}
use Rattle.odata_syntax.specs.declared.syntax_list.SyntaxKind.{SyntaxKind}
use Rattle.odata_syntax.specs.declared.syntax_list.SyntaxNode.{SyntaxNode}
use Rattle.odata_syntax.specs.Places.{BeginsBody, child_roots, first_at, first_over, lambda_at, nodes_before, roots_back}
use Rattle.odata_syntax.specs.PostOrder.{IsWholeTree, child_count}
use Rattle.odata_syntax.specs.private.PlaceGrowth.{AreSeams, AreTiles, IsBegun, IsGrowing, IsGrown, IsMarked, IsSeam}
use Rattle.odata_syntax.proofs.numbering.Growth.{IsCounted, IsNext, grown_new, grown_stays, seam_next, seams_new, tiles_new}
use Rattle.odata_syntax.proofs.numbering.Tiles.{before_length, before_more, enough_roots, seam_at}

-- the next node, and the places with it
pub record IsGrowth (nodes : List SyntaxNode) (old new : List Place) (n : SyntaxNode) : Type 0 where
  pub whole : IsWholeTree nodes
  pub growing : IsGrowing nodes old
  pub at : slice_get nodes (length old) ≡ Some n
  pub more : IsCounted old new (first_over old (length old) (child_roots n (nodes_before nodes (length old))))

is_next : (nodes : List SyntaxNode) (old new : List Place) (n : SyntaxNode) → IsGrowth nodes old new n → IsNext old new n (nodes_before nodes (length old))
is_next nodes old new n is =
    let within = slice_get_within nodes (length old) n is.at in
    let at : length (nodes_before nodes (length old)) ≡ length old = before_length nodes (length old) (omega (arith, within)) in
    record {
      at = at;
      tiles = subst (λ (k : ℕ). AreTiles old k (roots_back (nodes_before nodes (length old)))) (sym at) is.growing.tiles;
      seams = subst (λ (k : ℕ). AreSeams old k (roots_back (nodes_before nodes (length old)))) (sym at) is.growing.seams;
      enough = enough_roots nodes (length old) n is.whole.fed is.at;
      more = subst (λ (k : ℕ). IsCounted old new (first_over old k (child_roots n (nodes_before nodes (length old))))) (sym at) is.more;
    }

-- the trees with the new one
tiles_more : (nodes : List SyntaxNode) (old new : List Place) (n : SyntaxNode) → IsGrowth nodes old new n
    → AreTiles new (length new) (roots_back (nodes_before nodes (length new)))
tiles_more nodes old new n is =
    let next = is_next nodes old new n is in
    let size : length (nodes_before nodes (length old)) + 1 ≡ length new = omega (arith, next.at, is.more.size) in
    let before : nodes_before nodes (length new) ≡ n ∷ nodes_before nodes (length old) = ap (nodes_before nodes) is.more.size ∙ before_more nodes (length old) n is.at in
    subst (λ (back : List SyntaxNode). AreTiles new (length new) (roots_back back)) (sym before)
    (subst (λ (k : ℕ). AreTiles new k (roots_back (n ∷ nodes_before nodes (length old)))) size (tiles_new old new n (nodes_before nodes (length old)) next))

seams_more : (nodes : List SyntaxNode) (old new : List Place) (n : SyntaxNode) → IsGrowth nodes old new n
    → AreSeams new (length new) (roots_back (nodes_before nodes (length new)))
seams_more nodes old new n is =
    let next = is_next nodes old new n is in
    let size : length (nodes_before nodes (length old)) + 1 ≡ length new = omega (arith, next.at, is.more.size) in
    let before : nodes_before nodes (length new) ≡ n ∷ nodes_before nodes (length old) = ap (nodes_before nodes) is.more.size ∙ before_more nodes (length old) n is.at in
    subst (λ (back : List SyntaxNode). AreSeams new (length new) (roots_back back)) (sym before)
    (subst (λ (k : ℕ). AreSeams new k (roots_back (n ∷ nodes_before nodes (length old)))) size (seams_new old new n (nodes_before nodes (length old)) next))

-- each node's tree
grown_more : (nodes : List SyntaxNode) (old new : List Place) (n : SyntaxNode) → IsGrowth nodes old new n
    → (index : ℕ) (m : SyntaxNode) → slice_get nodes index ≡ Some m → index < length new → IsGrown new m (nodes_before nodes index)
grown_more nodes old new n is index m at inside = elim (cases_lt index (length old)) [
  | inl before ↦ let next = is_next nodes old new n is in
      let seam : IsSeam old (first_over old (length old) (child_roots n (nodes_before nodes (length old)))) =
      subst (λ (k : ℕ). IsSeam old (first_over old k (child_roots n (nodes_before nodes (length old))))) next.at (seam_next old new n (nodes_before nodes (length old)) next) in
      let within = slice_get_within nodes index m at in
      let size : length (nodes_before nodes index) ≡ index = before_length nodes index (omega (arith, within)) in
      grown_stays old new (first_over old (length old) (child_roots n (nodes_before nodes (length old)))) is.more seam m (nodes_before nodes index)
      (subst (λ (k : ℕ). k < length old) (sym size) before) (is.growing.grown index m at before)
  | inr last ↦ let here : index ≡ length old = omega (arith, last, inside, is.more.size) in
      let same : Some m ≡ Some n = sym at ∙ ap (slice_get nodes) here ∙ is.at in
      let same_node : m ≡ n = cc in
      subst (λ (i : ℕ). IsGrown new m (nodes_before nodes i)) (sym here)
      (subst (λ (p : SyntaxNode). IsGrown new p (nodes_before nodes (length old))) (sym same_node) (grown_new old new n (nodes_before nodes (length old)) (is_next nodes old new n is)))
]

-- Marks.

-- a lambda expression is a node with an index above 0
lambda_later : (nodes : List SyntaxNode) (k : ℕ) (n : SyntaxNode) (quantifier : Quantifier) → IsWholeTree nodes → slice_get nodes k ≡ Some n → n.kind ≡ SyntaxKind.Lambda quantifier
    → 2 ≤ length (roots_back (nodes_before nodes k))
lambda_later nodes k n quantifier whole at is =
    let enough = enough_roots nodes k n whole.fed at in
    let two : child_count n.kind n.count ≡ 2 = ap (λ (kind : SyntaxKind). child_count kind n.count) is in
    omega (arith, enough, two)

-- the tree of a lambda expression begins before its body does, which lies directly before it
pub record IsBodyLater (places : List Place) (to first : ℕ) : Type 0 where
  pub some : 0 < to
  pub later : first < first_at places (to - 1)
  pub order : first_at places (to - 1) < to

body_later : (places : List Place) (to : ℕ) (roots : List ℕ) → AreTiles places to roots → 2 ≤ length roots
    → IsBodyLater places to (first_over places to (take 2 roots))
body_later places to [] tiles two = absurd (omega (arith, two))
body_later places to (body ∷ []) tiles two = absurd (omega (arith, two))
body_later places to (body ∷ (base ∷ roots)) tiles two =
    let last : to - 1 ≡ body = omega (arith, tiles.0) in
    let before : first_at places base < first_at places body = omega (arith, tiles.2.0, tiles.2.1) in
    record {
      some = omega (arith, tiles.0);
      later = subst (λ (k : ℕ). first_at places base < first_at places k) (sym last) before;
      order = subst (λ (k : ℕ). first_at places k < to) (sym last) (omega (arith, tiles.0, tiles.1));
    }

body_seam : (places : List Place) (to : ℕ) (roots : List ℕ) → AreTiles places to roots → AreSeams places to roots → 2 ≤ length roots → IsSeam places (first_at places (to - 1))
body_seam places to [] tiles seams two = absurd (omega (arith, two))
body_seam places to (body ∷ roots) tiles seams two =
    let last : to - 1 ≡ body = omega (arith, tiles.0) in
    subst (λ (k : ℕ). IsSeam places (first_at places k)) (sym last) (seam_at places (first_at places body) roots seams.1)

-- so of a lambda expression among the nodes so far
pub lambda_body : (nodes : List SyntaxNode) (places : List Place) (index : ℕ) (n : SyntaxNode) (quantifier : Quantifier) → IsWholeTree nodes → slice_get nodes index ≡ Some n
    → n.kind ≡ SyntaxKind.Lambda quantifier → IsGrown places n (nodes_before nodes index) → IsBodyLater places index (first_at places index)
lambda_body nodes places index n quantifier whole at is grown =
    let within = slice_get_within nodes index n at in
    let size : length (nodes_before nodes index) ≡ index = before_length nodes index (omega (arith, within)) in
    let roots = roots_back (nodes_before nodes index) in
    let two : child_count n.kind n.count ≡ 2 = ap (λ (kind : SyntaxKind). child_count kind n.count) is in
    let tiles : AreTiles places index roots = subst (λ (k : ℕ). AreTiles places k roots) size grown.tiles in
    let begins : first_at places index ≡ first_over places index (take (child_count n.kind n.count) roots) =
    subst (λ (k : ℕ). first_at places k ≡ first_over places k (take (child_count n.kind n.count) roots)) size grown.begins in
    let first : first_at places index ≡ first_over places index (take 2 roots) = begins ∙ ap (λ (c : ℕ). first_over places index (take c roots)) two in
    subst (λ (f : ℕ). IsBodyLater places index f) (sym first) (body_later places index roots tiles (lambda_later nodes index n quantifier whole at is))

-- which bodies begin where, by places that are the same so far
begins_stay : (nodes : List SyntaxNode) (old new : List Place) → ((k : ℕ) → k < length old → first_at new k ≡ first_at old k) → (begin index : ℕ) → index < length old
    → BeginsBody nodes old begin index → BeginsBody nodes new begin index
begins_stay nodes old new firsts begin index inside body = record {
  lambda = body.lambda;
  at = body.at;
  quantifier = body.quantifier;
  is_lambda = body.is_lambda;
  begins = firsts (index - 1) (omega (arith, inside)) ∙ body.begins;
}

begins_before : (nodes : List SyntaxNode) (old new : List Place) → ((k : ℕ) → k < length old → first_at new k ≡ first_at old k) → (begin index : ℕ) → index < length old
    → BeginsBody nodes new begin index → BeginsBody nodes old begin index
begins_before nodes old new firsts begin index inside body = record {
  lambda = body.lambda;
  at = body.at;
  quantifier = body.quantifier;
  is_lambda = body.is_lambda;
  begins = sym (firsts (index - 1) (omega (arith, inside))) ∙ body.begins;
}

-- a mark that stays
marked_before : (nodes : List SyntaxNode) (old new : List Place) (n : SyntaxNode) → IsGrowth nodes old new n → (begin : ℕ) → lambda_at new begin ≡ lambda_at old begin
    → lambda_at new begin ≢ 0 → (lambda_at new begin < length new) × BeginsBody nodes new begin (lambda_at new begin)
marked_before nodes old new n is begin same some =
    let was = is.growing.marked begin (λ none. some (same ∙ none)) in
    let here : (lambda_at old begin < length new) × BeginsBody nodes new begin (lambda_at old begin) =
    (omega (arith, was.0, is.more.size), begins_stay nodes old new is.more.firsts begin (lambda_at old begin) was.0 was.1) in
    subst (λ (l : ℕ). (l < length new) × BeginsBody nodes new begin l) (sym same) here

-- The places with one node more.

pub growing_plain : (nodes : List SyntaxNode) (old new : List Place) (n : SyntaxNode) → IsGrowth nodes old new n
    → ((k : ℕ) → lambda_at new k ≡ lambda_at old k) → ((quantifier : Quantifier) → n.kind ≢ SyntaxKind.Lambda quantifier)
    → IsGrowing nodes new
growing_plain nodes old new n is same plain = record {
  tiles = tiles_more nodes old new n is;
  seams = seams_more nodes old new n is;
  grown = grown_more nodes old new n is;
  marked = λ begin some. marked_before nodes old new n is begin (same begin) some;
  marks = λ begin index inside body. elim (cases_lt index (length old)) [
    | inl before ↦ same begin ∙ is.growing.marks begin index before (begins_before nodes old new is.more.firsts begin index before body)
    | inr last ↦ let here : index ≡ length old = omega (arith, last, inside, is.more.size) in
        let found : Some body.lambda ≡ Some n = sym body.at ∙ ap (slice_get nodes) here ∙ is.at in
        let same_node : body.lambda ≡ n = cc in
        absurd (plain body.quantifier (sym (ap (λ (m : SyntaxNode). m.kind) same_node) ∙ body.is_lambda))
  ];
}

pub growing_lambda : (nodes : List SyntaxNode) (old new : List Place) (n : SyntaxNode) (quantifier : Quantifier) → IsGrowth nodes old new n
    → n.kind ≡ SyntaxKind.Lambda quantifier → lambda_at new (first_at old (length old - 1)) ≡ length old
    → ((k : ℕ) → k ≢ first_at old (length old - 1) → lambda_at new k ≡ lambda_at old k)
    → IsGrowing nodes new
growing_lambda nodes old new n quantifier is is_lambda own others =
    let begin_body = first_at old (length old - 1) in
    let two = lambda_later nodes (length old) n quantifier is.whole is.at is_lambda in
    let roots = roots_back (nodes_before nodes (length old)) in
    let body_last = body_later old (length old) roots is.growing.tiles two in
    let seam : IsSeam old begin_body = body_seam old (length old) roots is.growing.tiles is.growing.seams two in
    let firsts : first_at new (length old - 1) ≡ begin_body = is.more.firsts (length old - 1) (omega (arith, body_last.some)) in
    record {
      tiles = tiles_more nodes old new n is;
      seams = seams_more nodes old new n is;
      grown = grown_more nodes old new n is;
      marked = λ begin some. elim (cases_eq begin begin_body) [
        | inl here ↦ let mark : lambda_at new begin ≡ length old = ap (lambda_at new) here ∙ own in
            let at : (length old < length new) × BeginsBody nodes new begin (length old) =
            (omega (arith, is.more.size), record { lambda = n; at = is.at; quantifier = quantifier; is_lambda = is_lambda; begins = firsts ∙ sym here }) in
            subst (λ (l : ℕ). (l < length new) × BeginsBody nodes new begin l) (sym mark) at
        | inr other ↦ marked_before nodes old new n is begin (others begin other) some
      ];
      marks = λ begin index inside body. elim (cases_lt index (length old)) [
        | inl before ↦ let was = begins_before nodes old new is.more.firsts begin index before body in
            let other : begin ≢ begin_body = λ here.
            let inner = lambda_body nodes old index was.lambda was.quantifier is.whole was.at was.is_lambda (is.growing.grown index was.lambda was.at before) in
            let same : first_at old (index - 1) ≡ begin_body = was.begins ∙ here in
            let apart : begin_body ≤ first_at old index = seam.apart index before (omega (arith, same, inner.order)) in
            absurd (omega (arith, apart, same, inner.later)) in
            others begin other ∙ is.growing.marks begin index before was
        | inr last ↦ let here : index ≡ length old = omega (arith, last, inside, is.more.size) in
            let begins : first_at new (length old - 1) ≡ begin = subst (λ (i : ℕ). first_at new (i - 1) ≡ begin) here body.begins in
            let at : begin ≡ begin_body = sym begins ∙ firsts in
            ap (lambda_at new) at ∙ own ∙ sym here
      ];
    }

-- The next node of a tree, by its place and its mark.

counted : (old new : List Place) (first : ℕ) → IsBegun old new first → IsCounted old new first
counted old new first begun = record { size = begun.size; firsts = begun.firsts; own = begun.own; lower = begun.lower; upper = begun.upper }

counted_marked : (old mid new : List Place) (first begin index : ℕ) → IsBegun old mid first → IsMarked mid new begin index → IsCounted old new first
counted_marked old mid new first begin index begun marked = record {
  size = marked.size ∙ begun.size;
  firsts = λ k before. marked.firsts k ∙ begun.firsts k before;
  own = marked.firsts (length old) ∙ begun.own;
  lower = λ k low. marked.begun k ∙ begun.lower k low;
  upper = λ k high. marked.begun k ∙ begun.upper k high;
}

-- a node that is next, and where its tree begins
pub record IsNextNode (nodes : List SyntaxNode) (old : List Place) (n : SyntaxNode) (first : ℕ) : Type 0 where
  pub whole : IsWholeTree nodes
  pub growing : IsGrowing nodes old
  pub at : slice_get nodes (length old) ≡ Some n
  pub first_is : first ≡ first_over old (length old) (child_roots n (nodes_before nodes (length old)))

growth : (nodes : List SyntaxNode) (old new : List Place) (n : SyntaxNode) (first : ℕ) → IsNextNode nodes old n first → IsCounted old new first → IsGrowth nodes old new n
growth nodes old new n first next more = record {
  whole = next.whole;
  growing = next.growing;
  at = next.at;
  more = subst (λ (f : ℕ). IsCounted old new f) next.first_is more;
}

pub next_plain : (nodes : List SyntaxNode) (old new : List Place) (n : SyntaxNode) (first : ℕ) → IsNextNode nodes old n first → IsBegun old new first
    → ((quantifier : Quantifier) → n.kind ≢ SyntaxKind.Lambda quantifier) → IsGrowing nodes new
next_plain nodes old new n first next begun plain = growing_plain nodes old new n (growth nodes old new n first next (counted old new first begun)) begun.lambdas plain

-- the body of the next node lies among the nodes so far
pub next_body : (nodes : List SyntaxNode) (old : List Place) (n : SyntaxNode) (quantifier : Quantifier) (first : ℕ) → IsNextNode nodes old n first
    → n.kind ≡ SyntaxKind.Lambda quantifier → IsBodyLater old (length old) (first_over old (length old) (take 2 (roots_back (nodes_before nodes (length old)))))
next_body nodes old n quantifier first next is =
    body_later old (length old) (roots_back (nodes_before nodes (length old))) next.growing.tiles (lambda_later nodes (length old) n quantifier next.whole next.at is)

pub next_lambda : (nodes : List SyntaxNode) (old mid new : List Place) (n : SyntaxNode) (quantifier : Quantifier) (first : ℕ) → IsNextNode nodes old n first → IsBegun old mid first
    → n.kind ≡ SyntaxKind.Lambda quantifier → IsMarked mid new (first_at mid (length old - 1)) (length old) → IsGrowing nodes new
next_lambda nodes old mid new n quantifier first next begun is marked =
    let body = next_body nodes old n quantifier first next is in
    let same : first_at mid (length old - 1) ≡ first_at old (length old - 1) = begun.firsts (length old - 1) (omega (arith, body.some)) in
    growing_lambda nodes old new n quantifier (growth nodes old new n first next (counted_marked old mid new first (first_at mid (length old - 1)) (length old) begun marked)) is
    (ap (lambda_at new) (sym same) ∙ marked.own)
    (λ k other. marked.others k (λ here. other (here ∙ same)) ∙ begun.lambdas k)

-- no node yet
pub growing_none : (nodes : List SyntaxNode) → IsGrowing nodes []
growing_none nodes = record {
  tiles = refl;
  seams = record { begun = refl; apart = λ k inside from. absurd (omega (arith, inside)) };
  grown = λ index n at inside. absurd (omega (arith, inside));
  marked = λ begin some. absurd (some refl);
  marks = λ begin index inside body. absurd (omega (arith, inside));
}
