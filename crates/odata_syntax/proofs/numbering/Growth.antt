-- One more node: what stands of the places so far, and what is known of the new one.
use Rattle.std.proofs.Common.{◌≡◌, ◌≢◌, refl, ap, sym, subst, ◌∙◌, ℕ, zero, suc, ◌+◌, ◌<◌, ◌≤◌, List, [], ◌∷◌, length, drop, take, arith, inl, inr}
use Rattle.std.proofs.lemmas.Bool.{cases_lt}
use Rattle.odata_syntax.specs.declared.node_places.Place.{Place}
use Rattle.odata_syntax.specs.declared.syntax_list.SyntaxNode.{SyntaxNode}
use Rattle.odata_syntax.specs.Places.{child_roots, first_at, first_over, roots_back}
use Rattle.odata_syntax.specs.PostOrder.{child_count}
use Rattle.odata_syntax.specs.private.PlaceGrowth.{AreEven, AreSeams, AreTiles, HasRoom, IsGrown, IsSeam, begun_before}
use Rattle.odata_syntax.proofs.numbering.Tiles.{over_within, seam_at, seams_drop, tiles_drop}
use Rattle.odata_syntax.proofs.numbering.Writes.{begun_past}

-- one more tree begins, whatever is marked
pub record IsCounted (old new : List Place) (first : ℕ) : Type 0 where
  pub size : length new ≡ length old + 1
  pub firsts : (k : ℕ) → k < length old → first_at new k ≡ first_at old k
  pub own : first_at new (length old) ≡ first
  pub lower : (k : ℕ) → k ≤ first → begun_before new k ≡ begun_before old k
  pub upper : (k : ℕ) → first < k → begun_before new k ≡ begun_before old k + 1

-- What stays.

tiles_stay : (old new : List Place) → ((k : ℕ) → k < length old → first_at new k ≡ first_at old k) → (to : ℕ) (roots : List ℕ) → to ≤ length old
    → AreTiles old to roots → AreTiles new to roots
tiles_stay old new firsts to [] within tiles = tiles
tiles_stay old new firsts to (root ∷ roots) within tiles =
    let same : first_at new root ≡ first_at old root = firsts root (omega (arith, tiles.0)) in
    let later = tiles_stay old new firsts (first_at old root) roots (omega (arith, tiles.0, tiles.1)) tiles.2 in
    (tiles.0, subst (λ (f : ℕ). f ≤ root) (sym same) tiles.1, subst (λ (f : ℕ). AreTiles new f roots) (sym same) later)

over_stays : (old new : List Place) → ((k : ℕ) → k < length old → first_at new k ≡ first_at old k) → (to : ℕ) (roots : List ℕ) (count : ℕ) → to ≤ length old
    → AreTiles old to roots → first_over new to (take count roots) ≡ first_over old to (take count roots)
over_stays old new firsts to roots zero within tiles = refl
over_stays old new firsts to [] (suc count) within tiles = refl
over_stays old new firsts to (root ∷ roots) (suc count) within tiles =
    let same : first_at new root ≡ first_at old root = firsts root (omega (arith, tiles.0)) in
    ap (λ (f : ℕ). first_over new f (take count roots)) same
    ∙ over_stays old new firsts (first_at old root) roots count (omega (arith, tiles.0, tiles.1)) tiles.2

seam_stays : (old new : List Place) (first : ℕ) → IsCounted old new first → first ≤ length old → (at : ℕ) → at ≤ first → IsSeam old at → IsSeam new at
seam_stays old new first more within at low seam = record {
  begun = more.lower at low ∙ seam.begun;
  apart = λ k inside from. elim (cases_lt k (length old)) [
    | inl before ↦ subst (λ (f : ℕ). at ≤ f) (sym (more.firsts k before)) (seam.apart k before from)
    | inr last ↦ let same : k ≡ length old = omega (arith, more.size, inside, last) in subst (λ (f : ℕ). at ≤ f) (sym (ap (first_at new) same ∙ more.own)) low
  ];
}

seams_stay : (old new : List Place) (first : ℕ) → IsCounted old new first → first ≤ length old → (to : ℕ) (roots : List ℕ) → to ≤ first → AreTiles old to roots
    → AreSeams old to roots → AreSeams new to roots
seams_stay old new first more within to [] low tiles seams = seam_stays old new first more within to low seams
seams_stay old new first more within to (root ∷ roots) low tiles seams =
    let same : first_at new root ≡ first_at old root = more.firsts root (omega (arith, tiles.0)) in
    let later = seams_stay old new first more within (first_at old root) roots (omega (arith, tiles.0, tiles.1)) tiles.2 seams.1 in
    (seam_stays old new first more within to low seams.0, subst (λ (f : ℕ). AreSeams new f roots) (sym same) later)

room_stays : (old new : List Place) (first : ℕ) → IsCounted old new first → (k : ℕ) → k < length old → HasRoom old k → HasRoom new k
room_stays old new first more k inside has =
    let same : first_at new k ≡ first_at old k = more.firsts k inside in
    let begin = first_at old k in
    let room : begun_before new begin + (k + 1) ≤ begun_before new (k + 1) + begin = elim (cases_lt first begin) [
      | inl below ↦ omega (arith, more.upper begin below, more.upper (k + 1) (omega (arith, below, has.order)), has.room)
      | inr from ↦ elim (cases_lt first (k + 1)) [
        | inl within ↦ omega (arith, more.lower begin from, more.upper (k + 1) within, has.room)
        | inr past ↦ omega (arith, more.lower begin from, more.lower (k + 1) past, has.room)
      ]
    ] in
    record {
      order = subst (λ (f : ℕ). f ≤ k) (sym same) has.order;
      room = subst (λ (f : ℕ). begun_before new f + (k + 1) ≤ begun_before new (k + 1) + f) (sym same) room;
    }

even_stays : (old new : List Place) (first : ℕ) → IsCounted old new first → IsSeam old first → (k : ℕ) → k < length old → (roots : List ℕ)
    → AreEven old k roots → AreEven new k roots
even_stays old new first more seam k inside [] even = tt
even_stays old new first more seam k inside (root ∷ roots) even =
    let same : first_at new k ≡ first_at old k = more.firsts k inside in
    let begun : begun_before new (root + 1) + k ≡ begun_before new k + (root + 1) = elim (cases_lt first (root + 1)) [
      | inl below ↦ omega (arith, more.upper (root + 1) below, more.upper k (omega (arith, below, even.2)), even.0)
      | inr from ↦ elim (cases_lt first k) [
        | inl within ↦ absurd (omega (arith, seam.apart k inside (omega (arith, within)), even.1, from))
        | inr past ↦ omega (arith, more.lower (root + 1) from, more.lower k past, even.0)
      ]
    ] in
    (begun, subst (λ (f : ℕ). f ≤ root) (sym same) even.1, even.2, even_stays old new first more seam k inside roots even.3)

none_stays : (old new : List Place) (first : ℕ) → IsCounted old new first → IsSeam old first → (k : ℕ) → k < length old
    → first_at old k < k → begun_before old (k + 1) ≡ begun_before old k
    → begun_before new (k + 1) ≡ begun_before new k
none_stays old new first more seam k inside after none = elim (cases_lt first k) [
  | inl below ↦ more.upper (k + 1) (omega (arith, below)) ∙ ap (λ (n : ℕ). n + 1) none ∙ sym (more.upper k below)
  | inr from ↦ elim (cases_lt first (k + 1)) [
    | inl within ↦ absurd (omega (arith, seam.apart k inside (omega (arith, within)), after, from))
    | inr past ↦ more.lower (k + 1) past ∙ none ∙ sym (more.lower k from)
  ]
]

pub grown_stays : (old new : List Place) (first : ℕ) → IsCounted old new first → IsSeam old first → (n : SyntaxNode) (earlier : List SyntaxNode) → length earlier < length old
    → IsGrown old n earlier → IsGrown new n earlier
grown_stays old new first more seam n earlier inside is =
    let k = length earlier in
    let same : first_at new k ≡ first_at old k = more.firsts k inside in
    let low : k ≤ length old = omega (arith, inside) in
    record {
      begins = same ∙ is.begins ∙ sym (over_stays old new more.firsts k (roots_back earlier) (child_count n.kind n.count) low is.tiles);
      room = room_stays old new first more k inside is.room;
      tiles = tiles_stay old new more.firsts k (roots_back earlier) low is.tiles;
      enough = is.enough;
      nested = λ inner to from.
          let same_inner : first_at new inner ≡ first_at old inner = more.firsts inner (omega (arith, to, inside)) in
          let low_inner : first_at old k ≤ first_at old inner = is.nested inner to (subst (λ (f : ℕ). f ≤ inner) same from) in
          omega (arith, same, same_inner, low_inner);
      even = even_stays old new first more seam k inside (child_roots n earlier) is.even;
      none = λ some.
          let none = is.none some in
          (subst (λ (f : ℕ). f < k) (sym same) none.0, none_stays old new first more seam k inside none.0 none.1);
    }

-- The new node.

even_new : (old new : List Place) (first k : ℕ) → IsCounted old new first → begun_before old k ≡ k → first_at new k ≡ first
    → (to : ℕ) (roots : List ℕ) (count : ℕ) → AreTiles old to roots → AreSeams old to roots → to ≤ k
    → first ≤ first_over old to (take count roots)
    → AreEven new k (take count roots)
even_new old new first k more last own to roots zero tiles seams within low = tt
even_new old new first k more last own to [] (suc count) tiles seams within low = tt
even_new old new first k more last own to (root ∷ roots) (suc count) tiles seams within low =
    let over : first_over old (first_at old root) (take count roots) ≤ first_at old root = over_within old (first_at old root) roots count tiles.2 in
    let begins : first ≤ root = omega (arith, low, over, tiles.1) in
    let upper_root = more.upper (root + 1) (omega (arith, begins)) in
    let upper_last = more.upper k (omega (arith, begins, tiles.0, within)) in
    let seam : begun_before old (root + 1) ≡ root + 1 = subst (λ (at : ℕ). begun_before old at ≡ at) (sym tiles.0) seams.0.begun in
    let later = even_new old new first k more last own (first_at old root) roots count tiles.2 seams.1 (omega (arith, tiles.0, tiles.1, within)) low in
    let order : first_at new k ≤ root = subst (λ (f : ℕ). f ≤ root) (sym own) begins in
    let begun : begun_before new (root + 1) + k ≡ begun_before new k + (root + 1) = omega (arith, upper_root, upper_last, seam, last) in
    (begun, order, omega (arith, tiles.0, within), later)

-- a node with children begins before itself
over_before : (places : List Place) (to : ℕ) (roots : List ℕ) (count : ℕ) → AreTiles places to roots → count ≤ length roots → 0 < count
    → first_over places to (take count roots) < to
over_before places to roots zero tiles enough some = absurd (omega (arith, some))
over_before places to [] (suc count) tiles enough some = absurd (omega (arith, enough))
over_before places to (root ∷ roots) (suc count) tiles enough some =
    let later = over_within places (first_at places root) roots count tiles.2 in
    omega (arith, later, tiles.0, tiles.1)

-- the tree of a node and of those before it, whose places grow by its own
pub record IsNext (old new : List Place) (n : SyntaxNode) (earlier : List SyntaxNode) : Type 0 where
  pub at : length earlier ≡ length old
  pub tiles : AreTiles old (length earlier) (roots_back earlier)
  pub seams : AreSeams old (length earlier) (roots_back earlier)
  pub enough : child_count n.kind n.count ≤ length (roots_back earlier)
  pub more : IsCounted old new (first_over old (length earlier) (child_roots n earlier))

abbrev first_next : List Place → SyntaxNode → List SyntaxNode → ℕ
first_next old n earlier = first_over old (length earlier) (child_roots n earlier)

own_next : (old new : List Place) (n : SyntaxNode) (earlier : List SyntaxNode) → IsNext old new n earlier → first_at new (length earlier) ≡ first_next old n earlier
own_next old new n earlier is = ap (first_at new) is.at ∙ is.more.own

within_next : (old new : List Place) (n : SyntaxNode) (earlier : List SyntaxNode) → IsNext old new n earlier → first_next old n earlier ≤ length earlier
within_next old new n earlier is = over_within old (length earlier) (roots_back earlier) (child_count n.kind n.count) is.tiles

pub seam_next : (old new : List Place) (n : SyntaxNode) (earlier : List SyntaxNode) → IsNext old new n earlier → IsSeam old (first_next old n earlier)
seam_next old new n earlier is =
    seam_at old (first_next old n earlier) (drop (child_count n.kind n.count) (roots_back earlier))
    (seams_drop old (length earlier) (roots_back earlier) (child_count n.kind n.count) is.seams is.enough)

last_next : (old new : List Place) (n : SyntaxNode) (earlier : List SyntaxNode) → IsNext old new n earlier → begun_before old (length earlier) ≡ length earlier
last_next old new n earlier is = (seam_at old (length earlier) (roots_back earlier) is.seams).begun

past_next : (old new : List Place) (n : SyntaxNode) (earlier : List SyntaxNode) → IsNext old new n earlier → begun_before old (length earlier + 1) ≡ begun_before old (length earlier)
past_next old new n earlier is =
    begun_past old (length earlier + 1) (omega (arith, is.at)) ∙ sym (begun_past old (length earlier) (omega (arith, is.at)))

room_next : (old new : List Place) (n : SyntaxNode) (earlier : List SyntaxNode) → IsNext old new n earlier → HasRoom new (length earlier)
room_next old new n earlier is =
    let k = length earlier in
    let first = first_next old n earlier in
    let own = own_next old new n earlier is in
    let within = within_next old new n earlier is in
    let seam = seam_next old new n earlier is in
    record {
      order = subst (λ (f : ℕ). f ≤ k) (sym own) within;
      room = subst (λ (f : ℕ). begun_before new f + (k + 1) ≤ begun_before new (k + 1) + f) (sym own)
          (omega (arith, is.more.lower first (omega arith), is.more.upper (k + 1) (omega (arith, within)), seam.begun, last_next old new n earlier is, past_next old new n earlier is));
    }

pub grown_new : (old new : List Place) (n : SyntaxNode) (earlier : List SyntaxNode) → IsNext old new n earlier → IsGrown new n earlier
grown_new old new n earlier is =
    let k = length earlier in
    let count = child_count n.kind n.count in
    let first = first_next old n earlier in
    let own = own_next old new n earlier is in
    let within = within_next old new n earlier is in
    let seam = seam_next old new n earlier is in
    let last = last_next old new n earlier is in
    let past = past_next old new n earlier is in
    let low : k ≤ length old = omega (arith, is.at) in
    record {
      begins = own ∙ sym (over_stays old new is.more.firsts k (roots_back earlier) count low is.tiles);
      room = room_next old new n earlier is;
      tiles = tiles_stay old new is.more.firsts k (roots_back earlier) low is.tiles;
      enough = is.enough;
      nested = λ inner to from. elim (cases_lt inner k) [
        | inl before ↦ let same : first_at new inner ≡ first_at old inner = is.more.firsts inner (omega (arith, before, is.at)) in
            let after : first ≤ first_at old inner = seam.apart inner (omega (arith, before, is.at)) (subst (λ (f : ℕ). f ≤ inner) own from) in
            omega (arith, own, same, after)
        | inr same ↦ let is_last : inner ≡ k = omega (arith, to, same) in subst (λ (i : ℕ). first_at new k ≤ first_at new i) (sym is_last) (omega arith)
      ];
      even = even_new old new first k is.more last own k (roots_back earlier) count is.tiles is.seams (omega arith) (omega arith);
      none = λ some.
          let before : first < k = over_before old k (roots_back earlier) count is.tiles is.enough some in
          (subst (λ (f : ℕ). f < k) (sym own) before, is.more.upper (k + 1) (omega (arith, before)) ∙ ap (λ (m : ℕ). m + 1) past ∙ sym (is.more.upper k before));
    }

-- The trees with the new one.

pub seams_new : (old new : List Place) (n : SyntaxNode) (earlier : List SyntaxNode) → IsNext old new n earlier → AreSeams new (length earlier + 1) (roots_back (n ∷ earlier))
seams_new old new n earlier is =
    let k = length earlier in
    let count = child_count n.kind n.count in
    let first = first_next old n earlier in
    let within = within_next old new n earlier is in
    let here : IsSeam new (k + 1) = record {
      begun = omega (arith, is.more.upper (k + 1) (omega (arith, within)), last_next old new n earlier is, past_next old new n earlier is);
      apart = λ i inside from. absurd (omega (arith, is.more.size, is.at, inside, from));
    } in
    let later = seams_stay old new first is.more (omega (arith, within, is.at)) first (drop count (roots_back earlier)) (omega arith)
    (tiles_drop old k (roots_back earlier) count is.tiles is.enough) (seams_drop old k (roots_back earlier) count is.seams is.enough) in
    (here, subst (λ (f : ℕ). AreSeams new f (drop count (roots_back earlier))) (sym (own_next old new n earlier is)) later)

pub tiles_new : (old new : List Place) (n : SyntaxNode) (earlier : List SyntaxNode) → IsNext old new n earlier → AreTiles new (length earlier + 1) (roots_back (n ∷ earlier))
tiles_new old new n earlier is =
    let k = length earlier in
    let count = child_count n.kind n.count in
    let first = first_next old n earlier in
    let within = within_next old new n earlier is in
    let own = own_next old new n earlier is in
    let later = tiles_stay old new is.more.firsts first (drop count (roots_back earlier)) (omega (arith, within, is.at)) (tiles_drop old k (roots_back earlier) count is.tiles is.enough) in
    (refl, subst (λ (f : ℕ). f ≤ k) (sym own) within, subst (λ (f : ℕ). AreTiles new f (drop count (roots_back earlier))) (sym own) later)
