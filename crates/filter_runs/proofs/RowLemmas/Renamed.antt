-- Items of a list by other names: what passes, and where a run stops, is the same.
use Rattle.std.proofs.Common.{◌≡◌, ℕ, ◌+◌, List, [], ◌∷◌, ◌++◌, length, cond, refl, sym, ap, ◌∙◌, inl, inr}
use Rattle.std.specs.Prelude.{map, count_by}
use Rattle.std.proofs.lemmas.Bool.{cases_Bool}
use Rattle.std.proofs.lemmas.List.{map-append, length-map}
use Rattle.std.proofs.lemmas.List.Elements.{All-map}
use Rattle.std.proofs.lemmas.List.Sums.{sum_by-cons}
use Rattle.line_filter.specs.Kept.{LineClass, IsFaultless, SiftedItem, Passes, StopsAt, StopsOn, StopsWithin, is_kept, is_row, kept_text}
use Rattle.line_filter.specs.ItemIndexes.{ItemJudge, IsJudged, IndexedItem, indexed_from, index_sieve, indexed_items}
use Rattle.line_filter.specs.declared.tally.Tally.{Tally}

module _ {X Y F : Type 0} (judge : ItemJudge Y F) (name : X → Y) where
  -- the judge of the items by their first names
  abbrev pub judge_named : ItemJudge X F
  judge_named item = judge (name item)

  abbrev renamed : IndexedItem X → IndexedItem Y
  renamed p = record { index = p.index; item = name p.item }

  abbrev sifted : SiftedItem (IndexedItem X) F → SiftedItem (IndexedItem Y) F
  sifted s = record { item = renamed s.item; line_class = s.line_class }

  indexed_renamed : (index : ℕ) (xs : List X) → indexed_from index (map name xs) ≡ map renamed (indexed_from index xs)
  indexed_renamed index [] = refl
  indexed_renamed index (x ∷ xs) = ap (λ l. renamed (record { index = index; item = x }) ∷ l) (indexed_renamed (index + 1) xs)

  judged : (item : X) (f : LineClass F) → IsJudged judge_named item f → IsJudged judge (name item) f
  judged item LineClass.too_long is = is
  judged item LineClass.passed_over is = is
  judged item (LineClass.judged j) is = is

  -- ---- what was sifted

  items_sifted : (ss : List (SiftedItem (IndexedItem X) F)) → map (λ s. s.item) (map sifted ss) ≡ map renamed (map (λ s. s.item) ss)
  items_sifted [] = refl
  items_sifted (s ∷ ss) = ap (λ l. renamed s.item ∷ l) (items_sifted ss)

  text_sifted : (ss : List (SiftedItem (IndexedItem X) F)) → kept_text (index_sieve judge).text_of (map sifted ss) ≡ kept_text (index_sieve judge_named).text_of ss
  text_sifted [] = refl
  text_sifted (s ∷ ss) = elim (cases_Bool (is_kept s.line_class)) [
    | inl is ↦ rw is (ap (λ l. (index_sieve judge_named).text_of s.item ++ l) (text_sifted ss))
    | inr is ↦ rw is (text_sifted ss)
  ]

  rows_sifted : (ss : List (SiftedItem (IndexedItem X) F)) → count_by (λ s. is_row s.line_class) (map sifted ss) ≡ count_by (λ s. is_row s.line_class) ss
  rows_sifted [] = refl
  rows_sifted (s ∷ ss) =
      sum_by-cons (λ (x : SiftedItem (IndexedItem Y) F). cond (is_row x.line_class) 1 0) (sifted s) (map sifted ss) ∙ ap (λ n. cond (is_row s.line_class) 1 0 + n) (rows_sifted ss)
      ∙ sym (sum_by-cons (λ (x : SiftedItem (IndexedItem X) F). cond (is_row x.line_class) 1 0) s ss)

  kept_sifted : (ss : List (SiftedItem (IndexedItem X) F)) → count_by (λ s. is_kept s.line_class) (map sifted ss) ≡ count_by (λ s. is_kept s.line_class) ss
  kept_sifted [] = refl
  kept_sifted (s ∷ ss) =
      sum_by-cons (λ (x : SiftedItem (IndexedItem Y) F). cond (is_kept x.line_class) 1 0) (sifted s) (map sifted ss) ∙ ap (λ n. cond (is_kept s.line_class) 1 0 + n) (kept_sifted ss)
      ∙ sym (sum_by-cons (λ (x : SiftedItem (IndexedItem X) F). cond (is_kept x.line_class) 1 0) s ss)

  abbrev IsFine : SiftedItem (IndexedItem Y) F → Type 0
  IsFine s = (index_sieve judge).finds s.item s.line_class × IsFaultless s.line_class

  Passes-renamed : (xs : List (IndexedItem X)) (text : List ℕ) (tally : Tally) → Passes (index_sieve judge_named) xs text tally → Passes (index_sieve judge) (map renamed xs) text tally
  Passes-renamed xs text tally p = record {
    all = map sifted p.all;
    in_order = items_sifted p.all ∙ ap (map renamed) p.in_order;
    found = All-map IsFine sifted p.all (λ k d below. let fine = p.found k d below in fine);
    kept = p.kept ∙ sym (text_sifted p.all);
    rows_counted = p.rows_counted ∙ sym (rows_sifted p.all);
    kept_counted = p.kept_counted ∙ sym (kept_sifted p.all);
  }

  -- ---- where a run stops

  module _ (xs : List X) (text : List ℕ) where
    -- the items before one, and those after
    parted : (before after : List (IndexedItem X)) → indexed_from 0 xs ≡ before ++ after → indexed_from 0 (map name xs) ≡ map renamed before ++ map renamed after
    parted before after whole = indexed_renamed 0 xs ∙ ap (map renamed) whole ∙ map-append renamed before after

    counted : (before : List (IndexedItem X)) (number : ℕ) → number ≡ length before + 1 → number ≡ length (map renamed before) + 1
    counted before number is = is ∙ ap (λ n. n + 1) (sym (length-map before renamed))

    pub StopsAt-renamed : (number : ℕ) (line_class : LineClass F) → StopsAt (indexed_items judge_named xs) text number line_class → StopsAt (indexed_items judge (map name xs)) text number line_class
    StopsAt-renamed number line_class stop = record {
      before = map renamed stop.before;
      bad = renamed stop.bad;
      after = map renamed stop.after;
      tally = stop.tally;
      whole = parted stop.before (stop.bad ∷ stop.after) stop.whole;
      counted = counted stop.before number stop.counted;
      passes = Passes-renamed stop.before text stop.tally stop.passes;
      found = judged stop.bad.item line_class stop.found;
    }

    pub StopsOn-renamed : (number : ℕ) → StopsOn (indexed_items judge_named xs) text number → StopsOn (indexed_items judge (map name xs)) text number
    StopsOn-renamed number stop = record {
      before = map renamed stop.before;
      here = renamed stop.here;
      after = map renamed stop.after;
      tally = stop.tally;
      whole = parted stop.before (stop.here ∷ stop.after) stop.whole;
      came_whole = tt;
      counted = counted stop.before number stop.counted;
      passes = Passes-renamed stop.before text stop.tally stop.passes;
    }

    pub StopsWithin-renamed : StopsWithin (indexed_items judge_named xs) text → StopsWithin (indexed_items judge (map name xs)) text
    StopsWithin-renamed stop = record {
      before = map renamed stop.before;
      after = map renamed stop.after;
      tally = stop.tally;
      unwritten = stop.unwritten;
      whole = parted stop.before stop.after stop.whole;
      passes = Passes-renamed stop.before (text ++ stop.unwritten) stop.tally stop.passes;
    }

    pub Filters-renamed : (tally : Tally) → Passes (index_sieve judge_named) (indexed_from 0 xs) text tally → Passes (index_sieve judge) (indexed_from 0 (map name xs)) text tally
    Filters-renamed tally passes =
        let all = indexed_renamed 0 xs in
        rw all (Passes-renamed (indexed_from 0 xs) text tally passes)
