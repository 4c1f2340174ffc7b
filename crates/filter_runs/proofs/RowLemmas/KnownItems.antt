-- A run over verdicts that are known: what passes, and where it stops, is the same of the items.
use Rattle.std.proofs.Common.{◌≡◌, ℕ, suc, ◌+◌, List, [], ◌∷◌, ◌++◌, Bool, true, false, arith, length, cond, map, refl, sym, ap, ◌∙◌, subst, inl, inr}
use Rattle.std.specs.Prelude.{All, count_by}
use Rattle.std.proofs.lemmas.Bool.{cases_Bool}
use Rattle.std.proofs.lemmas.List.{append-nil}
use Rattle.std.proofs.lemmas.List.Elements.{All-cons, All-head, All-nil, All-tail}
use Rattle.std.proofs.lemmas.List.Sums.{sum_by-cons}
use Rattle.serde_json.specs.Data.{Data}
use Rattle.collection_items.specs.JudgedItems.{AreJudged}
use Rattle.line_filter.specs.Kept.{LineClass, Filters, IsFaultless, Passes, SiftedItem, StopsAt, StopsOn, StopsWithin, is_kept, is_row, kept_text}
use Rattle.row_judges.specs.RowJudgment.{judgment_where}
use Rattle.line_filter.specs.ItemIndexes.{ItemJudge, IsJudged, IndexedItem, index_sieve, indexed_from, indexed_items}
use Rattle.line_filter.specs.declared.judge.Judgment.{Judgment}
use Rattle.line_filter.specs.declared.tally.Tally.{Tally}

module _ {F : Type 0} (judge : ItemJudge Data F) where
  abbrev pub Known : ItemJudge Bool F
  Known kept judgment = judgment ≡ judgment_where kept

  abbrev pub Says : Data → Bool → Type 0
  Says json kept = judge json (judgment_where kept)

  abbrev IsFine : SiftedItem (IndexedItem Bool) F → Type 0
  IsFine s = (index_sieve Known).finds s.item s.line_class × IsFaultless s.line_class

  abbrev IsFineItem : SiftedItem (IndexedItem Data) F → Type 0
  IsFineItem s = (index_sieve judge).finds s.item s.line_class × IsFaultless s.line_class

  judged : (json : Data) (kept : Bool) (f : LineClass F) → Says json kept → IsJudged Known kept f → IsJudged judge json f
  judged json kept LineClass.too_long says is = is
  judged json kept LineClass.passed_over says is = is
  judged json kept (LineClass.judged j) says is = subst (λ (k : Judgment F). judge json k) (sym is) says

  -- the first of some items, instead of the verdicts that were sifted
  record FirstItems (items : List Data) (index : ℕ) (before after : List (IndexedItem Bool)) (all : List (SiftedItem (IndexedItem Bool) F)) : Type 0 where
    pub firsts : List (IndexedItem Data)
    pub rest : List (IndexedItem Data)
    pub whole : indexed_from index items ≡ firsts ++ rest
    pub long : length firsts ≡ length before
    pub left : length rest ≡ length after
    pub sifted : List (SiftedItem (IndexedItem Data) F)
    pub in_order : map (λ s. s.item) sifted ≡ firsts
    pub fine : All IsFineItem sifted
    pub text : kept_text (index_sieve judge).text_of sifted ≡ kept_text (index_sieve Known).text_of all
    pub rows : count_by (λ s. is_row s.line_class) sifted ≡ count_by (λ s. is_row s.line_class) all
    pub kept : count_by (λ s. is_kept s.line_class) sifted ≡ count_by (λ s. is_kept s.line_class) all

  as_long : (items : List Data) (flags : List Bool) (index : ℕ) → AreJudged Says items flags → length (indexed_from index items) ≡ length (indexed_from index flags)
  as_long [] [] index are = refl
  as_long [] (b ∷ bs) index are = absurd are
  as_long (d ∷ ds) [] index are = absurd are
  as_long (d ∷ ds) (b ∷ bs) index are = ap suc (as_long ds bs (index + 1) are.1)

  none_first : (items : List Data) (flags : List Bool) (index : ℕ) (after : List (IndexedItem Bool)) → AreJudged Says items flags → indexed_from index flags ≡ after → FirstItems items index [] after []
  none_first items flags index after are whole =
      record { firsts = []; rest = indexed_from index items; whole = refl; long = refl; left = as_long items flags index are ∙ ap length whole; sifted = []; in_order = refl; fine = All-nil IsFineItem; text = refl; rows = refl; kept = refl }

  one_more : (json : Data) (items : List Data) (index : ℕ) (kept : Bool) (before after : List (IndexedItem Bool)) (line_class : LineClass F) (all : List (SiftedItem (IndexedItem Bool) F)) → Says json kept → IsJudged Known kept line_class → IsFaultless line_class
      → FirstItems items (index + 1) before after all
      → FirstItems (json ∷ items) index (record { index = index; item = kept } ∷ before) after (record { item = record { index = index; item = kept }; line_class = line_class } ∷ all)
  one_more json items index kept before after line_class all says is fine more =
      let here : IndexedItem Data = record { index = index; item = json } in
      let one : SiftedItem (IndexedItem Data) F = record { item = here; line_class = line_class } in
      let old : SiftedItem (IndexedItem Bool) F = record { item = record { index = index; item = kept }; line_class = line_class } in
      record {
        firsts = here ∷ more.firsts;
        rest = more.rest;
        whole = ap (λ l. here ∷ l) more.whole;
        long = ap suc more.long;
        left = more.left;
        sifted = one ∷ more.sifted;
        in_order = ap (λ l. here ∷ l) more.in_order;
        fine = All-cons IsFineItem one more.sifted (judged json kept line_class says is, fine) more.fine;
        text = elim (cases_Bool (is_kept line_class)) [
          | inl at ↦ rw at (ap (λ l. (index_sieve judge).text_of here ++ l) more.text)
          | inr at ↦ rw at more.text
        ];
        rows = sum_by-cons (λ (x : SiftedItem (IndexedItem Data) F). cond (is_row x.line_class) 1 0) one more.sifted ∙ ap (λ n. cond (is_row line_class) 1 0 + n) more.rows
            ∙ sym (sum_by-cons (λ (x : SiftedItem (IndexedItem Bool) F). cond (is_row x.line_class) 1 0) old all);
        kept = sum_by-cons (λ (x : SiftedItem (IndexedItem Data) F). cond (is_kept x.line_class) 1 0) one more.sifted ∙ ap (λ n. cond (is_kept line_class) 1 0 + n) more.kept
            ∙ sym (sum_by-cons (λ (x : SiftedItem (IndexedItem Bool) F). cond (is_kept x.line_class) 1 0) old all);
      }

  first_items : (items : List Data) (flags : List Bool) (index : ℕ) (before after : List (IndexedItem Bool)) (all : List (SiftedItem (IndexedItem Bool) F)) → AreJudged Says items flags → indexed_from index flags ≡ before ++ after
      → map (λ s. s.item) all ≡ before → All IsFine all → FirstItems items index before after all
  first_items items flags index [] after [] are whole order fine = none_first items flags index after are whole
  first_items items flags index [] after (s ∷ ss) are whole order fine = absurd cc
  first_items items flags index (b ∷ bs) after [] are whole order fine = absurd cc
  first_items items [] index (b ∷ bs) after (s ∷ ss) are whole order fine = absurd cc
  first_items [] (kept ∷ flags) index (b ∷ bs) after (s ∷ ss) are whole order fine = absurd are
  first_items (json ∷ items) (kept ∷ flags) index (b ∷ bs) after (s ∷ ss) are whole order fine =
      let here : b ≡ record { index = index; item = kept } = cc in
      let item : s.item ≡ record { index = index; item = kept } = cc in
      let left : indexed_from (index + 1) flags ≡ bs ++ after = cc in
      let rest : map (λ t. t.item) ss ≡ bs = cc in
      let is = All-head IsFine s ss fine in
      let one = one_more json items index kept bs after s.line_class ss are.0 (subst (λ (p : IndexedItem Bool). IsJudged Known p.item s.line_class) item is.0) is.1
      (first_items items flags (index + 1) bs after ss are.1 left rest (All-tail IsFine s ss fine)) in
      subst (λ (p : IndexedItem Bool). FirstItems (json ∷ items) index (p ∷ bs) after (record { item = s.item; line_class = s.line_class } ∷ ss)) (sym here)
      (subst (λ (p : IndexedItem Bool). FirstItems (json ∷ items) index (record { index = index; item = kept } ∷ bs) after (record { item = p; line_class = s.line_class } ∷ ss)) (sym item) one)

  passes_so : (items : List Data) (index : ℕ) (before after : List (IndexedItem Bool)) (text : List ℕ) (tally : Tally) (passes : Passes (index_sieve Known) before text tally) → (first : FirstItems items index before after passes.all)
      → Passes (index_sieve judge) first.firsts text tally
  passes_so items index before after text tally passes first = record {
    all = first.sifted;
    in_order = first.in_order;
    found = first.fine;
    kept = passes.kept ∙ sym first.text;
    rows_counted = passes.rows_counted ∙ sym first.rows;
    kept_counted = passes.kept_counted ∙ sym first.kept;
  }

  -- ---- where a run stops

  module _ (items : List Data) (flags : List Bool) (are : AreJudged Says items flags) (text : List ℕ) where
    pub StopsWithin-known : StopsWithin (indexed_items Known flags) text → StopsWithin (indexed_items judge items) text
    StopsWithin-known stop =
        let first = first_items items flags 0 stop.before stop.after stop.passes.all are stop.whole stop.passes.in_order stop.passes.found in
        record {
          before = first.firsts;
          after = first.rest;
          tally = stop.tally;
          unwritten = stop.unwritten;
          whole = first.whole;
          passes = passes_so items 0 stop.before stop.after (text ++ stop.unwritten) stop.tally stop.passes first;
        }

    pub StopsOn-known : (number : ℕ) → StopsOn (indexed_items Known flags) text number → StopsOn (indexed_items judge items) text number
    StopsOn-known number stop = by first.rest first.left first.whole
      where
        first : FirstItems items 0 stop.before (stop.here ∷ stop.after) stop.passes.all
        first = first_items items flags 0 stop.before (stop.here ∷ stop.after) stop.passes.all are stop.whole stop.passes.in_order stop.passes.found

        by : (rest : List (IndexedItem Data)) → length rest ≡ length (stop.here ∷ stop.after) → indexed_from 0 items ≡ first.firsts ++ rest → StopsOn (indexed_items judge items) text number
        by [] long whole = absurd (omega (arith, long))
        by (here ∷ after) long whole = record {
          before = first.firsts;
          here = here;
          after = after;
          tally = stop.tally;
          whole = whole;
          came_whole = tt;
          counted = stop.counted ∙ ap (λ n. n + 1) (sym first.long);
          passes = passes_so items 0 stop.before (stop.here ∷ stop.after) text stop.tally stop.passes first;
        }

    pub Filters-known : (tally : Tally) → Filters (indexed_items Known flags) text tally → Filters (indexed_items judge items) text tally
    Filters-known tally passes =
        subst (λ (all : List (IndexedItem Data)). Passes (index_sieve judge) all text tally) (sym (first.whole ∙ ap (λ l. first.firsts ++ l) (none first.rest first.left) ∙ append-nil first.firsts))
        (passes_so items 0 (indexed_from 0 flags) [] text tally passes first)
      where
        first : FirstItems items 0 (indexed_from 0 flags) [] passes.all
        first = first_items items flags 0 (indexed_from 0 flags) [] passes.all are (sym (append-nil (indexed_from 0 flags))) passes.in_order passes.found

        none : (rest : List (IndexedItem Data)) → length rest ≡ 0 → rest ≡ []
        none [] long = refl
        none (p ∷ rest) long = absurd (omega (arith, long))

    -- none of them is at fault
    pub never_at_fault : {A : Type 0} (number : ℕ) (fault : F) → StopsAt (indexed_items Known flags) text number (LineClass.judged (Judgment.Fault fault)) → A
    never_at_fault number fault stop = by stop.bad.item stop.found
      where
        by : {A : Type 0} (kept : Bool) → Judgment.Fault fault ≡ judgment_where kept → A
        by true is = absurd cc
        by false is = absurd cc
