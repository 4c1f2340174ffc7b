-- Of items of which one kind is found each, one text is kept, and one is the first at fault.
use Rattle.std.proofs.Common.{◌≡◌, ℕ, suc, ◌+◌, Bool, cond, List, [], ◌∷◌, ◌++◌, length, refl, sym, ap, ◌∙◌, subst, arith, inl, inr}
use Rattle.std.specs.Prelude.{map, count_by, All}
use Rattle.std.proofs.lemmas.Bool.{cases_Bool}
use Rattle.std.proofs.lemmas.List.Sums.{sum_by-cons}
use Rattle.line_filter.specs.Kept.{LineClass, IsFaultless, is_kept, is_row, Sieve, Items, SiftedItem, kept_text, Passes, StopsAt}
use Rattle.line_filter.specs.LineItems.{LineJudge, IsFoundOf}
use Rattle.line_filter.specs.Once.{kind_found, IsFaulty, JudgesItemsOnce, JudgesOnce}
use Rattle.line_filter.specs.ItemIndexes.{IsJudged, ItemJudge}
use Rattle.line_filter.specs.declared.judge.Judgment.{Judgment}
use Rattle.line_filter.specs.declared.tally.Tally.{Tally}

-- ---- findings of one kind

module _ {F : Type 0} where
  faultless_alike : (f g : LineClass F) → kind_found f ≡ kind_found g → IsFaultless f → IsFaultless g
  faultless_alike LineClass.too_long g same fine = absurd fine
  faultless_alike LineClass.passed_over LineClass.too_long same fine = absurd cc
  faultless_alike LineClass.passed_over LineClass.passed_over same fine = tt
  faultless_alike LineClass.passed_over (LineClass.judged j) same fine = absurd cc
  faultless_alike (LineClass.judged j) LineClass.too_long same fine = absurd cc
  faultless_alike (LineClass.judged j) LineClass.passed_over same fine = absurd cc
  faultless_alike (LineClass.judged j) (LineClass.judged Judgment.Kept) same fine = tt
  faultless_alike (LineClass.judged j) (LineClass.judged Judgment.LeftOut) same fine = tt
  faultless_alike (LineClass.judged Judgment.Kept) (LineClass.judged (Judgment.Fault e)) same fine = absurd cc
  faultless_alike (LineClass.judged Judgment.LeftOut) (LineClass.judged (Judgment.Fault e)) same fine = absurd cc
  faultless_alike (LineClass.judged (Judgment.Fault d)) (LineClass.judged (Judgment.Fault e)) same fine = absurd fine

  -- whether an item is kept shows in the kind
  kept_by_kind : (f : LineClass F) → is_kept f ≡ is_kept (kind_found f)
  kept_by_kind LineClass.too_long = refl
  kept_by_kind LineClass.passed_over = refl
  kept_by_kind (LineClass.judged Judgment.Kept) = refl
  kept_by_kind (LineClass.judged Judgment.LeftOut) = refl
  kept_by_kind (LineClass.judged (Judgment.Fault e)) = refl

  kept_alike : (f g : LineClass F) → kind_found f ≡ kind_found g → is_kept f ≡ is_kept g
  kept_alike f g same = kept_by_kind f ∙ ap (λ (k : LineClass (Unit {0})). is_kept k) same ∙ sym (kept_by_kind g)

  -- and so does whether it is a row
  row_by_kind : (f : LineClass F) → is_row f ≡ is_row (kind_found f)
  row_by_kind LineClass.too_long = refl
  row_by_kind LineClass.passed_over = refl
  row_by_kind (LineClass.judged j) = refl

  row_alike : (f g : LineClass F) → kind_found f ≡ kind_found g → is_row f ≡ is_row g
  row_alike f g same = row_by_kind f ∙ ap (λ (k : LineClass (Unit {0})). is_row k) same ∙ sym (row_by_kind g)

-- two tallies of the same counts
abbrev tally_of : ℕ → ℕ → Tally
tally_of rows kept = record { rows = rows; kept = kept }

pub same_tally : (m n : Tally) → m.rows ≡ n.rows → m.kept ≡ n.kept → m ≡ n
same_tally m n rows kept = ap (λ (r : ℕ). tally_of r m.kept) rows ∙ ap (λ (k : ℕ). tally_of n.rows k) kept

-- of a line one kind is found, where the judge says one
pub IsFoundOf-once : {F : Type 0} (judge : LineJudge F) → JudgesOnce judge → (line : List ℕ) (f g : LineClass F) → IsFoundOf judge line f → IsFoundOf judge line g → kind_found f ≡ kind_found g
IsFoundOf-once judge once line LineClass.too_long LineClass.too_long p q = refl
IsFoundOf-once judge once line LineClass.too_long LineClass.passed_over p q = absurd (omega (arith, p, q.0))
IsFoundOf-once judge once line LineClass.too_long (LineClass.judged k) p q = absurd (omega (arith, p, q.0))
IsFoundOf-once judge once line LineClass.passed_over LineClass.too_long p q = absurd (omega (arith, q, p.0))
IsFoundOf-once judge once line LineClass.passed_over LineClass.passed_over p q = refl
IsFoundOf-once judge once line LineClass.passed_over (LineClass.judged k) p q = absurd (q.1 p.1)
IsFoundOf-once judge once line (LineClass.judged j) LineClass.too_long p q = absurd (omega (arith, q, p.0))
IsFoundOf-once judge once line (LineClass.judged j) LineClass.passed_over p q = absurd (p.1 q.1)
IsFoundOf-once judge once line (LineClass.judged j) (LineClass.judged k) p q = ap LineClass.judged (once line j k p.2 q.2)

-- and so of an item
pub IsJudged-once : {X F : Type 0} (judge : ItemJudge X F) → JudgesItemsOnce judge → (item : X) (f g : LineClass F) → IsJudged judge item f → IsJudged judge item g → kind_found f ≡ kind_found g
IsJudged-once judge once item (LineClass.judged j) (LineClass.judged k) p q = ap LineClass.judged (once item j k p q)
IsJudged-once judge once item (LineClass.judged j) LineClass.too_long p q = absurd q
IsJudged-once judge once item (LineClass.judged j) LineClass.passed_over p q = absurd q
IsJudged-once judge once item LineClass.too_long g p q = absurd p
IsJudged-once judge once item LineClass.passed_over g p q = absurd p

-- ---- items of which one kind is found

All-first : {X : Type 0} (P : X → Type 0) (x : X) (xs : List X) → All P (x ∷ xs) → P x
All-first P x xs all = all 0 x (omega arith)

All-later : {X : Type 0} (P : X → Type 0) (x : X) (xs : List X) → All P (x ∷ xs) → All P xs
All-later P x xs all k d below = all (suc k) d (omega arith)

module _ {X F : Type 0} (sieve : Sieve X F) (once : (x : X) (f g : LineClass F) → sieve.finds x f → sieve.finds x g → kind_found f ≡ kind_found g) where
  abbrev IsFine : SiftedItem X F → Type 0
  IsFine s = sieve.finds s.item s.line_class × IsFaultless s.line_class

  kept_first : (s : SiftedItem X F) (ss : List (SiftedItem X F)) → kept_text sieve.text_of (s ∷ ss) ≡ cond (is_kept s.line_class) (sieve.text_of s.item) [] ++ kept_text sieve.text_of ss
  kept_first s ss = elim (cases_Bool (is_kept s.line_class)) [ inl is ↦ rw is refl | inr is ↦ rw is refl ]

  texts_alike : (all other : List (SiftedItem X F)) → map (λ s. s.item) all ≡ map (λ s. s.item) other → All IsFine all → All IsFine other → kept_text sieve.text_of all ≡ kept_text sieve.text_of other
  texts_alike [] [] same fine fine' = refl
  texts_alike [] (t ∷ ts) same fine fine' = absurd cc
  texts_alike (s ∷ ss) [] same fine fine' = absurd cc
  texts_alike (s ∷ ss) (t ∷ ts) same fine fine' =
      let item : s.item ≡ t.item = cc in
      let items : map (λ (r : SiftedItem X F). r.item) ss ≡ map (λ (r : SiftedItem X F). r.item) ts = cc in
      let rest = texts_alike ss ts items (All-later IsFine s ss fine) (All-later IsFine t ts fine') in
      let here = All-first IsFine s ss fine in
      let there = All-first IsFine t ts fine' in
      let kind = once t.item s.line_class t.line_class (subst (λ (x : X). sieve.finds x s.line_class) item here.0) there.0 in
      let kept = kept_alike s.line_class t.line_class kind in
      let first : cond (is_kept s.line_class) (sieve.text_of s.item) [] ≡ cond (is_kept t.line_class) (sieve.text_of t.item) [] =
      ap (λ (b : Bool). cond b (sieve.text_of s.item) []) kept ∙ ap (λ (x : X). cond (is_kept t.line_class) (sieve.text_of x) []) item in
      kept_first s ss ∙ ap (λ l. l ++ kept_text sieve.text_of ss) first ∙ ap (λ l. cond (is_kept t.line_class) (sieve.text_of t.item) [] ++ l) rest ∙ sym (kept_first t ts)

  -- what is counted by the kinds is counted alike
  count_first : (of : LineClass F → Bool) (s : SiftedItem X F) (ss : List (SiftedItem X F))
      → count_by (λ r. of r.line_class) (s ∷ ss) ≡ cond (of s.line_class) 1 0 + count_by (λ r. of r.line_class) ss
  count_first of s ss = sum_by-cons (λ (r : SiftedItem X F). cond (of r.line_class) 1 0) s ss

  module _ (of : LineClass F → Bool) (alike : (f g : LineClass F) → kind_found f ≡ kind_found g → of f ≡ of g) where
    counts_alike : (all other : List (SiftedItem X F)) → map (λ s. s.item) all ≡ map (λ s. s.item) other → All IsFine all → All IsFine other
        → count_by (λ s. of s.line_class) all ≡ count_by (λ s. of s.line_class) other
    counts_alike [] [] same fine fine' = refl
    counts_alike [] (t ∷ ts) same fine fine' = absurd cc
    counts_alike (s ∷ ss) [] same fine fine' = absurd cc
    counts_alike (s ∷ ss) (t ∷ ts) same fine fine' =
        let item : s.item ≡ t.item = cc in
        let items : map (λ (r : SiftedItem X F). r.item) ss ≡ map (λ (r : SiftedItem X F). r.item) ts = cc in
        let rest = counts_alike ss ts items (All-later IsFine s ss fine) (All-later IsFine t ts fine') in
        let here = All-first IsFine s ss fine in
        let there = All-first IsFine t ts fine' in
        let kind = once t.item s.line_class t.line_class (subst (λ (x : X). sieve.finds x s.line_class) item here.0) there.0 in
        let first : cond (of s.line_class) 1 0 ≡ cond (of t.line_class) 1 0 = ap (λ (b : Bool). cond b 1 0) (alike s.line_class t.line_class kind) in
        count_first of s ss ∙ ap (λ (n : ℕ). n + count_by (λ r. of r.line_class) ss) first ∙ ap (λ (n : ℕ). cond (of t.line_class) 1 0 + n) rest ∙ sym (count_first of t ts)

  -- items that pass have one tally
  pub Passes-one_tally : (xs : List X) (text other : List ℕ) (m n : Tally) → Passes sieve xs text m → Passes sieve xs other n → m ≡ n
  Passes-one_tally xs text other m n p q =
      let same = p.in_order ∙ sym q.in_order in
      same_tally m n (p.rows_counted ∙ counts_alike is_row row_alike p.all q.all same p.found q.found ∙ sym q.rows_counted)
      (p.kept_counted ∙ counts_alike is_kept kept_alike p.all q.all same p.found q.found ∙ sym q.kept_counted)

  -- items that pass keep one text
  pub Passes-once : (xs : List X) (text other : List ℕ) (m n : _) → Passes sieve xs text m → Passes sieve xs other n → text ≡ other
  Passes-once xs text other m n p q = p.kept ∙ texts_alike p.all q.all (p.in_order ∙ sym q.in_order) p.found q.found ∙ sym q.kept

  -- no fault is found of items that pass
  passing_fine : (xs : List X) (all : List (SiftedItem X F)) → map (λ s. s.item) all ≡ xs → All IsFine all → (before : List X) (bad : X) (after : List X) → xs ≡ before ++ bad ∷ after
      → (f : LineClass F) → sieve.finds bad f → IsFaultless f
  passing_fine xs [] same fine [] bad after split f finds = absurd cc
  passing_fine xs [] same fine (b ∷ before) bad after split f finds = absurd cc
  passing_fine xs (s ∷ ss) same fine [] bad after split f finds =
      let item : s.item ≡ bad = cc in
      let here = All-first IsFine s ss fine in
      faultless_alike s.line_class f (once bad s.line_class f (subst (λ (x : X). sieve.finds x s.line_class) item here.0) finds) here.1
  passing_fine xs (s ∷ ss) same fine (b ∷ before) bad after split f finds =
      let rest : map (λ (r : SiftedItem X F). r.item) ss ≡ before ++ bad ∷ after = cc in
      passing_fine (before ++ bad ∷ after) ss rest (All-later IsFine s ss fine) before bad after refl f finds

  pub Passes-fine : (xs : List X) (text : List ℕ) (m : _) → Passes sieve xs text m → (before : List X) (bad : X) (after : List X) → xs ≡ before ++ bad ∷ after
      → (f : LineClass F) → sieve.finds bad f → IsFaulty f → ⊥
  Passes-fine xs text m p before bad after split f finds faulty = faulty (passing_fine xs p.all p.in_order p.found before bad after split f finds)

  -- two beginnings of one list, each before one at fault
  splits_meet : (before other : List X) (bad worse : X) (after later : List X) → before ++ bad ∷ after ≡ other ++ worse ∷ later
      → ((x : X) (more : List X) (l : List X) → before ≡ l ++ x ∷ more → (f : LineClass F) → sieve.finds x f → IsFaulty f → ⊥)
      → ((x : X) (more : List X) (l : List X) → other ≡ l ++ x ∷ more → (f : LineClass F) → sieve.finds x f → IsFaulty f → ⊥)
      → (f g : LineClass F) → sieve.finds bad f → sieve.finds worse g → IsFaulty f → IsFaulty g → (before ≡ other) × (bad ≡ worse)
  splits_meet [] [] bad worse after later same fine fine' f g finds finds' faulty faulty' = (refl, cc)
  splits_meet [] (y ∷ ys) bad worse after later same fine fine' f g finds finds' faulty faulty' =
      let item : bad ≡ y = cc in
      absurd (fine' y ys [] refl f (subst (λ (x : X). sieve.finds x f) item finds) faulty)
  splits_meet (x ∷ xs) [] bad worse after later same fine fine' f g finds finds' faulty faulty' =
      let item : worse ≡ x = cc in
      absurd (fine x xs [] refl g (subst (λ (z : X). sieve.finds z g) item finds') faulty')
  splits_meet (x ∷ xs) (y ∷ ys) bad worse after later same fine fine' f g finds finds' faulty faulty' =
      let item : x ≡ y = cc in
      let rest : xs ++ bad ∷ after ≡ ys ++ worse ∷ later = cc in
      let (front, last) = splits_meet xs ys bad worse after later rest (λ z more l e. fine z more (x ∷ l) (ap (λ k. x ∷ k) e)) (λ z more l e. fine' z more (y ∷ l) (ap (λ k. y ∷ k) e)) f g finds finds' faulty faulty' in
      (ap (λ k. x ∷ k) front ∙ ap (λ z. z ∷ ys) item, last)

  module _ (items : List X) (CameWhole : List X → Type 0) where
    abbrev these : Items X F
    these = record { all = items; sieve = sieve; CameWhole = CameWhole }

    -- one item is the first at fault
    pub StopsAt-once : (text other : List ℕ) (m n : ℕ) (f g : LineClass F) → IsFaulty f → IsFaulty g → (a : StopsAt these text m f) (b : StopsAt these other n g) → (m ≡ n) × (text ≡ other) × (a.bad ≡ b.bad)
    StopsAt-once text other m n f g faulty faulty' a b =
        let (front, bad) = splits_meet a.before b.before a.bad b.bad a.after b.after (sym a.whole ∙ b.whole)
        (λ x more l e. Passes-fine a.before text a.tally a.passes l x more e) (λ x more l e. Passes-fine b.before other b.tally b.passes l x more e) f g a.found b.found faulty faulty' in
        let number : m ≡ n = a.counted ∙ ap (λ (l : List X). length l + 1) front ∙ sym b.counted in
        (number, Passes-once b.before text other a.tally b.tally (subst (λ l. Passes sieve l text a.tally) front a.passes) b.passes, bad)

    -- and none where all pass
    pub StopsAt-never : (text other : List ℕ) (m : _) (n : ℕ) (f : LineClass F) → Passes sieve items text m → IsFaulty f → StopsAt these other n f → ⊥
    StopsAt-never text other m n f passes faulty a = Passes-fine items text m passes a.before a.bad a.after a.whole f a.found faulty
