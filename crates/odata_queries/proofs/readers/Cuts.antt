-- Lists that are cut where an element passes, and what is taken off at their ends.
use Rattle.std.specs.List.{before_first, list_any, onto_first, position_or_len, prefix_len, slice_split, suffix_len}
use Rattle.std.proofs.lemmas.List.Folds.{list_any-append}
use Rattle.std.proofs.lemmas.List.Sums.{AllPass-from_list_all, suffix_len_is}
use Rattle.std.proofs.lemmas.Bool.{and_parts, or_left, or_right}
use Rattle.odata_queries.proofs.Common.{◌≡◌, ℕ, ◌+◌, ◌-◌, ◌<◌, ◌≤◌, Bool, true, false, not, cond, List, [], ◌∷◌, ◌++◌, ◌||◌, zero, suc, length, length-append, take, take_at, drop, get_or, arith, refl, sym, ◌∙◌, ap, list_all}

-- Cuts.

before-yes : (p : ℕ → Bool) (x : ℕ) (xs : List ℕ) → p x ≡ true → before_first p (x ∷ xs) ≡ []
before-yes p x xs passes = ap (λ b. take (cond (not b) (1 + prefix_len (λ y. not (p y)) xs) 0) (x ∷ xs)) passes

before-no : (p : ℕ → Bool) (x : ℕ) (xs : List ℕ) → p x ≡ false → before_first p (x ∷ xs) ≡ x ∷ before_first p xs
before-no p x xs misses =
    let more : 1 + position_or_len p xs ≡ suc (position_or_len p xs) = omega arith in
    ap (λ b. take (cond (not b) (1 + prefix_len (λ y. not (p y)) xs) 0) (x ∷ xs)) misses ∙ ap (λ n. take n (x ∷ xs)) more

-- what comes before the first that passes goes past a front of which none does
pub before-past : (p : ℕ → Bool) (front rest : List ℕ) → list_all (λ x. not (p x)) front ≡ true → before_first p (front ++ rest) ≡ front ++ before_first p rest
before-past p [] rest none = refl
before-past p (x ∷ front) rest none =
    let parts = and_parts (not (p x)) _ none in
    before-no p x (front ++ rest) (fails (p x) parts.0) ∙ ap (λ xs. x ∷ xs) (before-past p front rest parts.1)
  where
    fails : (b : Bool) → not b ≡ true → b ≡ false
    fails false e = refl
    fails true e = sym e

pub before-at : (p : ℕ → Bool) (x : ℕ) (rest : List ℕ) → p x ≡ true → before_first p (x ∷ rest) ≡ []
before-at p x rest passes = before-yes p x rest passes

-- Parts.

onto-append : (x : ℕ) (part : List ℕ) (parts others : List (List ℕ)) → onto_first x ((part ∷ parts) ++ others) ≡ onto_first x (part ∷ parts) ++ others
onto-append x part parts others = refl

-- the first part, and the others
pub first-part : (p : ℕ → Bool) (xs : List ℕ) → (others : List (List ℕ)) × (slice_split p xs ≡ before_first p xs ∷ others)
first-part p [] = ([], refl)
first-part p (x ∷ xs) = by (p x) refl (first-part p xs)
  where
    by : (b : Bool) → p x ≡ b → (others : List (List ℕ)) × (slice_split p xs ≡ before_first p xs ∷ others) → (others : List (List ℕ)) × (slice_split p (x ∷ xs) ≡ before_first p (x ∷ xs) ∷ others)
    by true is rest = (
      slice_split p xs,
      ap (λ b. cond b ([] ∷ slice_split p xs) (onto_first x (slice_split p xs))) is ∙ ap (λ part. part ∷ slice_split p xs) (sym (before-yes p x xs is)),
    )
    by false is rest = (
      rest.0,
      ap (λ b. cond b ([] ∷ slice_split p xs) (onto_first x (slice_split p xs))) is ∙ ap (onto_first x) rest.1 ∙ ap (λ part. part ∷ rest.0) (sym (before-no p x xs is)),
    )

-- a list is cut at each element that passes
pub split-at-mark : (p : ℕ → Bool) (front : List ℕ) (mark : ℕ) (rest : List ℕ) → p mark ≡ true → slice_split p (front ++ mark ∷ rest) ≡ slice_split p front ++ slice_split p rest
split-at-mark p [] mark rest passes = ap (λ b. cond b ([] ∷ slice_split p rest) (onto_first mark (slice_split p rest))) passes
split-at-mark p (x ∷ front) mark rest passes = by (p x) refl (split-at-mark p front mark rest passes)
  where
    by : (b : Bool) → p x ≡ b → slice_split p (front ++ mark ∷ rest) ≡ slice_split p front ++ slice_split p rest → slice_split p (x ∷ (front ++ mark ∷ rest)) ≡ slice_split p (x ∷ front) ++ slice_split p rest
    by true is further =
        ap (λ b. cond b ([] ∷ slice_split p (front ++ mark ∷ rest)) (onto_first x (slice_split p (front ++ mark ∷ rest)))) is
        ∙ ap (λ parts. [] ∷ parts) further
        ∙ ap (λ b. cond b ([] ∷ slice_split p front) (onto_first x (slice_split p front)) ++ slice_split p rest) (sym is)
    by false is further =
        let first = first-part p front in
        ap (λ b. cond b ([] ∷ slice_split p (front ++ mark ∷ rest)) (onto_first x (slice_split p (front ++ mark ∷ rest)))) is
        ∙ ap (onto_first x) (further ∙ ap (λ parts. parts ++ slice_split p rest) first.1)
        ∙ onto-append x (before_first p front) first.0 (slice_split p rest)
        ∙ ap (λ parts. onto_first x parts ++ slice_split p rest) (sym first.1)
        ∙ ap (λ b. cond b ([] ∷ slice_split p front) (onto_first x (slice_split p front)) ++ slice_split p rest) (sym is)

-- what holds of the first part holds of some part
pub any-first : (p : ℕ → Bool) (q : List ℕ → Bool) (xs : List ℕ) → q (before_first p xs) ≡ true → list_any q (slice_split p xs) ≡ true
any-first p q xs passes =
    let first = first-part p xs in
    ap (list_any q) first.1 ∙ or_left (q (before_first p xs)) (list_any q first.0) passes

-- what holds of a part after a mark holds of some part
pub any-after : (p : ℕ → Bool) (q : List ℕ → Bool) (front : List ℕ) (mark : ℕ) (rest : List ℕ) → p mark ≡ true → list_any q (slice_split p rest) ≡ true → list_any q (slice_split p (front ++ mark ∷ rest)) ≡ true
any-after p q front mark rest passes some =
    ap (list_any q) (split-at-mark p front mark rest passes) ∙ list_any-append q (slice_split p front) (slice_split p rest) ∙ or_right (list_any q (slice_split p front)) _ some

-- Ends.

prefix-past : (p : ℕ → Bool) (front rest : List ℕ) → list_all p front ≡ true → prefix_len p (front ++ rest) ≡ length front + prefix_len p rest
prefix-past p [] rest all = omega arith
prefix-past p (x ∷ front) rest all =
    let parts = and_parts (p x) (list_all p front) all in
    let further = prefix-past p front rest parts.1 in
    ap (λ b. cond {A = ℕ} b (1 + prefix_len p (front ++ rest)) 0) parts.0 ∙ omega arith

-- without a front that passes, before an element that does not
pub drop-front : (p : ℕ → Bool) (front : List ℕ) (x : ℕ) (rest : List ℕ) → list_all p front ≡ true → p x ≡ false → drop (prefix_len p (front ++ x ∷ rest)) (front ++ x ∷ rest) ≡ x ∷ rest
drop-front p front x rest all none =
    let stops : prefix_len p (x ∷ rest) ≡ 0 = ap (λ b. cond {A = ℕ} b (1 + prefix_len p rest) 0) none in
    let size : prefix_len p (front ++ x ∷ rest) ≡ length front = prefix-past p front (x ∷ rest) all ∙ omega arith in
    ap (λ n. drop n (front ++ x ∷ rest)) size ∙ drop_past front (x ∷ rest)
  where
    drop_past : (xs ys : List ℕ) → drop (length xs) (xs ++ ys) ≡ ys
    drop_past [] ys = refl
    drop_past (z ∷ xs) ys = drop_past xs ys

-- without a back that passes, after elements that do not
pub take-back : (p : ℕ → Bool) (kept back : List ℕ) → list_all (λ x. not (p x)) kept ≡ true → list_all p back ≡ true → take (length (kept ++ back) - suffix_len p (kept ++ back)) (kept ++ back) ≡ kept
take-back p kept back none all =
    let sizes = length-append kept back in
    let off : suffix_len p (kept ++ back) ≡ length (kept ++ back) - length kept =
    suffix_len_is p (kept ++ back) (length kept) 0 (omega arith)
    (λ k from inside. ap p (further kept back k from) ∙ AllPass-from_list_all p back all (k - length kept) 0 (omega arith))
    (λ some. fails _ (ap (λ x. not (p x)) (within kept back (length kept - 1) (omega arith)) ∙ AllPass-from_list_all (λ x. not (p x)) kept none (length kept - 1) 0 (omega arith))) in
    let left : length (kept ++ back) - suffix_len p (kept ++ back) ≡ length kept = omega arith in
    ap (λ n. take n (kept ++ back)) left ∙ take_at kept back (length kept) refl
  where
    fails : (b : Bool) → not b ≡ true → b ≡ false
    fails false e = refl
    fails true e = sym e

    further : (xs ys : List ℕ) (k : ℕ) → length xs ≤ k → get_or (xs ++ ys) k 0 ≡ get_or ys (k - length xs) 0
    further [] ys k from = ap (λ n. get_or ys n 0) (omega arith)
    further (x ∷ xs) ys zero from = absurd (omega arith)
    further (x ∷ xs) ys (suc k) from = further xs ys k (omega arith) ∙ ap (λ n. get_or ys n 0) (omega arith)

    within : (xs ys : List ℕ) (k : ℕ) → k < length xs → get_or (xs ++ ys) k 0 ≡ get_or xs k 0
    within [] ys k below = absurd (omega arith)
    within (x ∷ xs) ys zero below = refl
    within (x ∷ xs) ys (suc k) below = within xs ys k (omega arith)
