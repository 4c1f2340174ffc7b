-- Stretches of a byte list, and where an LF stands in them.
use Rattle.std.proofs.Common.{◌≡◌, ℕ, ◌+◌, ◌-◌, ◌<◌, ◌≤◌, List, ◌++◌, length, take, drop, get_or, sym, ap, ◌∙◌, subst, arith, length-drop, length-take-le, ⊎_elim}
use Rattle.std.specs.Prelude.{slice_range, slice_index}
use Rattle.std.proofs.lemmas.List.{drop-take, drop-drop, get_or-take, get_or-drop, get_or_past}
use Rattle.std.proofs.Math.Seq.{take-add}
use Rattle.std.proofs.lemmas.Bool.{cases_lt}
use Rattle.std.specs.Str.{IsAscii}
use Rattle.memchr.specs.Find.{Nowhere, NoneBefore, Passes, is_byte}
use Rattle.line_filter.specs.private.Ascii.{AsciiBetween}

pub range-length : (xs : List ℕ) (a b : ℕ) → b ≤ length xs → length (slice_range xs a b) ≡ b - a
range-length xs a b within = length-take-le (b - a) (drop a xs) (omega (arith, length-drop a xs))

pub range-drop : (xs : List ℕ) (a b n : ℕ) → a + n ≤ b → drop n (slice_range xs a b) ≡ slice_range xs (a + n) b
range-drop xs a b n within =
    let whole : b - a ≡ n + (b - (a + n)) = omega arith in
    ap (λ m. drop n (take m (drop a xs))) whole ∙ drop-take n (b - (a + n)) (drop a xs) ∙ ap (take (b - (a + n))) (drop-drop n a xs)

pub range-read : (xs : List ℕ) (a b k : ℕ) → k < b - a → slice_index (slice_range xs a b) k ≡ slice_index xs (a + k)
range-read xs a b k within = get_or-take (b - a) (drop a xs) k 0 within ∙ get_or-drop a xs k 0

-- an LF of a stretch is one of the list
in_list : (xs : List ℕ) (a b k : ℕ) → k < b - a → Passes (is_byte 10) (slice_range xs a b) k → Passes (is_byte 10) xs (a + k)
in_list xs a b k within is = ap (is_byte 10) (sym (range-read xs a b k within)) ∙ is

pub in_range : (xs : List ℕ) (a b k : ℕ) → k < b - a → Passes (is_byte 10) xs (a + k) → Passes (is_byte 10) (slice_range xs a b) k
in_range xs a b k within is = ap (is_byte 10) (range-read xs a b k within) ∙ is

-- where the list has none from an offset on, the range from there has none
pub none_in_range : (xs : List ℕ) (a b m : ℕ) → m ≤ b → Nowhere (Passes (is_byte 10) xs) a m → Nowhere (Passes (is_byte 10) (slice_range xs a b)) 0 (m - a)
none_in_range xs a b m within none k low high is =
    none (a + k) (omega arith) (omega arith) (in_list xs a b k (omega arith) is)

-- what is found in a stretch stands in the list
pub none_of_range : (xs : List ℕ) (a b : ℕ) → a ≤ b → b ≤ length xs → Nowhere (Passes (is_byte 10) (slice_range xs a b)) 0 (length (slice_range xs a b)) → Nowhere (Passes (is_byte 10) xs) a b
none_of_range xs a b order within none k low high is =
    let there : a + (k - a) ≡ k = omega (arith, low) in
    none (k - a) (omega arith) (omega (arith, range-length xs a b within, low, high)) (in_range xs a b (k - a) (omega (arith, low, high)) (subst (Passes (is_byte 10) xs) (sym there) is))

pub first_of_range : (xs : List ℕ) (a b : ℕ) → a ≤ b → b ≤ length xs → (n : ℕ) → NoneBefore (Passes (is_byte 10) (slice_range xs a b)) 0 (length (slice_range xs a b)) n → Passes (is_byte 10) (slice_range xs a b) n
    → NoneBefore (Passes (is_byte 10) xs) a b (a + n) × Passes (is_byte 10) xs (a + n)
first_of_range xs a b order within n found is =
    let long = range-length xs a b within in
    let high : n < length (slice_range xs a b) = found.high in (
      record {
        low = omega arith;
        high = omega (arith, long, high);
        before = λ k low below here.
            let there : a + (k - a) ≡ k = omega (arith, low) in
            found.before (k - a) (omega arith) (omega (arith, low, below)) (in_range xs a b (k - a) (omega (arith, low, below, long, high)) (subst (Passes (is_byte 10) xs) (sym there) here));
      },
      in_list xs a b n (omega (arith, long, high)) is,
    )

-- ---- a search that goes on where the last one ended

module _ (xs : List ℕ) (a s f : ℕ) (start : a ≤ s) (order : s ≤ f) (within : f ≤ length xs) (before : Nowhere (Passes (is_byte 10) xs) a s) where
  pub searched_to : (m : ℕ) → Nowhere (Passes (is_byte 10) xs) s m → Nowhere (Passes (is_byte 10) xs) a m
  searched_to m further k low high is = ⊎_elim (λ below. before k low below is) (λ above. further k above high is) (cases_lt k s)

  pub none_found : Nowhere (Passes (is_byte 10) xs) s f → Nowhere (Passes (is_byte 10) (slice_range xs a f)) 0 (length (slice_range xs a f))
  none_found none =
      subst (Nowhere (Passes (is_byte 10) (slice_range xs a f)) 0) (sym (range-length xs a f within)) (none_in_range xs a f f (omega arith) (searched_to f none))

  pub found_first : (k : ℕ) → NoneBefore (Passes (is_byte 10) xs) s f k → Passes (is_byte 10) xs k
      → NoneBefore (Passes (is_byte 10) (slice_range xs a f)) 0 (length (slice_range xs a f)) (k - a) × Passes (is_byte 10) (slice_range xs a f) (k - a)
  found_first k found is =
      let all = range-length xs a f within in
      let low : s ≤ k = found.low in
      let high : k < f = found.high in
      let fits : k - a < f - a = omega (arith, low, high, start) in
      let there : a + (k - a) ≡ k = omega (arith, low, start) in (
        record {
          low = omega arith;
          high = omega (arith, all, fits);
          before = none_in_range xs a f k (omega (arith, high)) (searched_to k found.before);
        },
        in_range xs a f (k - a) fits (subst (Passes (is_byte 10) xs) (sym there) is),
      )

-- ---- bytes of ASCII

pub range_ascii : (xs : List ℕ) (a b : ℕ) → b ≤ length xs → AsciiBetween xs a b → IsAscii (slice_range xs a b)
range_ascii xs a b within ascii k =
    let long = range-length xs a b within in
    ⊎_elim (λ inside. subst (λ x. x < 128) (sym (range-read xs a b k inside)) (ascii (a + k) (omega arith) (omega (arith, inside))))
    (λ past. let none = get_or_past (slice_range xs a b) k 0 (omega (arith, long, past)) in omega (arith, none)) (cases_lt k (b - a))

-- ---- more bytes after these

read_front : (xs ys : List ℕ) (f k : ℕ) → take f ys ≡ take f xs → k < f → slice_index ys k ≡ slice_index xs k
read_front xs ys f k same below = sym (get_or-take f ys k 0 below) ∙ ap (λ l. get_or l k 0) same ∙ get_or-take f xs k 0 below

pub none_kept : (xs ys : List ℕ) (a m f : ℕ) → take f ys ≡ take f xs → m ≤ f → Nowhere (Passes (is_byte 10) xs) a m → Nowhere (Passes (is_byte 10) ys) a m
none_kept xs ys a m f same within none k low high is =
    none k low high (ap (is_byte 10) (sym (read_front xs ys f k same (omega arith))) ∙ is)

pub range-grown : (xs ys : List ℕ) (a f n : ℕ) → take f ys ≡ take f xs → a ≤ f → slice_range ys a (f + n) ≡ slice_range xs a f ++ take n (drop f ys)
range-grown xs ys a f n same order =
    let all : f + n - a ≡ (f - a) + n = omega arith in
    let whole : a + (f - a) ≡ f = omega arith in
    let back : drop a (take f ys) ≡ take (f - a) (drop a ys) = ap (λ k. drop a (take k ys)) (sym whole) ∙ drop-take a (f - a) ys in
    let front : drop a (take f xs) ≡ take (f - a) (drop a xs) = ap (λ k. drop a (take k xs)) (sym whole) ∙ drop-take a (f - a) xs in
    ap (λ k. take k (drop a ys)) all ∙ take-add (f - a) n (drop a ys)
    ∙ ap (λ l. l ++ take n (drop (f - a) (drop a ys))) (sym back ∙ ap (drop a) same ∙ front)
    ∙ ap (λ l. take (f - a) (drop a xs) ++ take n l) (drop-drop (f - a) a ys ∙ ap (λ k. drop k ys) whole)

pub ascii_kept : (xs ys : List ℕ) (a m f : ℕ) → take f ys ≡ take f xs → m ≤ f → AsciiBetween xs a m → AsciiBetween ys a m
ascii_kept xs ys a m f same within ascii k low high = subst (λ x. x < 128) (sym (read_front xs ys f k same (omega arith))) (ascii k low high)
