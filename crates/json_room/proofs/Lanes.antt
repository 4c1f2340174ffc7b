-- Lanes of bytes: where the first one stands that is no digit, or that is beyond ASCII.
use Rattle.std.proofs.Common.{◌≡◌, ℕ, zero, suc, ◌+◌, ◌-◌, ◌%◌, ◌^◌, ◌<◌, ◌≤◌, Bool, true, false, not, ◌&&◌, cond, ltb, leb, T, List, [], ◌∷◌, length, get_or, map, replicate, refl, sym, ap, ap₂, ◌∙◌, subst, ⊎_elim, arith, leb-false, Fits, w8}
use Rattle.std.proofs.lemmas.Bool.{cases_lt, not-false}
use Rattle.std.proofs.lemmas.List.{length-map}
use Rattle.std.proofs.lemmas.Simd.{length-chunk, map-map, mask_l-mod, none_from_empty_mask, run_in_chunk_fails, run_in_chunk_le, tops_compared, trailing_mask_l, zip2_splat, zip2_splat_left}
use Rattle.std.specs.Char.{is_ascii_digit}
use Rattle.std.specs.List.{prefix_len}
use lib.Count.{count_trailing_zeros}
use lib.Lanes.{Each1, chunk, mask_l, top, zip2}
use Rattle.json.specs.Run.{is_no_digit}
use Rattle.json_room.specs.private.Lexemes.{AsciiBetween, DigitsBetween}
use Rattle.json_room.specs.private.Utf8.{is_beyond}

-- ---- a test of each byte, found equal to another by trying them all

same : Bool → Bool → Bool
same true b = b
same false b = not b

same_is : (a b : Bool) → T (same a b) → a ≡ b
unfolding same
same_is true true t = refl
same_is true false t = absurd t
same_is false true t = absurd t
same_is false false t = refl

upto : (ℕ → Bool) → ℕ → Bool
upto p zero = true
upto p (suc n) = p n && upto p n

first_part : (a b : Bool) → T (a && b) → T a
first_part true b t = tt
first_part false b t = t

second_part : (a b : Bool) → T (a && b) → T b
second_part true b t = t
second_part false b t = absurd t

upto_sound : (p : ℕ → Bool) (n : ℕ) → T (upto p n) → (x : ℕ) → x < n → T (p x)
unfolding upto
upto_sound p zero all x low = absurd (omega (arith, low))
upto_sound p (suc n) all x low =
    ⊎_elim (λ below. upto_sound p n (second_part (p n) (upto p n) all) x below)
    (λ above. let is : n ≡ x = omega (arith, above, low) in subst (λ k. T (p k)) is (first_part (p n) (upto p n) all)) (cases_lt x n)

-- ---- digits

-- a byte less 48, without a borrow, is above 9
abbrev past_nine : ℕ → Bool
past_nine x = ltb 9 ((x + 208) % 256)

past_nine_is : (x : ℕ) → x < 256 → past_nine x ≡ is_no_digit x
unfolding upto same
past_nine_is x low = same_is _ _ (upto_sound (λ y. same (past_nine y) (is_no_digit y)) 256 tt x low)

each_is : (v : List ℕ) → Each1 (Fits w8) v → map past_nine v ≡ map is_no_digit v
each_is [] fits = refl
each_is (x ∷ xs) fits = ap₂ (λ a b. a ∷ b) (past_nine_is x fits.0.fits) (each_is xs fits.1)

-- the test of a vector, as the code makes it
pub others_mask : (lanes : List ℕ) → length lanes ≡ 16 → Each1 (Fits w8) lanes
    → mask_l (map (top 7) (zip2 (λ a b. cond (ltb a b) 255 0) (replicate 16 9) (zip2 (λ a b. (a + (256 - b)) % 256) lanes (replicate 16 48)))) % 2 ^ 64 ≡ mask_l (map is_no_digit lanes)
others_mask lanes long fits =
    let ys = zip2 (λ a b. (a + (256 - b)) % 256) lanes (replicate 16 48) in
    let less : ys ≡ map (λ x. (x + 208) % 256) lanes = zip2_splat (λ a b. (a + (256 - b)) % 256) lanes 16 48 long in
    let count : length ys ≡ 16 = ap length less ∙ length-map lanes (λ x. (x + 208) % 256) ∙ long in
    ap (λ z. mask_l z % 2 ^ 64)
    (tops_compared w8 ltb (replicate 16 9) ys ∙ zip2_splat_left ltb 9 16 ys count ∙ ap (map (ltb 9)) less ∙ map-map (ltb 9) (λ x. (x + 208) % 256) lanes ∙ each_is lanes fits)
    ∙ mask_l-mod (map is_no_digit lanes) 64 (omega (arith, length-map lanes is_no_digit, long))

digit_where : (x : ℕ) → is_no_digit x ≡ false → is_ascii_digit x ≡ true
digit_where x is = not-false (is_ascii_digit x) is

-- where no lane is another byte, all are digits
pub all_digits_there : (d : List ℕ) (i n m : ℕ) → i + n ≤ length d → m ≡ mask_l (map is_no_digit (chunk i n d)) → m ≡ 0 → DigitsBetween d i (i + n)
all_digits_there d i n m room is none k from to = digit_where (get_or d k 0) (none_from_empty_mask is_no_digit d i n 0 room (sym is ∙ none) k from to)

module _ (d : List ℕ) (i n m : ℕ) (room : i + n ≤ length d) (few : n ≤ 64) (is : m ≡ mask_l (map is_no_digit (chunk i n d))) (some : 0 < m) where
  counted : count_trailing_zeros 64 m ≡ prefix_len (λ x. not (is_no_digit x)) (chunk i n d)
  counted = ap (count_trailing_zeros 64) is ∙ trailing_mask_l is_no_digit 64 (chunk i n d) (omega (arith, length-chunk i n d room)) (omega (arith, is))

  pub digit_run_le : count_trailing_zeros 64 m ≤ n
  digit_run_le = run_in_chunk_le is_no_digit d i n (count_trailing_zeros 64 m) 0 room counted

  -- those before the first other one are digits
  pub digits_before : DigitsBetween d i (i + count_trailing_zeros 64 m)
  digits_before k from to = digit_where (get_or d k 0) (run_in_chunk_fails is_no_digit d i n (count_trailing_zeros 64 m) 0 room counted k from to)

-- ---- ASCII

-- the test of a vector, as the code makes it
pub beyond_mask : (lanes : List ℕ) → length lanes ≡ 16 → mask_l (map (top 7) (zip2 (λ a b. cond (leb a b) 255 0) (replicate 16 128) lanes)) % 2 ^ 64 ≡ mask_l (map is_beyond lanes)
beyond_mask lanes long =
    ap (λ z. mask_l z % 2 ^ 64) (tops_compared w8 leb (replicate 16 128) lanes ∙ zip2_splat_left leb 128 16 lanes long)
    ∙ mask_l-mod (map (leb 128) lanes) 64 (omega (arith, length-map lanes (leb 128), long))

pub all_ascii_there : (d : List ℕ) (i m : ℕ) → i + 16 ≤ length d → m ≡ mask_l (map is_beyond (chunk i 16 d)) → m ≡ 0 → AsciiBetween d i (i + 16)
all_ascii_there d i m room is none k from to = leb-false 128 (get_or d k 0) (none_from_empty_mask is_beyond d i 16 0 room (sym is ∙ none) k from to)

module _ (d : List ℕ) (i m : ℕ) (room : i + 16 ≤ length d) (is : m ≡ mask_l (map is_beyond (chunk i 16 d))) (some : 0 < m) where
  run : count_trailing_zeros 64 m ≡ prefix_len (λ x. not (is_beyond x)) (chunk i 16 d)
  run = ap (count_trailing_zeros 64) is ∙ trailing_mask_l is_beyond 64 (chunk i 16 d) (omega (arith, length-chunk i 16 d room)) (omega (arith, is))

  pub ascii_before : AsciiBetween d i (i + count_trailing_zeros 64 m)
  ascii_before k from to = leb-false 128 (get_or d k 0) (run_in_chunk_fails is_beyond d i 16 (count_trailing_zeros 64 m) 0 room run k from to)

pub ascii_joined : (d : List ℕ) (i j to : ℕ) → AsciiBetween d i j → AsciiBetween d j to → AsciiBetween d i to
ascii_joined d i j to before further k low high = ⊎_elim (λ below. before k low below) (λ above. further k above high) (cases_lt k j)
