-- Lemmas on lanes of bytes: where the first quote, backslash, bracket, brace or control character stands.
use Rattle.std.proofs.Common.{◌≡◌, ℕ, zero, suc, ◌+◌, ◌-◌, ◌*◌, ◌/◌, ◌%◌, ◌^◌, ◌<◌, ◌≤◌, Bool, true, false, ◌||◌, cond, eqb, ltb, List, [], ◌∷◌, length, map, replicate, take, drop, bit_or, refl, sym, ap, ◌∙◌, subst, arith}
use Rattle.std.proofs.lemmas.List.{drop-drop, drop-map, drop-take, length-map}
use Rattle.std.proofs.lemmas.Nat.{shr-shr, shr_le}
use Rattle.std.proofs.lemmas.Simd.{length-chunk, map-map, mask_l-mod, none_from_empty_mask, run_in_chunk_fails, run_in_chunk_le, trailing_mask_l, zip2_of_maps, zip2_splat}
use Rattle.std.specs.List.{prefix_len}
use Rattle.std.specs.Prelude.{not, slice_range}
use lib.Count.{count_trailing_zeros}
use lib.Lanes.{chunk, mask_l, top, zip2}
use Rattle.collection_reader.specs.private.PlainBytes.{ArePlain, is_stop}

-- a bit of several lanes
lane : (a b : Bool) → bit_or (cond a 255 0) (cond b 255 0) ≡ cond (a || b) 255 0
lane true true = refl
lane true false = refl
lane false true = refl
lane false false = refl

top_lane : (a : Bool) → top 7 (cond a 255 0) ≡ a
top_lane true = refl
top_lane false = refl

-- two tests that were joined, lane by lane
joined : (p q : ℕ → Bool) (xs ys lanes : List ℕ) → xs ≡ map (λ x. cond (p x) 255 0) lanes → ys ≡ map (λ x. cond (q x) 255 0) lanes
    → zip2 bit_or xs ys ≡ map (λ x. cond (p x || q x) 255 0) lanes
joined p q xs ys lanes is_xs is_ys =
    zip2_of_maps bit_or (λ x. cond (p x) 255 0) (λ x. cond (q x) 255 0) lanes is_xs is_ys ∙ (λ i. map (λ x. lane (p x) (q x) i) lanes)

-- the seven tests of a vector, as the code makes them
pub stops_mask : (lanes : List ℕ) (n : ℕ) → length lanes ≡ n → n ≤ 64
    → mask_l (map (top 7)
    (zip2 bit_or
    (zip2 bit_or
    (zip2 bit_or
    (zip2 bit_or
    (zip2 bit_or
    (zip2 bit_or (zip2 (λ a b. cond (eqb a b) 255 0) lanes (replicate n 34)) (zip2 (λ a b. cond (eqb a b) 255 0) lanes (replicate n 92)))
    (zip2 (λ a b. cond (eqb a b) 255 0) lanes (replicate n 123)))
    (zip2 (λ a b. cond (eqb a b) 255 0) lanes (replicate n 91)))
    (zip2 (λ a b. cond (eqb a b) 255 0) lanes (replicate n 125)))
    (zip2 (λ a b. cond (eqb a b) 255 0) lanes (replicate n 93)))
    (zip2 (λ a b. cond (ltb a b) 255 0) lanes (replicate n 32)))) % 2 ^ 64
    ≡ mask_l (map is_stop lanes)
stops_mask lanes n long few =
    let at = λ (k : ℕ). zip2_splat {X = ℕ} {Y = ℕ} {Z = ℕ} (λ a b. cond (eqb a b) 255 0) lanes n k long in
    let low = zip2_splat {X = ℕ} {Y = ℕ} {Z = ℕ} (λ a b. cond (ltb a b) 255 0) lanes n 32 long in
    let two = joined (λ x. eqb x 34) (λ x. eqb x 92) _ _ lanes (at 34) (at 92) in
    let three = joined (λ x. eqb x 34 || eqb x 92) (λ x. eqb x 123) _ _ lanes two (at 123) in
    let four = joined (λ x. (eqb x 34 || eqb x 92) || eqb x 123) (λ x. eqb x 91) _ _ lanes three (at 91) in
    let five = joined (λ x. ((eqb x 34 || eqb x 92) || eqb x 123) || eqb x 91) (λ x. eqb x 125) _ _ lanes four (at 125) in
    let six = joined (λ x. (((eqb x 34 || eqb x 92) || eqb x 123) || eqb x 91) || eqb x 125) (λ x. eqb x 93) _ _ lanes five (at 93) in
    let all = joined (λ x. ((((eqb x 34 || eqb x 92) || eqb x 123) || eqb x 91) || eqb x 125) || eqb x 93) (λ x. ltb x 32) _ _ lanes six low in
    ap (λ z. mask_l (map (top 7) z) % 2 ^ 64) all
    ∙ ap (λ z. mask_l z % 2 ^ 64) (map-map (top 7) (λ x. cond ((((((eqb x 34 || eqb x 92) || eqb x 123) || eqb x 91) || eqb x 125) || eqb x 93) || ltb x 32) 255 0) lanes)
    ∙ (λ i. mask_l (map (λ x. top_lane ((((((eqb x 34 || eqb x 92) || eqb x 123) || eqb x 91) || eqb x 125) || eqb x 93) || ltb x 32) i) lanes) % 2 ^ 64)
    ∙ mask_l-mod (map is_stop lanes) 64 (subst (λ k. k ≤ 64) (sym (length-map lanes is_stop ∙ long)) few)

-- where no lane stops, all are plain
pub all_plain : (d : List ℕ) (i n m : ℕ) → i + n ≤ length d → m ≡ mask_l (map is_stop (chunk i n d)) → m ≡ 0 → ArePlain d i (i + n)
all_plain d i n m room is none = none_from_empty_mask is_stop d i n 0 room (sym is ∙ none)

module _ (d : List ℕ) (i n m : ℕ) (room : i + n ≤ length d) (few : n ≤ 64) (is : m ≡ mask_l (map is_stop (chunk i n d))) (some : 0 < m) where
  counted : count_trailing_zeros 64 m ≡ prefix_len (λ x. not (is_stop x)) (chunk i n d)
  counted = ap (count_trailing_zeros 64) is ∙ trailing_mask_l is_stop 64 (chunk i n d) (omega (arith, length-chunk i n d room)) (omega (arith, is))

  -- the first lane that stops is one of them
  pub run_within : count_trailing_zeros 64 m ≤ n
  run_within = run_in_chunk_le is_stop d i n (count_trailing_zeros 64 m) 0 room counted

  -- those before it are plain
  pub plain_before : ArePlain d i (i + count_trailing_zeros 64 m)
  plain_before = run_in_chunk_fails is_stop d i n (count_trailing_zeros 64 m) 0 room counted

half : (b : Bool) (m : ℕ) → (cond b 1 0 + 2 * m) / 2 ^ 1 ≡ m
half true m = omega arith
half false m = omega arith

-- a mask without its first lanes
mask-drop : (k : ℕ) (bs : List Bool) → mask_l bs / 2 ^ k ≡ mask_l (drop k bs)
mask-drop zero bs = omega arith
mask-drop (suc k) [] = let low = shr_le 0 (suc k) in omega (arith, low)
mask-drop (suc k) (b ∷ bs) =
    let one : suc k ≡ 1 + k = omega arith in
    ap (λ (e : ℕ). (cond b 1 0 + 2 * mask_l bs) / 2 ^ e) one ∙ sym (shr-shr (cond b 1 0 + 2 * mask_l bs) 1 k)
    ∙ ap (λ (x : ℕ). x / 2 ^ k) (half b (mask_l bs)) ∙ mask-drop k bs

-- the lanes after the first one that stops
pub mask_after : (d : List ℕ) (i k block m : ℕ) → i + k ≤ block → m ≡ mask_l (map is_stop (slice_range d i block))
    → m / 2 ^ k ≡ mask_l (map is_stop (slice_range d (i + k) block))
mask_after d i k block m within is =
    let parts : block - i ≡ k + (block - (i + k)) = omega arith in
    ap (λ (x : ℕ). x / 2 ^ k) is ∙ mask-drop k (map is_stop (slice_range d i block))
    ∙ ap mask_l (drop-map is_stop k (slice_range d i block)
    ∙ ap (map is_stop) (ap (λ (c : ℕ). drop k (take c (drop i d))) parts ∙ drop-take k (block - (i + k)) (drop i d) ∙ ap (take (block - (i + k))) (drop-drop k i d)))
