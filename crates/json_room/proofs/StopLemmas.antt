-- Lemmas on lanes of bytes: where the first quote, backslash or control character stands.
use Rattle.std.proofs.Common.{◌≡◌, ℕ, ◌+◌, ◌%◌, ◌^◌, ◌<◌, ◌≤◌, Bool, true, false, not, ◌||◌, cond, eqb, ltb, List, length, map, replicate, bit_or, refl, sym, ap, ◌∙◌, subst, arith}
use Rattle.std.proofs.lemmas.List.{length-map}
use Rattle.std.proofs.lemmas.Simd.{length-chunk, map-map, mask_l-mod, none_from_empty_mask, run_in_chunk_fails, run_in_chunk_le, trailing_mask_l, zip2_of_maps, zip2_splat}
use Rattle.std.specs.List.{prefix_len}
use lib.Count.{count_trailing_zeros}
use lib.Lanes.{chunk, mask_l, top, zip2}
use Rattle.json.specs.Run.{is_stop}
use Rattle.json.specs.Written.{PlainBetween}

stop_lane : (a b c : Bool) → top 7 (bit_or (bit_or (cond a 255 0) (cond b 255 0)) (cond c 255 0)) ≡ (a || b || c)
stop_lane true true true = refl
stop_lane true true false = refl
stop_lane true false true = refl
stop_lane true false false = refl
stop_lane false true true = refl
stop_lane false true false = refl
stop_lane false false true = refl
stop_lane false false false = refl

-- the three tests of a vector, as the code makes them
pub stops_mask : (lanes : List ℕ) (n : ℕ) → length lanes ≡ n → n ≤ 64
    → mask_l (map (top 7) (zip2 bit_or (zip2 bit_or (zip2 (λ a b. cond (eqb a b) 255 0) lanes (replicate n 34)) (zip2 (λ a b. cond (eqb a b) 255 0) lanes (replicate n 92))) (zip2 (λ a b. cond (ltb a b) 255 0) lanes (replicate n 32)))) % 2 ^ 64
    ≡ mask_l (map is_stop lanes)
stops_mask lanes n long few =
    let quotes = zip2_splat (λ a b. cond (eqb a b) 255 0) lanes n 34 long in
    let backslashes = zip2_splat (λ a b. cond (eqb a b) 255 0) lanes n 92 long in
    let controls = zip2_splat (λ a b. cond (ltb a b) 255 0) lanes n 32 long in
    let tests = zip2_of_maps bit_or _ _ lanes (zip2_of_maps bit_or _ _ lanes quotes backslashes) controls in
    ap (λ z. mask_l (map (top 7) z) % 2 ^ 64) tests ∙ ap (λ z. mask_l z % 2 ^ 64) (map-map (top 7) _ lanes)
    ∙ (λ i. mask_l (map (λ x. stop_lane (eqb x 34) (eqb x 92) (ltb x 32) i) lanes) % 2 ^ 64)
    ∙ mask_l-mod (map is_stop lanes) 64 (subst (λ k. k ≤ 64) (sym (length-map lanes is_stop ∙ long)) few)

-- where no lane stops, all are plain
pub all_plain : (d : List ℕ) (i n m : ℕ) → i + n ≤ length d → m ≡ mask_l (map is_stop (chunk i n d)) → m ≡ 0 → PlainBetween d i (i + n)
all_plain d i n m room is none k from to = ap not (none_from_empty_mask is_stop d i n 0 room (sym is ∙ none) k from to)

module _ (d : List ℕ) (i n m : ℕ) (room : i + n ≤ length d) (few : n ≤ 64) (is : m ≡ mask_l (map is_stop (chunk i n d))) (some : 0 < m) where
  counted : count_trailing_zeros 64 m ≡ prefix_len (λ x. not (is_stop x)) (chunk i n d)
  counted = ap (count_trailing_zeros 64) is ∙ trailing_mask_l is_stop 64 (chunk i n d) (omega (arith, length-chunk i n d room)) (omega (arith, is))

  -- the first lane that stops is one of them
  pub run_within : count_trailing_zeros 64 m ≤ n
  run_within = run_in_chunk_le is_stop d i n (count_trailing_zeros 64 m) 0 room counted

  -- those before it are plain
  pub plain_before : PlainBetween d i (i + count_trailing_zeros 64 m)
  plain_before k from to = ap not (run_in_chunk_fails is_stop d i n (count_trailing_zeros 64 m) 0 room counted k from to)
