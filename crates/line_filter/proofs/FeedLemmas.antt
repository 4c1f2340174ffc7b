-- Lanes of bytes: where the first LF stands, and which bytes before it are of ASCII.
use Rattle.std.proofs.Common.{◌≡◌, ℕ, ◌+◌, ◌%◌, ◌^◌, ◌<◌, ◌≤◌, Bool, true, false, not, cond, eqb, leb, List, length, get_or, map, replicate, sym, ap, ◌∙◌, subst, ⊎_elim, arith, leb-false}
use Rattle.std.proofs.lemmas.Bool.{cases_lt, true≢false}
use Rattle.std.proofs.lemmas.List.{length-map}
use Rattle.std.proofs.lemmas.Nat.Bits.{bit_at-trailing_zeros}
use Rattle.std.proofs.lemmas.Simd.{bitmask_splat, length-chunk, mask_l-lt, mask_l-mod, none_from_empty_mask, run_in_chunk_fails, run_in_chunk_stops, tops_compared, trailing_mask_l, zip2_splat_left}
use Rattle.std.specs.List.{prefix_len}
use lib.Count.{count_trailing_zeros}
use lib.Lanes.{chunk, mask_l, top, zip2}
use mir.Syntax.{w8, w64}
use Rattle.memchr.specs.Find.{Nowhere, Passes, is_byte}
use Rattle.line_filter.specs.private.Ascii.{AsciiBetween, is_beyond}

-- the two tests of a vector, as the code makes them
pub feeds_mask : (lanes : List ℕ) → length lanes ≡ 64 → mask_l (map (top 7) (zip2 (λ a b. cond (eqb a b) 255 0) lanes (replicate 64 10))) % 2 ^ 64 ≡ mask_l (map (is_byte 10) lanes)
feeds_mask lanes long = bitmask_splat w8 eqb lanes 64 10 long (omega arith)

pub beyond_mask : (lanes : List ℕ) → length lanes ≡ 64 → mask_l (map (top 7) (zip2 (λ a b. cond (leb a b) 255 0) (replicate 64 128) lanes)) % 2 ^ 64 ≡ mask_l (map is_beyond lanes)
beyond_mask lanes long =
    ap (λ z. mask_l z % 2 ^ 64) (tops_compared w8 leb (replicate 64 128) lanes ∙ zip2_splat_left leb 128 64 lanes long)
    ∙ mask_l-mod (map (leb 128) lanes) 64 (omega (arith, length-map lanes (leb 128), long))

module _ (d : List ℕ) (i m : ℕ) (room : i + 64 ≤ length d) where
  counted : (p : ℕ → Bool) → m ≡ mask_l (map p (chunk i 64 d)) → 0 < m → count_trailing_zeros 64 m ≡ prefix_len (λ x. not (p x)) (chunk i 64 d)
  counted p is some = ap (count_trailing_zeros 64) is ∙ trailing_mask_l p 64 (chunk i 64 d) (omega (arith, length-chunk i 64 d room)) (omega (arith, is, some))

  -- where no lane is an LF
  pub no_feed_there : m ≡ mask_l (map (is_byte 10) (chunk i 64 d)) → m ≡ 0 → Nowhere (Passes (is_byte 10) d) i (i + 64)
  no_feed_there is none k from to feed = true≢false (sym feed ∙ none_from_empty_mask (is_byte 10) d i 64 0 room (sym is ∙ none) k from to)

  -- and where one is
  module _ (is : m ≡ mask_l (map (is_byte 10) (chunk i 64 d))) (some : 0 < m) where
    pub feed_within : count_trailing_zeros 64 m < 64
    feed_within =
        let tests = map (is_byte 10) (chunk i 64 d) in
        let long : length tests ≡ 64 = length-map (chunk i 64 d) (is_byte 10) ∙ length-chunk i 64 d room in
        let fits : m < 2 ^ 64 = subst (λ k. k < 2 ^ 64) (sym is) (subst (λ k. mask_l tests < 2 ^ k) long (mask_l-lt tests)) in
        (bit_at-trailing_zeros w64 m some fits).0

    pub no_feed_before : Nowhere (Passes (is_byte 10) d) i (i + count_trailing_zeros 64 m)
    no_feed_before k from to feed =
        true≢false (sym feed ∙ run_in_chunk_fails (is_byte 10) d i 64 (count_trailing_zeros 64 m) 0 room (counted (is_byte 10) is some) k from to)

    pub feed_there : Passes (is_byte 10) d (i + count_trailing_zeros 64 m)
    feed_there = run_in_chunk_stops (is_byte 10) d i 64 (count_trailing_zeros 64 m) 0 room (counted (is_byte 10) is some) feed_within

  -- where no lane is beyond ASCII, and before the first that is
  pub ascii_there : m ≡ mask_l (map is_beyond (chunk i 64 d)) → m ≡ 0 → AsciiBetween d i (i + 64)
  ascii_there is none k from to = leb-false 128 (get_or d k 0) (none_from_empty_mask is_beyond d i 64 0 room (sym is ∙ none) k from to)

  pub ascii_before : (n : ℕ) → m ≡ mask_l (map is_beyond (chunk i 64 d)) → n ≤ count_trailing_zeros 64 m → n ≤ 64 → AsciiBetween d i (i + n)
  ascii_before n is few short k from to =
      ⊎_elim
      (λ some. leb-false 128 (get_or d k 0) (run_in_chunk_fails is_beyond d i 64 (count_trailing_zeros 64 m) 0 room (counted is_beyond is some) k from (omega (arith, to, few))))
      (λ none. ascii_there is (omega (arith, none)) k from (omega (arith, to, short))) (cases_lt 0 m)

-- from one offset up to another, and from there on
pub no_feed_further : (d : List ℕ) (i j to : ℕ) → Nowhere (Passes (is_byte 10) d) i j → Nowhere (Passes (is_byte 10) d) j to → Nowhere (Passes (is_byte 10) d) i to
no_feed_further d i j to before further k low high feed = ⊎_elim (λ below. before k low below feed) (λ above. further k above high feed) (cases_lt k j)

pub ascii_further : (d : List ℕ) (i j to : ℕ) → AsciiBetween d i j → AsciiBetween d j to → AsciiBetween d i to
ascii_further d i j to before further k low high = ⊎_elim (λ below. before k low below) (λ above. further k above high) (cases_lt k j)
