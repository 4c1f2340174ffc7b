-- Texts of Guids, by the groups of their digits.
use Rattle.std.proofs.Common.{◌≡◌, ℕ, zero, suc, ◌+◌, ◌/◌, ◌%◌, ◌^◌, ◌<◌, ◌≤◌, Bool, true, false, cond, List, [], ◌∷◌, ◌++◌, length, map, take, drop, get_or, refl, sym, ap, ap₂, ◌∙◌, subst, arith}
use Rattle.std.proofs.Math.Seq.{drop-append_seam, take-append_seam}
use Rattle.std.proofs.lemmas.Bool.Decides.{nat_tests}
use Rattle.std.proofs.lemmas.List.{length-append}
use Rattle.std.specs.Char.{digit_value}
use Rattle.std.specs.Str.Parse.{AllDigits}
use Rattle.edm_values.specs.GuidLiteral.{GuidValue, IsGuidSpelling, digit_groups, guid_text, hex_bytes}
use Rattle.room_literals.proofs.LiteralTexts.{ArePlain, plain_joined, plain_low}
use Rattle.room_literals.proofs.MomentTexts.{one_byte, piece, piece_at, piece_long, pieces_joined}
use Rattle.room_literals.specs.private.SureTexts.{IsGuidAt}

-- ---- groups of digits

AllDigits-join : (s t : List ℕ) → AllDigits 16 s → AllDigits 16 t → AllDigits 16 (s ++ t)
AllDigits-join [] t first more = more
AllDigits-join (x ∷ s) t first more = (first.0, AllDigits-join s t first.1 more)

each_hex : (s : List ℕ) → ((k : ℕ) → k < length s → digit_value (get_or s k 0) < 16) → AllDigits 16 s
each_hex [] each = tt
each_hex (x ∷ s) each = (each 0 (omega arith), each_hex s (λ k inside. each (suc k) (omega (arith, inside))))

group : (p rest : List ℕ) (size : ℕ) (sizes : List ℕ) → length p ≡ size → digit_groups (size ∷ sizes) (p ++ rest) ≡ p ++ 45 ∷ digit_groups sizes rest
group p rest size sizes long =
    subst (λ (n : ℕ). digit_groups (n ∷ sizes) (p ++ rest) ≡ p ++ 45 ∷ digit_groups sizes rest) long
    (ap₂ (λ (s t : List ℕ). s ++ 45 ∷ digit_groups sizes t) (take-append_seam p rest) (drop-append_seam p rest))

groups : (a b c d e : List ℕ) → length a ≡ 8 → length b ≡ 4 → length c ≡ 4 → length d ≡ 4 → guid_text (a ++ (b ++ (c ++ (d ++ e)))) ≡ a ++ 45 ∷ (b ++ 45 ∷ (c ++ 45 ∷ (d ++ 45 ∷ e)))
groups a b c d e la lb lc ld =
    group a (b ++ (c ++ (d ++ e))) 8 (4 ∷ 4 ∷ 4 ∷ []) la
    ∙ ap (λ (s : List ℕ). a ++ 45 ∷ s) (group b (c ++ (d ++ e)) 4 (4 ∷ 4 ∷ []) lb
    ∙ ap (λ (s : List ℕ). b ++ 45 ∷ s) (group c (d ++ e) 4 (4 ∷ []) lc ∙ ap (λ (s : List ℕ). c ++ 45 ∷ s) (group d e 4 [] ld)))

-- the bytes of a group, and of the hyphen after it
part : (b : List ℕ) (i n rest : ℕ) (text : List ℕ) → i + n + 1 ≤ length b → get_or b (i + n) 0 ≡ 45 → piece b (i + n + 1) rest ≡ text → piece b i (n + (1 + rest)) ≡ piece b i n ++ 45 ∷ text
part b i n rest text room hyphen behind =
    pieces_joined b i n (1 + rest) ∙ ap (λ (s : List ℕ). piece b i n ++ s)
    (pieces_joined b (i + n) 1 rest ∙ ap₂ (λ (s t : List ℕ). s ++ t) (one_byte b (i + n) 45 room hyphen) behind)

hex_piece : (b : List ℕ) (i n : ℕ) → i + n ≤ length b → ((k : ℕ) → k < n → digit_value (get_or b (i + k) 0) < 16) → AllDigits 16 (piece b i n)
hex_piece b i n room hex =
    let long = piece_long b i n room in
    each_hex (piece b i n) (λ k inside.
    let few : k < n = omega (arith, inside, long) in
    subst (λ (x : ℕ). digit_value x < 16) (sym (piece_at b i n k few)) (hex k few))

at : (b : List ℕ) (i j k : ℕ) → i + j ≡ k → digit_value (get_or b k 0) < 16 → digit_value (get_or b (i + j) 0) < 16
at b i j k same holds = subst (λ (m : ℕ). digit_value (get_or b m 0) < 16) (sym same) holds

-- ---- one number below a few after the other

pub below_4 : (P : ℕ → Type 0) → P 0 → P 1 → P 2 → P 3 → (k : ℕ) → k < 4 → P k
below_4 P p0 p1 p2 p3 zero few = p0
below_4 P p0 p1 p2 p3 (suc zero) few = p1
below_4 P p0 p1 p2 p3 (suc (suc zero)) few = p2
below_4 P p0 p1 p2 p3 (suc (suc (suc zero))) few = p3
below_4 P p0 p1 p2 p3 (suc (suc (suc (suc k)))) few = absurd (omega (arith, few))

above_4 : (P : ℕ → Type 0) (n : ℕ) → P 0 → P 1 → P 2 → P 3 → ((k : ℕ) → k < n → P (4 + k)) → (k : ℕ) → k < 4 + n → P k
above_4 P n p0 p1 p2 p3 more zero few = p0
above_4 P n p0 p1 p2 p3 more (suc zero) few = p1
above_4 P n p0 p1 p2 p3 more (suc (suc zero)) few = p2
above_4 P n p0 p1 p2 p3 more (suc (suc (suc zero))) few = p3
above_4 P n p0 p1 p2 p3 more (suc (suc (suc (suc k)))) few =
    let there : 4 + k ≡ suc (suc (suc (suc k))) = omega arith in
    subst P there (more k (omega (arith, few)))

-- ---- 36 bytes by three masks of their lanes

abbrev pub Lanes : List ℕ → ℕ → ℕ → Type 0
Lanes b i mask = (k : ℕ) → k < 16 → mask / 2 ^ k % 2 ≡ 1 → digit_value (get_or b (i + k) 0) < 16

first_group : (b : List ℕ) (i : ℕ) → Lanes b i 57087 → (k : ℕ) → k < 8 → digit_value (get_or b (i + k) 0) < 16
first_group b i lanes =
    above_4 (λ k. digit_value (get_or b (i + k) 0) < 16) 4 (lanes 0 (omega arith) refl) (lanes 1 (omega arith) refl) (lanes 2 (omega arith) refl) (lanes 3 (omega arith) refl)
    (below_4 (λ k. digit_value (get_or b (i + (4 + k)) 0) < 16) (lanes 4 (omega arith) refl) (lanes 5 (omega arith) refl) (lanes 6 (omega arith) refl) (lanes 7 (omega arith) refl))

last_group : (b : List ℕ) (i : ℕ) → Lanes b (i + 20) 65527 → (k : ℕ) → k < 12 → digit_value (get_or b (i + 24 + k) 0) < 16
last_group b i lanes =
    let P = λ (k : ℕ). digit_value (get_or b (i + 24 + k) 0) < 16 in
    let lane : (k j : ℕ) → i + 20 + j ≡ i + 24 + k → digit_value (get_or b (i + 20 + j) 0) < 16 → P k = λ k j same holds. at b (i + 24) k (i + 20 + j) (sym same) holds in
    above_4 P 8 (lane 0 4 (omega arith) (lanes 4 (omega arith) refl)) (lane 1 5 (omega arith) (lanes 5 (omega arith) refl)) (lane 2 6 (omega arith) (lanes 6 (omega arith) refl)) (lane 3 7 (omega arith) (lanes 7 (omega arith) refl))
    (above_4 (λ k. P (4 + k)) 4 (lane 4 8 (omega arith) (lanes 8 (omega arith) refl)) (lane 5 9 (omega arith) (lanes 9 (omega arith) refl)) (lane 6 10 (omega arith) (lanes 10 (omega arith) refl)) (lane 7 11 (omega arith) (lanes 11 (omega arith) refl))
    (below_4 (λ k. P (4 + (4 + k))) (lane 8 12 (omega arith) (lanes 12 (omega arith) refl)) (lane 9 13 (omega arith) (lanes 13 (omega arith) refl)) (lane 10 14 (omega arith) (lanes 14 (omega arith) refl)) (lane 11 15 (omega arith) (lanes 15 (omega arith) refl))))

inner_group : (b : List ℕ) (i j : ℕ) → digit_value (get_or b (i + j) 0) < 16 → digit_value (get_or b (i + (j + 1)) 0) < 16 → digit_value (get_or b (i + (j + 2)) 0) < 16 → digit_value (get_or b (i + (j + 3)) 0) < 16
    → (k : ℕ) → k < 4 → digit_value (get_or b (i + j + k) 0) < 16
inner_group b i j h0 h1 h2 h3 =
    below_4 (λ k. digit_value (get_or b (i + j + k) 0) < 16) (at b (i + j) 0 (i + j) (omega arith) h0) (at b (i + j) 1 (i + (j + 1)) (omega arith) h1) (at b (i + j) 2 (i + (j + 2)) (omega arith) h2)
    (at b (i + j) 3 (i + (j + 3)) (omega arith) h3)

pub guid_there : (b : List ℕ) (i : ℕ) → i + 36 ≤ length b → Lanes b i 57087 → Lanes b (i + 16) 65403 → Lanes b (i + 20) 65527 → get_or b (i + 8) 0 ≡ 45 → get_or b (i + 13) 0 ≡ 45 → get_or b (i + 18) 0 ≡ 45 → get_or b (i + 23) 0 ≡ 45
    → IsGuidAt b i
guid_there b i room first second third h8 h13 h18 h23 =
    let later : (j k : ℕ) → i + 16 + j ≡ i + k → digit_value (get_or b (i + 16 + j) 0) < 16 → digit_value (get_or b (i + k) 0) < 16 = λ j k same holds. at b i k (i + 16 + j) (sym same) holds in
    let d1 = hex_piece b i 8 (omega (arith, room)) (first_group b i first) in
    let d2 = hex_piece b (i + 9) 4 (omega (arith, room)) (inner_group b i 9 (first 9 (omega arith) refl) (first 10 (omega arith) refl) (first 11 (omega arith) refl) (first 12 (omega arith) refl)) in
    let d3 = hex_piece b (i + 14) 4 (omega (arith, room)) (inner_group b i 14 (first 14 (omega arith) refl) (first 15 (omega arith) refl) (later 0 16 (omega arith) (second 0 (omega arith) refl)) (later 1 17 (omega arith) (second 1 (omega arith) refl))) in
    let d4 = hex_piece b (i + 19) 4 (omega (arith, room)) (inner_group b i 19 (later 3 19 (omega arith) (second 3 (omega arith) refl)) (later 4 20 (omega arith) (second 4 (omega arith) refl)) (later 5 21 (omega arith) (second 5 (omega arith) refl)) (later 6 22 (omega arith) (second 6 (omega arith) refl))) in
    let d5 = hex_piece b (i + 24) 12 (omega (arith, room)) (last_group b i third) in
    let p1 = piece b i 8 in
    let p2 = piece b (i + 9) 4 in
    let p3 = piece b (i + 14) 4 in
    let p4 = piece b (i + 19) 4 in
    let p5 = piece b (i + 24) 12 in
    let l1 = piece_long b i 8 (omega (arith, room)) in
    let l2 = piece_long b (i + 9) 4 (omega (arith, room)) in
    let l3 = piece_long b (i + 14) 4 (omega (arith, room)) in
    let l4 = piece_long b (i + 19) 4 (omega (arith, room)) in
    let l5 = piece_long b (i + 24) 12 (omega (arith, room)) in
    let digits = p1 ++ (p2 ++ (p3 ++ (p4 ++ p5))) in
    let move : (j k n : ℕ) → j ≡ k → piece b j n ≡ piece b k n = λ j k n same. ap (λ (m : ℕ). piece b m n) same in
    let hyphen : (j k : ℕ) → j ≡ k → get_or b k 0 ≡ 45 → get_or b j 0 ≡ 45 = λ j k same is. ap (λ (m : ℕ). get_or b m 0) same ∙ is in
    let t4 : piece b (i + 19) 17 ≡ p4 ++ 45 ∷ p5 = part b (i + 19) 4 12 p5 (omega (arith, room)) (hyphen (i + 19 + 4) (i + 23) (omega arith) h23) (move (i + 19 + 4 + 1) (i + 24) 12 (omega arith)) in
    let t3 : piece b (i + 14) 22 ≡ p3 ++ 45 ∷ (p4 ++ 45 ∷ p5) = part b (i + 14) 4 17 (p4 ++ 45 ∷ p5) (omega (arith, room)) (hyphen (i + 14 + 4) (i + 18) (omega arith) h18) (move (i + 14 + 4 + 1) (i + 19) 17 (omega arith) ∙ t4) in
    let t2 : piece b (i + 9) 27 ≡ p2 ++ 45 ∷ (p3 ++ 45 ∷ (p4 ++ 45 ∷ p5)) = part b (i + 9) 4 22 (p3 ++ 45 ∷ (p4 ++ 45 ∷ p5)) (omega (arith, room)) (hyphen (i + 9 + 4) (i + 13) (omega arith) h13) (move (i + 9 + 4 + 1) (i + 14) 22 (omega arith) ∙ t3) in
    let t1 : piece b i 36 ≡ p1 ++ 45 ∷ (p2 ++ 45 ∷ (p3 ++ 45 ∷ (p4 ++ 45 ∷ p5))) = part b i 8 27 (p2 ++ 45 ∷ (p3 ++ 45 ∷ (p4 ++ 45 ∷ p5))) (omega (arith, room)) h8 (move (i + 8 + 1) (i + 9) 27 (omega arith) ∙ t2) in (
      hex_bytes digits,
      record {
        digits = digits;
        all_digits = AllDigits-join p1 (p2 ++ (p3 ++ (p4 ++ p5))) d1 (AllDigits-join p2 (p3 ++ (p4 ++ p5)) d2 (AllDigits-join p3 (p4 ++ p5) d3 (AllDigits-join p4 p5 d4 d5)));
        count = omega (arith, length-append p1 (p2 ++ (p3 ++ (p4 ++ p5))), length-append p2 (p3 ++ (p4 ++ p5)), length-append p3 (p4 ++ p5), length-append p4 p5, l1, l2, l3, l4, l5);
        spelled = t1 ∙ sym (groups p1 p2 p3 p4 p5 l1 l2 l3 l4);
        value = refl;
      },
    )

-- ---- its bytes are plain

hexes_plain : (s : List ℕ) → AllDigits 16 s → ArePlain s
hexes_plain [] all = tt
hexes_plain (x ∷ s) all = (let hex = all.0 in grind (arith, nat_tests), hexes_plain s all.1)

take_hex : (n : ℕ) (s : List ℕ) → AllDigits 16 s → AllDigits 16 (take n s)
take_hex zero s all = tt
take_hex (suc n) [] all = tt
take_hex (suc n) (x ∷ s) all = (all.0, take_hex n s all.1)

drop_hex : (n : ℕ) (s : List ℕ) → AllDigits 16 s → AllDigits 16 (drop n s)
drop_hex zero s all = all
drop_hex (suc n) [] all = tt
drop_hex (suc n) (x ∷ s) all = drop_hex n s all.1

groups_plain : (sizes s : List ℕ) → AllDigits 16 s → ArePlain (digit_groups sizes s)
groups_plain [] s all = hexes_plain s all
groups_plain (size ∷ sizes) s all =
    plain_joined (take size s) (45 ∷ digit_groups sizes (drop size s)) (hexes_plain (take size s) (take_hex size s all)) (plain_low 45 (omega arith) (omega arith), groups_plain sizes (drop size s) (drop_hex size s all))

pub guid_plain : (text g : List ℕ) → GuidValue text g → ArePlain text
guid_plain text g is = subst ArePlain (sym is.spelled) (groups_plain (8 ∷ 4 ∷ 4 ∷ 4 ∷ []) is.digits is.all_digits)
