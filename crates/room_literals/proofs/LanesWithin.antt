-- Lanes of bytes that are within spans, or are hexadecimal digits.
use Rattle.std.proofs.Common.{◌≡◌, ℕ, zero, suc, ◌+◌, ◌-◌, ◌*◌, ◌/◌, ◌%◌, ◌^◌, ◌<◌, ◌≤◌, Bool, true, false, ◌||◌, cond, ltb, leb, List, [], ◌∷◌, length, get_or, map, replicate, bit_or, refl, sym, ap, ap₂, ◌∙◌, subst, ⊎_elim, arith, leb-false, w8}
use Rattle.std.proofs.lemmas.Bool.{leb-true, ltb-false, true≢false}
use Rattle.std.proofs.lemmas.Bool.Decides.{nat_tests}
use Rattle.std.proofs.lemmas.List.{length-map}
use Rattle.std.proofs.lemmas.Simd.{bit_mask_l, get_or-replicate, get_or-zip2, length-replicate, length-zip2, mask_l-mod, tops_compared}
use Rattle.std.specs.Char.{digit_value}
use lib.Lanes.{mask_l, top, zip2}

-- ---- within spans

all_false : (ms : List Bool) → mask_l ms ≡ 0 → (k : ℕ) → get_or ms k false ≡ false
all_false [] none k = refl
all_false (true ∷ ms) none k = absurd (omega (arith, none))
all_false (false ∷ ms) none zero = refl
all_false (false ∷ ms) none (suc k) = all_false ms (omega (arith, none)) k

-- the test of a vector, as the code makes it
pub lanes_within : (xs lows spans : List ℕ) → length xs ≡ 16 → length lows ≡ 16 → length spans ≡ 16
    → mask_l (map (top 7) (zip2 (λ a b. cond (ltb a b) 255 0) spans (zip2 (λ a b. (a + (256 - b)) % 256) xs lows))) % 2 ^ 64 ≡ 0 → (k : ℕ) → k < 16 → get_or xs k 0 < 256 → get_or lows k 0 + get_or spans k 0 < 256
    → (get_or lows k 0 ≤ get_or xs k 0) × (get_or xs k 0 ≤ get_or lows k 0 + get_or spans k 0)
lanes_within xs lows spans lx ll ls none k few small fits =
    let sub : (ℕ → ℕ → ℕ) = λ a b. (a + (256 - b)) % 256 in
    let ys = zip2 sub xs lows in
    let long : length ys ≡ 16 = length-zip2 sub xs lows (lx ∙ sym ll) ∙ lx in
    let ms = zip2 ltb spans ys in
    let count : length ms ≡ 16 = length-zip2 ltb spans ys (ls ∙ sym long) ∙ ls in
    let zero_mask : mask_l ms ≡ 0 = sym (mask_l-mod ms 64 (omega (arith, count))) ∙ sym (ap (λ (z : List Bool). mask_l z % 2 ^ 64) (tops_compared w8 ltb spans ys)) ∙ none in
    let lane : get_or ys k 0 ≡ (get_or xs k 0 + (256 - get_or lows k 0)) % 256 = get_or-zip2 sub xs lows k 0 0 0 (omega (arith, lx, few)) (omega (arith, ll, few)) in
    let test : ltb (get_or spans k 0) (get_or ys k 0) ≡ false = sym (get_or-zip2 ltb spans ys k 0 0 false (omega (arith, ls, few)) (omega (arith, long, few))) ∙ all_false ms zero_mask k in
    -- the byte less the lowest, without a borrow
    let less : (get_or xs k 0 + (256 - get_or lows k 0)) % 256 ≤ get_or spans k 0 = subst (λ (y : ℕ). y ≤ get_or spans k 0) lane (ltb-false (get_or spans k 0) (get_or ys k 0) test) in
    (omega (arith, small, fits, less), omega (arith, small, fits, less))

-- ---- hexadecimal digits

or_lane : (a b c : Bool) → top 7 (bit_or (bit_or (cond a 255 0) (cond b 255 0)) (cond c 255 0)) ≡ (a || b || c)
or_lane true true true = refl
or_lane true true false = refl
or_lane true false true = refl
or_lane true false false = refl
or_lane false true true = refl
or_lane false true false = refl
or_lane false false true = refl
or_lane false false false = refl

hex_low : (x : ℕ) → 48 ≤ x → x ≤ 57 → digit_value x < 16
hex_low x least most = grind (arith, nat_tests)

hex_small : (x : ℕ) → 97 ≤ x → x ≤ 102 → digit_value x < 16
hex_small x least most = grind (arith, nat_tests)

hex_capital : (x : ℕ) → 65 ≤ x → x ≤ 70 → digit_value x < 16
hex_capital x least most = grind (arith, nat_tests)

hex_by : (x : ℕ) (a b c : Bool) → x < 256 → leb ((x + 208) % 256) 9 ≡ a → leb ((x + 159) % 256) 5 ≡ b → leb ((x + 191) % 256) 5 ≡ c → (a || b || c) ≡ true → digit_value x < 16
hex_by x true b c small p q r is = let least = leb-true ((x + 208) % 256) 9 p in hex_low x (omega (arith, small, least)) (omega (arith, small, least))
hex_by x false true c small p q r is = let least = leb-true ((x + 159) % 256) 5 q in hex_small x (omega (arith, small, least)) (omega (arith, small, least))
hex_by x false false true small p q r is = let least = leb-true ((x + 191) % 256) 5 r in hex_capital x (omega (arith, small, least)) (omega (arith, small, least))
hex_by x false false false small p q r is = absurd (true≢false (sym is))

one_of : (b : Bool) → ◌≡◌ {A = ℕ} (cond b 1 0) 1 → b ≡ true
one_of true is = refl
one_of false is = absurd (omega (arith, is))

get_map : {A : Type 0} (f : ℕ → A) (xs : List ℕ) (k : ℕ) (d : A) → k < length xs → get_or (map f xs) k d ≡ f (get_or xs k 0)
get_map f [] k d inside = absurd (omega (arith, inside))
get_map f (x ∷ xs) zero d inside = refl
get_map f (x ∷ xs) (suc k) d inside = get_map f xs k d (omega (arith, inside))

abbrev tested : List ℕ → ℕ → ℕ → List ℕ
tested xs low span = zip2 (λ a b. cond (leb a b) 255 0) (zip2 (λ a b. (a + (256 - b)) % 256) xs (replicate 16 low)) (replicate 16 span)

tested_long : (xs : List ℕ) (low span : ℕ) → length xs ≡ 16 → length (tested xs low span) ≡ 16
tested_long xs low span long =
    let inner = length-zip2 (λ a b. (a + (256 - b)) % 256) xs (replicate 16 low) (long ∙ sym (length-replicate 16 low)) ∙ long in
    length-zip2 (λ a b. cond (leb a b) 255 0) (zip2 (λ a b. (a + (256 - b)) % 256) xs (replicate 16 low)) (replicate 16 span) (inner ∙ sym (length-replicate 16 span)) ∙ inner

tested_at : (xs : List ℕ) (low span k : ℕ) → length xs ≡ 16 → k < 16 → get_or (tested xs low span) k 0 ≡ cond (leb ((get_or xs k 0 + (256 - low)) % 256) span) 255 0
tested_at xs low span k long few =
    let ys = zip2 (λ a b. (a + (256 - b)) % 256) xs (replicate 16 low) in
    let inner : length ys ≡ 16 = length-zip2 (λ a b. (a + (256 - b)) % 256) xs (replicate 16 low) (long ∙ sym (length-replicate 16 low)) ∙ long in
    get_or-zip2 (λ a b. cond (leb a b) 255 0) ys (replicate 16 span) k 0 0 0 (omega (arith, inner, few)) (omega (arith, length-replicate 16 span, few))
    ∙ ap₂ (λ (a b : ℕ). cond (leb a b) 255 0)
    (get_or-zip2 (λ a b. (a + (256 - b)) % 256) xs (replicate 16 low) k 0 0 0 (omega (arith, long, few)) (omega (arith, length-replicate 16 low, few)) ∙ ap (λ (b : ℕ). (get_or xs k 0 + (256 - b)) % 256) (get_or-replicate 16 k low 0 few))
    (get_or-replicate 16 k span 0 few)

-- where its bit is set a lane is a hexadecimal digit; the test of a vector, as the code makes it
pub lanes_hex : (xs : List ℕ) (m k : ℕ) → length xs ≡ 16 → m ≡ mask_l (map (top 7) (zip2 bit_or (zip2 bit_or (tested xs 48 9) (tested xs 97 5)) (tested xs 65 5))) % 2 ^ 64 → k < 16 → get_or xs k 0 < 256 → m / 2 ^ k % 2 ≡ 1
    → digit_value (get_or xs k 0) < 16
lanes_hex xs m k long is few small set =
    let a = tested xs 48 9 in
    let b = tested xs 97 5 in
    let c = tested xs 65 5 in
    let la = tested_long xs 48 9 long in
    let lb = tested_long xs 97 5 long in
    let lc = tested_long xs 65 5 long in
    let ab = zip2 bit_or a b in
    let lab : length ab ≡ 16 = length-zip2 bit_or a b (la ∙ sym lb) ∙ la in
    let z = zip2 bit_or ab c in
    let lz : length z ≡ 16 = length-zip2 bit_or ab c (lab ∙ sym lc) ∙ lab in
    let ms = map (top 7) z in
    let count : length ms ≡ 16 = length-map z (top 7) ∙ lz in
    let mask : m ≡ mask_l ms = is ∙ mask_l-mod ms 64 (omega (arith, count)) in
    let bit : ◌≡◌ {A = ℕ} (cond (get_or ms k false) 1 0) 1 = sym (bit_mask_l ms k) ∙ ap (λ (n : ℕ). n / 2 ^ k % 2) (sym mask) ∙ set in
    let p = leb ((get_or xs k 0 + 208) % 256) 9 in
    let q = leb ((get_or xs k 0 + 159) % 256) 5 in
    let r = leb ((get_or xs k 0 + 191) % 256) 5 in
    let lane : get_or z k 0 ≡ bit_or (bit_or (cond p 255 0) (cond q 255 0)) (cond r 255 0) =
    get_or-zip2 bit_or ab c k 0 0 0 (omega (arith, lab, few)) (omega (arith, lc, few))
    ∙ ap₂ bit_or (get_or-zip2 bit_or a b k 0 0 0 (omega (arith, la, few)) (omega (arith, lb, few)) ∙ ap₂ bit_or (tested_at xs 48 9 k long few) (tested_at xs 97 5 k long few)) (tested_at xs 65 5 k long few) in
    let test : (p || q || r) ≡ true = sym (get_map (top 7) z k false (omega (arith, lz, few)) ∙ ap (top 7) lane ∙ or_lane p q r) ∙ one_of (get_or ms k false) bit in
    hex_by (get_or xs k 0) p q r small refl refl refl test
