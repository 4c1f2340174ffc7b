-- Marks of slots, which are bits of words.
use Rattle.std.proofs.Common.{◌≡◌, ◌≢◌, ◌⊎◌, ◌↔◌, ⊎_elim, inl, inr, ℕ, zero, suc, ◌+◌, ◌-◌, ◌*◌, ◌/◌, ◌%◌, ◌^◌, ◌<◌, ◌≤◌, List, [], ◌∷◌, length, get_or, replicate, slice_set, bit_and, bit_or, nat_eq, not, refl, sym, ap, ◌∙◌, arith}
use Rattle.std.specs.Int.{bit_at}
use Rattle.std.specs.Prelude.{max}
use Rattle.std.proofs.lemmas.Bool.{cases_eq, cases_lt, ne_eqb}
use Rattle.std.proofs.lemmas.List.{get_or-set_same, get_or-set_other}
use Rattle.std.proofs.lemmas.Nat.{or_lt, pow_pos}
use Rattle.std.proofs.lemmas.Nat.Bits.{and_pow, bit_at-lt, bit_at-pow_other, bit_at-pow_same, bit_at-zero, bit_at_cat_high, bit_at_cat_low, bit_at_or, same_from_bits, same_from_bits_below}
use Rattle.seen_slots.specs.SlotBits.{bits_of}

module _ (w : ℕ) (ws : List ℕ) (k : ℕ) where
  low_bit : k < 64 → bit_at (bits_of (w ∷ ws)) k ≡ bit_at (get_or (w ∷ ws) (k / 64) 0) (k % 64)
  unfolding bits_of
  low_bit less =
      let first : k / 64 ≡ 0 = omega arith in
      let same : k % 64 ≡ k = omega arith in
      let whole : w / 2 ^ 64 * 2 ^ 64 + w % 2 ^ 64 ≡ w = omega arith in
      bit_at_cat_low (bits_of ws) 64 (w % 2 ^ 64) k less ∙ sym (bit_at_cat_low (w / 2 ^ 64) 64 (w % 2 ^ 64) k less) ∙ ap (λ n. bit_at n k) whole
      ∙ sym (ap (λ i. bit_at (get_or (w ∷ ws) i 0) (k % 64)) first ∙ ap (bit_at w) same)

  high_bit : 64 ≤ k → bit_at (bits_of ws) (k - 64) ≡ bit_at (get_or ws ((k - 64) / 64) 0) ((k - 64) % 64) → bit_at (bits_of (w ∷ ws)) k ≡ bit_at (get_or (w ∷ ws) (k / 64) 0) (k % 64)
  unfolding bits_of
  high_bit more before =
      let next : k / 64 ≡ suc ((k - 64) / 64) = omega arith in
      let same : k % 64 ≡ (k - 64) % 64 = omega arith in
      let fits : w % 2 ^ 64 < 2 ^ 64 = omega arith in
      bit_at_cat_high (bits_of ws) 64 (w % 2 ^ 64) k fits more ∙ before
      ∙ sym (ap (λ i. bit_at (get_or (w ∷ ws) i 0) (k % 64)) next ∙ ap (bit_at (get_or ws ((k - 64) / 64) 0)) same)

-- the bit of a slot is that of its word
pub bit_of : (words : List ℕ) (k : ℕ) → bit_at (bits_of words) k ≡ bit_at (get_or words (k / 64) 0) (k % 64)
unfolding bits_of
bit_of [] k = bit_at-zero k ∙ sym (bit_at-zero (k % 64))
bit_of (w ∷ ws) k = ⊎_elim (low_bit w ws k) (λ more. high_bit w ws k more (bit_of ws (k - 64))) (cases_lt k 64)

pub bits_none : (n : ℕ) → bits_of (replicate n 0) ≡ 0
unfolding bits_of
bits_none zero = refl
bits_none (suc n) = ap (λ b. b * 2 ^ 64 + 0 % 2 ^ 64) (bits_none n)

-- the words with the bit of a slot set
abbrev pub with_mark : List ℕ → ℕ → List ℕ
with_mark words index = slice_set words (index / 64) (bit_or (get_or words (index / 64) 0) (2 ^ (index % 64)))

-- a slot's bit of its word is its bit of all
pow_within : (k index : ℕ) → k / 64 ≡ index / 64 → bit_at (2 ^ (index % 64)) (k % 64) ≡ bit_at (2 ^ index) k
pow_within k index word = ⊎_elim here other (cases_eq k index)
  where
    here : k ≡ index → bit_at (2 ^ (index % 64)) (k % 64) ≡ bit_at (2 ^ index) k
    here same =
        ap (λ i. bit_at (2 ^ (index % 64)) (i % 64)) same ∙ bit_at-pow_same (index % 64) ∙ sym (ap (bit_at (2 ^ index)) same ∙ bit_at-pow_same index)

    other : k ≢ index → bit_at (2 ^ (index % 64)) (k % 64) ≡ bit_at (2 ^ index) k
    other apart =
        let away : k % 64 ≢ index % 64 = λ e. apart (omega (arith, e, word)) in
        bit_at-pow_other (index % 64) (k % 64) away ∙ sym (bit_at-pow_other index k apart)

module _ (words : List ℕ) (index : ℕ) (within : index / 64 < length words) where
  abbrev word : ℕ
  word = get_or words (index / 64) 0

  abbrev new : ℕ
  new = bit_or (get_or words (index / 64) 0) (2 ^ (index % 64))

  in_word : (k : ℕ) → k / 64 ≡ index / 64 → bit_at (get_or (with_mark words index) (k / 64) 0) (k % 64) ≡ max (bit_at (bits_of words) k) (bit_at (2 ^ index) k)
  in_word k same =
      let set : get_or (with_mark words index) (k / 64) 0 ≡ new = ap (λ i. get_or (with_mark words index) i 0) same ∙ get_or-set_same words (index / 64) new 0 within in
      let was : bit_at (bits_of words) k ≡ bit_at word (k % 64) = bit_of words k ∙ ap (λ i. bit_at (get_or words i 0) (k % 64)) same in
      let both : bit_at new (k % 64) ≡ max (bit_at word (k % 64)) (bit_at (2 ^ (index % 64)) (k % 64)) = bit_at_or word (2 ^ (index % 64)) (k % 64) in
      ap (λ w. bit_at w (k % 64)) set ∙ both ∙ ap (λ b. max b (bit_at (2 ^ (index % 64)) (k % 64))) (sym was) ∙ ap (max (bit_at (bits_of words) k)) (pow_within k index same)

  elsewhere : (k : ℕ) → k / 64 ≢ index / 64 → bit_at (get_or (with_mark words index) (k / 64) 0) (k % 64) ≡ max (bit_at (bits_of words) k) (bit_at (2 ^ index) k)
  elsewhere k far =
      let apart : k ≢ index = λ e. far (ap (λ i. i / 64) e) in
      let stays : bit_at (get_or (with_mark words index) (k / 64) 0) (k % 64) ≡ bit_at (bits_of words) k =
      ap (λ w. bit_at w (k % 64)) (get_or-set_other words (index / 64) (k / 64) new 0 far) ∙ sym (bit_of words k) in
      omega (arith, stays, bit_at-pow_other index k apart)

  each : (k : ℕ) → bit_at (bits_of (with_mark words index)) k ≡ bit_at (bit_or (bits_of words) (2 ^ index)) k
  each k = bit_of (with_mark words index) k ∙ ⊎_elim (in_word k) (elsewhere k) (cases_eq (k / 64) (index / 64)) ∙ sym (bit_at_or (bits_of words) (2 ^ index) k)

  pub bits_marked : bits_of (with_mark words index) ≡ bit_or (bits_of words) (2 ^ index)
  bits_marked = same_from_bits (bits_of (with_mark words index)) (bit_or (bits_of words) (2 ^ index)) each

-- the test of a slot's bit in its word
tested : (word place b : ℕ) → bit_at word place ≡ b → b < 2 → not (nat_eq (bit_and word (2 ^ place)) 0) ≡ nat_eq (bit_at word place) 1
tested word place zero is less =
    let nothing : bit_and word (2 ^ place) ≡ 0 = and_pow word place ∙ ap (λ (c : ℕ). c * 2 ^ place) is ∙ (let none : 0 * 2 ^ place ≡ 0 = omega arith in none) in
    ap (λ n. not (nat_eq n 0)) nothing ∙ sym (ap (λ c. nat_eq c 1) is)
tested word place (suc zero) is less =
    let power : bit_and word (2 ^ place) ≡ 1 * 2 ^ place = and_pow word place ∙ ap (λ (c : ℕ). c * 2 ^ place) is in
    let some : bit_and word (2 ^ place) ≢ 0 = λ none. omega (arith, pow_pos place, power, none) in
    ap not (ne_eqb (bit_and word (2 ^ place)) 0 some) ∙ sym (ap (λ c. nat_eq c 1) is)
tested word place (suc (suc n)) is less = absurd (omega (arith, less))

pub bit_tested : (words : List ℕ) (index : ℕ) → not (nat_eq (bit_and (get_or words (index / 64) 0) (2 ^ (index % 64))) 0) ≡ nat_eq (bit_at (bits_of words) index) 1
bit_tested words index =
    let word = get_or words (index / 64) 0 in
    tested word (index % 64) (bit_at word (index % 64)) refl (bit_at-lt word (index % 64)) ∙ ap (λ b. nat_eq b 1) (sym (bit_of words index))

-- words that are the same as those of all slots
pub all_seen : (words all : List ℕ) (n k : ℕ) → k < 64 * n → ((j : ℕ) → j < n → get_or words j 0 ≡ get_or all j 0) → bit_at (bits_of words) k ≡ bit_at (bits_of all) k
all_seen words all n k inside same =
    let there : k / 64 < n = omega arith in
    bit_of words k ∙ ap (λ w. bit_at w (k % 64)) (same (k / 64) there) ∙ sym (bit_of all k)

-- a bit is the greater of two just where it is set where one of them is
module _ (b c both : ℕ) (first : b < 2) (second : c < 2) where
  either : max b c ≡ both → (both ≡ 1) ↔ ((b ≡ 1) ⊎ (c ≡ 1))
  either greatest = (
    λ set. ⊎_elim (λ low. inr (omega (arith, greatest, set, low))) (λ high. inl (omega (arith, high, first))) (cases_lt b 1),
    ⊎_elim (λ one. omega (arith, greatest, one, second)) (λ one. omega (arith, greatest, one, first)),
  )

  greater : both < 2 → (both ≡ 1) ↔ ((b ≡ 1) ⊎ (c ≡ 1)) → max b c ≡ both
  greater third same = ⊎_elim unset set (cases_lt both 1)
    where
      unset : both < 1 → max b c ≡ both
      unset none =
          let low : b < 1 = ⊎_elim (λ l. l) (λ high. absurd (omega (arith, none, same.1 (inl (omega (arith, high, first)))))) (cases_lt b 1) in
          let under : c < 1 = ⊎_elim (λ l. l) (λ high. absurd (omega (arith, none, same.1 (inr (omega (arith, high, second)))))) (cases_lt c 1) in
          omega (arith, none, low, under)

      set : 1 ≤ both → max b c ≡ both
      set some =
          let one : both ≡ 1 = omega (arith, some, third) in
          ⊎_elim (λ here. omega (arith, one, here, second)) (λ there. omega (arith, one, there, first)) (same.0 one)

-- words that with others are the same as those of all slots
pub either_seen : (words more all : List ℕ) (n k : ℕ) → k < 64 * n → ((j : ℕ) → j < n → bit_or (get_or words j 0) (get_or more j 0) ≡ get_or all j 0)
    → (bit_at (bits_of all) k ≡ 1) ↔ ((bit_at (bits_of words) k ≡ 1) ⊎ (bit_at (bits_of more) k ≡ 1))
either_seen words more all n k inside same =
    let there : k / 64 < n = omega arith in
    let both : max (bit_at (bits_of words) k) (bit_at (bits_of more) k) ≡ bit_at (bits_of all) k =
    ap (λ b. max b (bit_at (bits_of more) k)) (bit_of words k) ∙ ap (max (bit_at (get_or words (k / 64) 0) (k % 64))) (bit_of more k)
    ∙ sym (bit_at_or (get_or words (k / 64) 0) (get_or more (k / 64) 0) (k % 64)) ∙ ap (λ w. bit_at w (k % 64)) (same (k / 64) there) ∙ sym (bit_of all k) in
    either (bit_at (bits_of words) k) (bit_at (bits_of more) k) (bit_at (bits_of all) k) (bit_at-lt (bits_of words) k) (bit_at-lt (bits_of more) k) both

-- ---- words by their bits

bit_in_word : (words : List ℕ) (word i : ℕ) → i < 64 → bit_at (bits_of words) (64 * word + i) ≡ bit_at (get_or words word 0) i
bit_in_word words word i less =
    let here : (64 * word + i) / 64 ≡ word = omega (arith, less) in
    let rest : (64 * word + i) % 64 ≡ i = omega (arith, less) in
    bit_of words (64 * word + i) ∙ ap (λ w. bit_at (get_or words w 0) ((64 * word + i) % 64)) here ∙ ap (bit_at (get_or words word 0)) rest

pub word_by_bits : (words all : List ℕ) (n word : ℕ) → word < n → get_or words word 0 < 2 ^ 64 → get_or all word 0 < 2 ^ 64
    → ((k : ℕ) → k < 64 * n → bit_at (bits_of words) k ≡ bit_at (bits_of all) k) → get_or words word 0 ≡ get_or all word 0
word_by_bits words all n word within fits room same =
    same_from_bits_below 64 (get_or words word 0) (get_or all word 0) fits room
    (λ i less. sym (bit_in_word words word i less) ∙ same (64 * word + i) (omega (arith, within, less)) ∙ bit_in_word all word i less)

-- a word of the greater of the bits of two
or_by_bits : (a b c : ℕ) → a < 2 ^ 64 → b < 2 ^ 64 → c < 2 ^ 64 → ((i : ℕ) → i < 64 → max (bit_at a i) (bit_at b i) ≡ bit_at c i) → bit_or a b ≡ c
or_by_bits a b c first second third same =
    same_from_bits_below 64 (bit_or a b) c (or_lt 64 a b first second) third (λ i less. bit_at_or a b i ∙ same i less)

pub either_by_bits : (words more all : List ℕ) (n word : ℕ) → word < n → get_or words word 0 < 2 ^ 64 → get_or more word 0 < 2 ^ 64 → get_or all word 0 < 2 ^ 64
    → ((k : ℕ) → k < 64 * n → (bit_at (bits_of all) k ≡ 1) ↔ ((bit_at (bits_of words) k ≡ 1) ⊎ (bit_at (bits_of more) k ≡ 1)))
    → bit_or (get_or words word 0) (get_or more word 0) ≡ get_or all word 0
either_by_bits words more all n word within first second third same = or_by_bits (get_or words word 0) (get_or more word 0) (get_or all word 0) first second third each
  where
    each : (i : ℕ) → i < 64 → max (bit_at (get_or words word 0) i) (bit_at (get_or more word 0) i) ≡ bit_at (get_or all word 0) i
    each i less =
        let k = 64 * word + i in
        ap (λ b. max b (bit_at (get_or more word 0) i)) (sym (bit_in_word words word i less)) ∙ ap (max (bit_at (bits_of words) k)) (sym (bit_in_word more word i less))
        ∙ greater (bit_at (bits_of words) k) (bit_at (bits_of more) k) (bit_at (bits_of all) k) (bit_at-lt (bits_of words) k) (bit_at-lt (bits_of more) k) (bit_at-lt (bits_of all) k) (same k (omega (arith, within, less)))
        ∙ bit_in_word all word i less

-- ---- one word alone

pub first_bit : (words : List ℕ) (k : ℕ) → k < 64 → bit_at (bits_of words) k ≡ bit_at (get_or words 0 0) k
first_bit words k less =
    let word : k / 64 ≡ 0 = omega arith in
    let place : k % 64 ≡ k = omega arith in
    bit_of words k ∙ ap (λ i. bit_at (get_or words i 0) (k % 64)) word ∙ ap (bit_at (get_or words 0 0)) place

pub word_tested : (word index bit : ℕ) → index < 64 → bit ≡ 2 ^ (index % 64) → not (nat_eq (bit_and word bit) 0) ≡ nat_eq (bit_at word index) 1
word_tested word index bit less is =
    let low : index % 64 ≡ index = omega arith in
    ap (λ b. not (nat_eq (bit_and word b) 0)) (is ∙ ap (λ i. 2 ^ i) low) ∙ tested word index (bit_at word index) refl (bit_at-lt word index)

module _ (word : ℕ) (more all : List ℕ) where
  pub either_in_word : (k : ℕ) → k < 64 → bit_or word (get_or more 0 0) ≡ get_or all 0 0 → (bit_at (bits_of all) k ≡ 1) ↔ ((bit_at word k ≡ 1) ⊎ (bit_at (bits_of more) k ≡ 1))
  either_in_word k less same =
      let both : max (bit_at word k) (bit_at (bits_of more) k) ≡ bit_at (bits_of all) k =
      ap (max (bit_at word k)) (first_bit more k less) ∙ sym (bit_at_or word (get_or more 0 0) k) ∙ ap (λ w. bit_at w k) same ∙ sym (first_bit all k less) in
      either (bit_at word k) (bit_at (bits_of more) k) (bit_at (bits_of all) k) (bit_at-lt word k) (bit_at-lt (bits_of more) k) both

  pub first_by_bits : word < 2 ^ 64 → get_or all 0 0 < 2 ^ 64 → ((k : ℕ) → k < 64 → bit_at word k ≡ bit_at (bits_of all) k) → word ≡ get_or all 0 0
  first_by_bits fits room same = same_from_bits_below 64 word (get_or all 0 0) fits room (λ k less. same k less ∙ first_bit all k less)

  pub either_first : word < 2 ^ 64 → get_or more 0 0 < 2 ^ 64 → get_or all 0 0 < 2 ^ 64 → ((k : ℕ) → k < 64 → (bit_at (bits_of all) k ≡ 1) ↔ ((bit_at word k ≡ 1) ⊎ (bit_at (bits_of more) k ≡ 1)))
      → bit_or word (get_or more 0 0) ≡ get_or all 0 0
  either_first first second third same =
      or_by_bits word (get_or more 0 0) (get_or all 0 0) first second third
      (λ k less. ap (max (bit_at word k)) (sym (first_bit more k less))
      ∙ greater (bit_at word k) (bit_at (bits_of more) k) (bit_at (bits_of all) k) (bit_at-lt word k) (bit_at-lt (bits_of more) k) (bit_at-lt (bits_of all) k) (same k less) ∙ first_bit all k less)
