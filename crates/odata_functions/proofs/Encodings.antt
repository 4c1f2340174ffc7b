-- The bytes of a lesser character are less.
use Rattle.std.proofs.Common.{◌≡◌, ℕ, ◌+◌, ◌/◌, ◌%◌, ◌<◌, ◌≤◌, ◌⊎◌, inl, inr, ⊎_elim, List, [], ◌∷◌, ◌++◌, arith, refl, sym, ap, subst, ◌∙◌}
use Rattle.std.proofs.Math.Utf8.{encode}
use Rattle.std.proofs.lemmas.Bool.{cases_lt, cond_below, cond_above}
use Rattle.std.proofs.lemmas.Bool.Decides.{nat_tests}
use Rattle.std.proofs.lemmas.Str.{encode_ascii}
use Rattle.std.specs.Cmp.Lexicographic.{slice_cmp}
use Rattle.std.specs.Ordering.{nat_cmp, ordering_then}
use Rattle.std.specs.declared.cmp.Ordering.{Ordering}
use Rattle.std.specs.declared.cmp.Ordering.TheVariants.{Less, Equal}

nat_cmp-less : (x y : ℕ) → x < y → nat_cmp x y ≡ Less
nat_cmp-less x y h = grind (arith, nat_tests)

nat_cmp-same : (x y : ℕ) → x ≡ y → nat_cmp x y ≡ Equal
nat_cmp-same x y e = grind (arith, nat_tests)

-- the first elements decide, or what is after them does
pub less_head : (x y : ℕ) (xs ys : List ℕ) → x < y → slice_cmp nat_cmp (x ∷ xs) (y ∷ ys) ≡ Less
less_head x y xs ys h = ap (λ o. ordering_then o (slice_cmp nat_cmp xs ys)) (nat_cmp-less x y h)

pub same_head : (x y : ℕ) (xs ys : List ℕ) → x ≡ y → slice_cmp nat_cmp (x ∷ xs) (y ∷ ys) ≡ slice_cmp nat_cmp xs ys
same_head x y xs ys e = ap (λ o. ordering_then o (slice_cmp nat_cmp xs ys)) (nat_cmp-same x y e)

less_behind : (x y : ℕ) (xs ys : List ℕ) → x ≡ y → slice_cmp nat_cmp xs ys ≡ Less → slice_cmp nat_cmp (x ∷ xs) (y ∷ ys) ≡ Less
less_behind x y xs ys e less = same_head x y xs ys e ∙ less

-- a number, or the number of its last six bits
digits : (c d : ℕ) → c < d → (c / 64 < d / 64) ⊎ ((c / 64 ≡ d / 64) × (c % 64 < d % 64))
digits c d h = ⊎_elim (λ l. inl l) (λ g. inr (omega arith, omega arith)) (cases_lt (c / 64) (d / 64))

-- two, three and four bytes
less_two : (base c d : ℕ) (xs ys : List ℕ) → c < d
    → slice_cmp nat_cmp ((base + c / 64) ∷ (128 + c % 64) ∷ xs) ((base + d / 64) ∷ (128 + d % 64) ∷ ys) ≡ Less
less_two base c d xs ys h = ⊎_elim
    (λ l. less_head (base + c / 64) (base + d / 64) ((128 + c % 64) ∷ xs) ((128 + d % 64) ∷ ys) (omega (arith, l)))
    (λ s. less_behind (base + c / 64) (base + d / 64) ((128 + c % 64) ∷ xs) ((128 + d % 64) ∷ ys) (ap (λ k. base + k) s.0)
    (less_head (128 + c % 64) (128 + d % 64) xs ys (omega (arith, s.1))))
    (digits c d h)

less_three : (base c d : ℕ) (xs ys : List ℕ) → c < d
    → slice_cmp nat_cmp ((base + c / 64 / 64) ∷ (128 + c / 64 % 64) ∷ (128 + c % 64) ∷ xs)
    ((base + d / 64 / 64) ∷ (128 + d / 64 % 64) ∷ (128 + d % 64) ∷ ys)
    ≡ Less
less_three base c d xs ys h = ⊎_elim
    (λ l. less_two base (c / 64) (d / 64) ((128 + c % 64) ∷ xs) ((128 + d % 64) ∷ ys) l)
    (λ s.
    less_behind (base + c / 64 / 64) (base + d / 64 / 64) ((128 + c / 64 % 64) ∷ (128 + c % 64) ∷ xs)
    ((128 + d / 64 % 64) ∷ (128 + d % 64) ∷ ys) (ap (λ k. base + k / 64) s.0)
    (less_behind (128 + c / 64 % 64) (128 + d / 64 % 64) ((128 + c % 64) ∷ xs) ((128 + d % 64) ∷ ys) (ap (λ k. 128 + k % 64) s.0)
    (less_head (128 + c % 64) (128 + d % 64) xs ys (omega (arith, s.1)))))
    (digits c d h)

less_four : (base c d : ℕ) (xs ys : List ℕ) → c < d
    → slice_cmp nat_cmp ((base + c / 64 / 64 / 64) ∷ (128 + c / 64 / 64 % 64) ∷ (128 + c / 64 % 64) ∷ (128 + c % 64) ∷ xs)
    ((base + d / 64 / 64 / 64) ∷ (128 + d / 64 / 64 % 64) ∷ (128 + d / 64 % 64) ∷ (128 + d % 64) ∷ ys)
    ≡ Less
less_four base c d xs ys h = ⊎_elim
    (λ l. less_three base (c / 64) (d / 64) ((128 + c % 64) ∷ xs) ((128 + d % 64) ∷ ys) l)
    (λ s.
    less_behind (base + c / 64 / 64 / 64) (base + d / 64 / 64 / 64) ((128 + c / 64 / 64 % 64) ∷ (128 + c / 64 % 64) ∷ (128 + c % 64) ∷ xs)
    ((128 + d / 64 / 64 % 64) ∷ (128 + d / 64 % 64) ∷ (128 + d % 64) ∷ ys) (ap (λ k. base + k / 64 / 64) s.0)
    (less_behind (128 + c / 64 / 64 % 64) (128 + d / 64 / 64 % 64) ((128 + c / 64 % 64) ∷ (128 + c % 64) ∷ xs)
    ((128 + d / 64 % 64) ∷ (128 + d % 64) ∷ ys) (ap (λ k. 128 + k / 64 % 64) s.0)
    (less_behind (128 + c / 64 % 64) (128 + d / 64 % 64) ((128 + c % 64) ∷ xs) ((128 + d % 64) ∷ ys) (ap (λ k. 128 + k % 64) s.0)
    (less_head (128 + c % 64) (128 + d % 64) xs ys (omega (arith, s.1))))))
    (digits c d h)

-- how a character is encoded, by its size
pub data Form (c : ℕ) : Type 0 where
  one : c < 128 → encode c ≡ c ∷ [] → Form c
  two : 128 ≤ c → c < 2048 → encode c ≡ (192 + c / 64) ∷ (128 + c % 64) ∷ [] → Form c
  three : 2048 ≤ c → c < 65536 → encode c ≡ (224 + c / 64 / 64) ∷ (128 + c / 64 % 64) ∷ (128 + c % 64) ∷ [] → Form c
  four : 65536 ≤ c
      → encode c ≡ (240 + c / 64 / 64 / 64) ∷ (128 + c / 64 / 64 % 64) ∷ (128 + c / 64 % 64) ∷ (128 + c % 64) ∷ []
      → Form c

encode-two : (c : ℕ) → 128 ≤ c → c < 2048 → encode c ≡ (192 + c / 64) ∷ (128 + c % 64) ∷ []
unfolding encode
encode-two c low high = sym (cond_above c 128 _ _ _ low (cond_below c 2048 _ _ high))

encode-three : (c : ℕ) → 2048 ≤ c → c < 65536 → encode c ≡ (224 + c / 4096) ∷ (128 + c / 64 % 64) ∷ (128 + c % 64) ∷ []
unfolding encode
encode-three c low high = sym (cond_above c 128 _ _ _ (omega arith) (cond_above c 2048 _ _ _ low (cond_below c 65536 _ _ high)))

encode-four : (c : ℕ) → 65536 ≤ c
    → encode c ≡ (240 + c / 262144) ∷ (128 + c / 4096 % 64) ∷ (128 + c / 64 % 64) ∷ (128 + c % 64) ∷ []
unfolding encode
encode-four c low = sym (cond_above c 128 _ _ _ (omega arith) (cond_above c 2048 _ _ _ (omega arith) (cond_above c 65536 _ _ _ low refl)))

pub form : (c : ℕ) → Form c
form c =
    let by_64 : c / 4096 ≡ c / 64 / 64 = omega arith in
    let by_4096 : c / 262144 ≡ c / 64 / 64 / 64 = omega arith in
    ⊎_elim
    (λ ascii. one ascii (encode_ascii c ascii))
    (λ above. ⊎_elim
    (λ below. two above below (encode-two c above below))
    (λ above. ⊎_elim
    (λ below. three above below (subst (λ k. encode c ≡ (224 + k) ∷ (128 + c / 64 % 64) ∷ (128 + c % 64) ∷ []) by_64 (encode-three c above below)))
    (λ above. four above
    (subst (λ k. encode c ≡ (240 + k) ∷ (128 + c / 64 / 64 % 64) ∷ (128 + c / 64 % 64) ∷ (128 + c % 64) ∷ []) by_4096
    (subst (λ k. encode c ≡ (240 + c / 262144) ∷ (128 + k % 64) ∷ (128 + c / 64 % 64) ∷ (128 + c % 64) ∷ []) by_64
    (encode-four c above))))
    (cases_lt c 65536))
    (cases_lt c 2048))
    (cases_lt c 128)

-- the comparison of two beginnings that are equal to others
in_place : (xs ys more behind : List ℕ) (o : Ordering) {xs' ys' : List ℕ} → xs ≡ xs' → ys ≡ ys' → slice_cmp nat_cmp (xs' ++ more) (ys' ++ behind) ≡ o
    → slice_cmp nat_cmp (xs ++ more) (ys ++ behind) ≡ o
in_place xs ys more behind o {xs'} {ys'} ex ey e =
    subst (λ (x : List ℕ). slice_cmp nat_cmp (x ++ more) (ys ++ behind) ≡ o) (sym ex)
    (subst (λ (y : List ℕ). slice_cmp nat_cmp (xs' ++ more) (y ++ behind) ≡ o) (sym ey) e)

by_first : (c d : ℕ) (xs ys : List ℕ) {x y : ℕ} {front behind : List ℕ} → encode c ≡ x ∷ front → encode d ≡ y ∷ behind → x < y
    → slice_cmp nat_cmp (encode c ++ xs) (encode d ++ ys) ≡ Less
by_first c d xs ys {x} {y} {front} {behind} of_c of_d h =
    in_place (encode c) (encode d) xs ys Less of_c of_d (less_head x y (front ++ xs) (behind ++ ys) h)

by_forms : (c d : ℕ) (xs ys : List ℕ) → c < d → Form c → Form d → slice_cmp nat_cmp (encode c ++ xs) (encode d ++ ys) ≡ Less
by_forms c d xs ys h (one p e) (one q f) = in_place _ _ xs ys Less e f (less_head c d xs ys h)
by_forms c d xs ys h (one p e) (two q r f) = by_first c d xs ys e f (omega arith)
by_forms c d xs ys h (one p e) (three q r f) = by_first c d xs ys e f (omega arith)
by_forms c d xs ys h (one p e) (four q f) = by_first c d xs ys e f (omega arith)
by_forms c d xs ys h (two p s e) (one q f) = absurd (omega arith)
by_forms c d xs ys h (two p s e) (two q r f) = in_place _ _ xs ys Less e f (less_two 192 c d xs ys h)
by_forms c d xs ys h (two p s e) (three q r f) = by_first c d xs ys e f (omega arith)
by_forms c d xs ys h (two p s e) (four q f) = by_first c d xs ys e f (omega arith)
by_forms c d xs ys h (three p s e) (one q f) = absurd (omega arith)
by_forms c d xs ys h (three p s e) (two q r f) = absurd (omega arith)
by_forms c d xs ys h (three p s e) (three q r f) = in_place _ _ xs ys Less e f (less_three 224 c d xs ys h)
by_forms c d xs ys h (three p s e) (four q f) = by_first c d xs ys e f (omega arith)
by_forms c d xs ys h (four p e) (one q f) = absurd (omega arith)
by_forms c d xs ys h (four p e) (two q r f) = absurd (omega arith)
by_forms c d xs ys h (four p e) (three q r f) = absurd (omega arith)
by_forms c d xs ys h (four p e) (four q f) = in_place _ _ xs ys Less e f (less_four 240 c d xs ys h)

pub less_encoded : (c d : ℕ) (xs ys : List ℕ) → c < d → slice_cmp nat_cmp (encode c ++ xs) (encode d ++ ys) ≡ Less
less_encoded c d xs ys h = by_forms c d xs ys h (form c) (form d)

-- nothing is less than a character, whatever follows
nothing_by_form : (d : ℕ) (ys : List ℕ) → Form d → slice_cmp nat_cmp [] (encode d ++ ys) ≡ Less
nothing_by_form d ys (one q f) = in_place [] _ [] ys Less refl f refl
nothing_by_form d ys (two q r f) = in_place [] _ [] ys Less refl f refl
nothing_by_form d ys (three q r f) = in_place [] _ [] ys Less refl f refl
nothing_by_form d ys (four q f) = in_place [] _ [] ys Less refl f refl

pub nothing_less : (d : ℕ) (ys : List ℕ) → slice_cmp nat_cmp [] (encode d ++ ys) ≡ Less
nothing_less d ys = nothing_by_form d ys (form d)
