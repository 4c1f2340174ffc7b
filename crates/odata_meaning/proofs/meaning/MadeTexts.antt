-- What functions make of texts is made of characters.
use Rattle.std.proofs.Common.{◌≡◌, ◌⊎◌, ◌<◌, ◌≤◌, ◌++◌, ◌&&◌, ℕ, zero, suc, List, [], ◌∷◌, Bool, true, false, IsUtf8, encode_utf8_all, map, take, drop, refl, sym, subst, inl, inr, arith}
use Rattle.std.proofs.Math.Utf8.{low_scalar, scalar, scalars}
use Rattle.std.proofs.lemmas.Str.Ascii.{lowercase_ascii, lowercase_is, uppercase_ascii, uppercase_is}
use Rattle.std.specs.Char.{to_ascii_lowercase, to_ascii_uppercase}

left_true : (a b : Bool) → (a && b) ≡ true → a ≡ true
left_true true b same = refl
left_true false b same = same

right_true : (a b : Bool) → (a && b) ≡ true → b ≡ true
right_true true b same = same
right_true false b same = absurd (cc)

both_true : (a b : Bool) → a ≡ true → b ≡ true → (a && b) ≡ true
both_true true b p q = q
both_true false b p q = p

-- ---- characters one after another, and parts of them

pub joined_characters : (xs ys : List ℕ) → scalars xs ≡ true → scalars ys ≡ true → scalars (xs ++ ys) ≡ true
joined_characters [] ys p q = q
joined_characters (x ∷ xs) ys p q =
    both_true (scalar x) (scalars (xs ++ ys)) (left_true (scalar x) (scalars xs) p) (joined_characters xs ys (right_true (scalar x) (scalars xs) p) q)

front_characters : (xs ys : List ℕ) → scalars (xs ++ ys) ≡ true → scalars xs ≡ true
front_characters [] ys p = refl
front_characters (x ∷ xs) ys p =
    both_true (scalar x) (scalars xs) (left_true (scalar x) (scalars (xs ++ ys)) p) (front_characters xs ys (right_true (scalar x) (scalars (xs ++ ys)) p))

rest_characters : (xs ys : List ℕ) → scalars (xs ++ ys) ≡ true → scalars ys ≡ true
rest_characters [] ys p = p
rest_characters (x ∷ xs) ys p = rest_characters xs ys (right_true (scalar x) (scalars (xs ++ ys)) p)

-- what stands between a beginning and an end
pub inner_characters : (text before part behind : List ℕ) → text ≡ before ++ (part ++ behind) → scalars text ≡ true → scalars part ≡ true
inner_characters text before part behind split p =
    front_characters part behind (rest_characters before (part ++ behind) (subst (λ (t : List ℕ). scalars t ≡ true) split p))

pub dropped_characters : (n : ℕ) (xs : List ℕ) → scalars xs ≡ true → scalars (drop n xs) ≡ true
dropped_characters zero xs p = p
dropped_characters (suc n) [] p = refl
dropped_characters (suc n) (x ∷ xs) p = dropped_characters n xs (right_true (scalar x) (scalars xs) p)

pub taken_characters : (n : ℕ) (xs : List ℕ) → scalars xs ≡ true → scalars (take n xs) ≡ true
taken_characters zero xs p = refl
taken_characters (suc n) [] p = refl
taken_characters (suc n) (x ∷ xs) p =
    both_true (scalar x) (scalars (take n xs)) (left_true (scalar x) (scalars xs) p) (taken_characters n xs (right_true (scalar x) (scalars xs) p))

-- ---- ASCII letters in one case

below_or_not : (m n : ℕ) → (m < n) ⊎ (n ≤ m)
below_or_not m zero = inr (omega arith)
below_or_not zero (suc n) = inl (omega arith)
below_or_not (suc m) (suc n) =
    elim (below_or_not m n) [
      | inl less ↦ inl (omega arith)
      | inr other ↦ inr (omega arith)
    ]

low : (c : ℕ) → c < 128 → scalar c ≡ true
low c less = low_scalar c (omega arith)

lower_character : (c : ℕ) → scalar c ≡ true → scalar (to_ascii_lowercase c) ≡ true
lower_character c p =
    elim (below_or_not c 128) [
      | inl less ↦ low (to_ascii_lowercase c) (lowercase_ascii c less)
      | inr beyond ↦ subst (λ (d : ℕ). scalar d ≡ true) (sym ((lowercase_is c).2 (omega arith))) p
    ]

upper_character : (c : ℕ) → scalar c ≡ true → scalar (to_ascii_uppercase c) ≡ true
upper_character c p =
    elim (below_or_not c 128) [
      | inl less ↦ low (to_ascii_uppercase c) (uppercase_ascii c less)
      | inr beyond ↦ subst (λ (d : ℕ). scalar d ≡ true) (sym ((uppercase_is c).2 (omega arith))) p
    ]

changed_characters : (change : ℕ → ℕ) → ((c : ℕ) → scalar c ≡ true → scalar (change c) ≡ true) → (xs : List ℕ) → scalars xs ≡ true → scalars (map change xs) ≡ true
changed_characters change each [] p = refl
changed_characters change each (x ∷ xs) p =
    both_true (scalar (change x)) (scalars (map change xs)) (each x (left_true (scalar x) (scalars xs) p))
    (changed_characters change each xs (right_true (scalar x) (scalars xs) p))

pub lower_characters : (xs : List ℕ) → scalars xs ≡ true → scalars (map to_ascii_lowercase xs) ≡ true
lower_characters = changed_characters to_ascii_lowercase lower_character

pub upper_characters : (xs : List ℕ) → scalars xs ≡ true → scalars (map to_ascii_uppercase xs) ≡ true
upper_characters = changed_characters to_ascii_uppercase upper_character

-- ---- their text

pub made_text : (xs : List ℕ) → scalars xs ≡ true → IsUtf8 (encode_utf8_all xs)
made_text xs p = (xs, (p, refl))
