-- Guids as a pattern of bytes.
use Rattle.odata_text.proofs.Common.{◌≡◌, ℕ, zero, suc, ◌+◌, ◌<◌, true, List, [], ◌∷◌, ◌++◌, length, take, drop, arith, refl, sym, ◌∙◌, ap, subst, length-append, length-drop, digit_value, is_ascii_hexdigit, AllDigits, eqb-true, nat_tests, drop_at, length-take-le, take_at, IsGuidSpelling, hex_bytes, PassesTests, FollowedBy, ByteTest, HexDigit, Hyphen}
use Rattle.edm_values.specs.GuidLiteral.{digit_groups}

-- One pattern after another.

fits-append : (p q : List ByteTest) (xs ys : List ℕ) → PassesTests p xs → PassesTests q ys → PassesTests (p ++ q) (xs ++ ys)
fits-append [] q [] ys first second = second
fits-append [] q (x ∷ xs) ys first second = absurd first
fits-append (t ∷ p) q [] ys first second = absurd first
fits-append (t ∷ p) q (x ∷ xs) ys first second = (first.0, fits-append p q xs ys first.1 second)

fits-cut : (p q : List ByteTest) (xs : List ℕ) → PassesTests (p ++ q) xs → FollowedBy (PassesTests p) (PassesTests q) xs
fits-cut [] q xs fits = record { front = []; back = xs; whole = refl; is_front = tt; is_back = fits }
fits-cut (t ∷ p) q [] fits = absurd fits
fits-cut (t ∷ p) q (x ∷ xs) fits =
    let cut = fits-cut p q xs fits.1 in
    record { front = x ∷ cut.front; back = cut.back; whole = ap (λ (ys : List ℕ). x ∷ ys) cut.whole; is_front = (fits.0, cut.is_front); is_back = cut.is_back }

-- Hexadecimal digits.

digit-test : (c : ℕ) → digit_value c < 16 → is_ascii_hexdigit c ≡ true
digit-test c small = grind (arith, nat_tests)

test-digit : (c : ℕ) → is_ascii_hexdigit c ≡ true → digit_value c < 16
test-digit c hex = grind (arith, nat_tests)

abbrev digit_tests : ℕ → List ByteTest
digit_tests zero = []
digit_tests (suc n) = HexDigit ∷ digit_tests n

fits-digits : (n : ℕ) (ds : List ℕ) → AllDigits 16 ds → length ds ≡ n → PassesTests (digit_tests n) ds
fits-digits zero [] all len = tt
fits-digits (suc n) (d ∷ ds) all len = (digit-test d all.0, fits-digits n ds all.1 (omega arith))
fits-digits _ _ all len = absurd (omega arith)

-- bytes that are such digits
record AreDigits (n : ℕ) (ds : List ℕ) : Type 0 where
  all : AllDigits 16 ds
  count : length ds ≡ n

digits-fit : (n : ℕ) (ds : List ℕ) → PassesTests (digit_tests n) ds → AreDigits n ds
digits-fit zero [] fits = record { all = tt; count = refl }
digits-fit (suc n) (d ∷ ds) fits =
    let more = digits-fit n ds fits.1 in
    record { all = (test-digit d fits.0, more.all); count = ap suc more.count }
digits-fit _ _ fits = absurd fits

all-append : (xs ys : List ℕ) → AllDigits 16 xs → AllDigits 16 ys → AllDigits 16 (xs ++ ys)
all-append [] ys first second = second
all-append (x ∷ xs) ys first second = (first.0, all-append xs ys first.1 second)

all-cut : (n : ℕ) (ds : List ℕ) → AllDigits 16 ds → AllDigits 16 (take n ds) × AllDigits 16 (drop n ds)
all-cut zero ds all = (tt, all)
all-cut (suc n) [] all = (tt, tt)
all-cut (suc n) (d ∷ ds) all = let more = all-cut n ds all.1 in ((all.0, more.0), more.1)

-- Groups of digits, and twelve after them.

abbrev group_tests : List ℕ → List ByteTest
group_tests [] = digit_tests 12
group_tests (size ∷ sizes) = digit_tests size ++ Hyphen ∷ group_tests sizes

-- 8-4-4-4-12 digits
abbrev pub guid_pattern : List ByteTest
guid_pattern = group_tests (8 ∷ 4 ∷ 4 ∷ 4 ∷ [])

abbrev total : List ℕ → ℕ
total [] = 12
total (size ∷ sizes) = size + total sizes

fits-groups : (sizes ds : List ℕ) → AllDigits 16 ds → length ds ≡ total sizes → PassesTests (group_tests sizes) (digit_groups sizes ds)
fits-groups [] ds all len = fits-digits 12 ds all len
fits-groups (size ∷ sizes) ds all len =
    let front = fits-digits size (take size ds) (all-cut size ds all).0 (length-take-le size ds (omega arith)) in
    let back = fits-groups sizes (drop size ds) (all-cut size ds all).1 (omega (arith, length-drop size ds)) in
    fits-append (digit_tests size) (Hyphen ∷ group_tests sizes) (take size ds) (45 ∷ digit_groups sizes (drop size ds)) front (refl, back)

-- bytes that are groups of these digits
record AreGroups (sizes xs : List ℕ) : Type 0 where
  digits : List ℕ
  are_digits : AreDigits (total sizes) digits
  spelled : xs ≡ digit_groups sizes digits

more-groups : (size : ℕ) (sizes xs front back : List ℕ) → xs ≡ front ++ 45 ∷ back → AreDigits size front → AreGroups sizes back → AreGroups (size ∷ sizes) xs
more-groups size sizes xs front back whole first more = record {
  digits = front ++ more.digits;
  are_digits = record {
    all = all-append front more.digits first.all more.are_digits.all;
    count = omega (arith, length-append front more.digits, first.count, more.are_digits.count);
  };
  spelled = whole ∙ rw (take_at front more.digits size first.count, drop_at front more.digits size first.count) (ap (λ (ys : List ℕ). front ++ 45 ∷ ys) more.spelled);
}

groups-fit : (sizes xs : List ℕ) → PassesTests (group_tests sizes) xs → AreGroups sizes xs
groups-fit [] xs fits = record { digits = xs; are_digits = digits-fit 12 xs fits; spelled = refl }
groups-fit (size ∷ sizes) xs fits = parts cut.front cut.back cut.whole cut.is_front cut.is_back (λ ys behind. groups-fit sizes ys behind)
  where
    cut : FollowedBy (PassesTests (digit_tests size)) (PassesTests (Hyphen ∷ group_tests sizes)) xs
    cut = fits-cut (digit_tests size) (Hyphen ∷ group_tests sizes) xs fits

    parts : (front back : List ℕ) → xs ≡ front ++ back → PassesTests (digit_tests size) front → PassesTests (Hyphen ∷ group_tests sizes) back
        → ((ys : List ℕ) → PassesTests (group_tests sizes) ys → AreGroups sizes ys) → AreGroups (size ∷ sizes) xs
    parts front [] whole first behind more = absurd behind
    parts front (b ∷ back) whole first behind more =
        more-groups size sizes xs front back (whole ∙ ap (λ (c : ℕ). front ++ c ∷ back) (eqb-true b 45 behind.0)) (digits-fit size front first) (more back behind.1)

-- Guids.

pub fits-guid : (xs : List ℕ) → IsGuidSpelling xs → PassesTests guid_pattern xs
fits-guid xs (bytes, value) =
    subst (PassesTests guid_pattern) (sym value.spelled) (fits-groups (8 ∷ 4 ∷ 4 ∷ 4 ∷ []) value.digits value.all_digits value.count)

pub guid-fits : (xs : List ℕ) → PassesTests guid_pattern xs → IsGuidSpelling xs
guid-fits xs fits =
    let groups = groups-fit (8 ∷ 4 ∷ 4 ∷ 4 ∷ []) xs fits in (
      hex_bytes groups.digits,
      record { digits = groups.digits; all_digits = groups.are_digits.all; count = groups.are_digits.count; spelled = groups.spelled; value = refl },
    )
