-- The front of bytes in UTF-8, piece by piece.
use Rattle.std.proofs.Common.{◌≡◌, ℕ, ◌+◌, ◌-◌, ◌<◌, ◌≤◌, ◌*◌, List, [], ◌∷◌, ◌++◌, length, take, drop, get_or, nat_lt, true, false, sym, ap, ◌∙◌, subst, ⊎_elim, arith, length-take-le, length-drop, take-add}
use Rattle.std.proofs.lemmas.Bool.{cases_lt}
use Rattle.std.proofs.lemmas.List.{get_or-drop, get_or-take, get_or_past}
use Rattle.std.proofs.lemmas.Str.{IsUtf8-append, IsUtf8-encode, IsUtf8-from_ascii}
use Rattle.std.proofs.lemmas.Bool.Decides.{nat_tests}
use Rattle.std.specs.Char.{encode_utf8}
use Rattle.std.specs.Str.{IsAscii, IsUtf8}
use Rattle.json_room.specs.private.Lexemes.{AsciiBetween}

-- up to one offset, and from there up to the other
front_joined : (d : List ℕ) (i j : ℕ) → i ≤ j → take j d ≡ take i d ++ take (j - i) (drop i d)
front_joined d i j order = let both : j ≡ i + (j - i) = omega arith in ap (λ n. take n d) both ∙ take-add i (j - i) d

pub run_more : (d : List ℕ) (i j : ℕ) → i ≤ j → IsUtf8 (take i d) → IsUtf8 (take (j - i) (drop i d)) → IsUtf8 (take j d)
run_more d i j order front more = subst IsUtf8 (sym (front_joined d i j order)) (IsUtf8-append (take i d) (take (j - i) (drop i d)) front more)

piece_is_ascii : (d : List ℕ) (i j : ℕ) → i ≤ j → j ≤ length d → AsciiBetween d i j → IsAscii (take (j - i) (drop i d))
piece_is_ascii d i j order room ascii k =
    let piece = take (j - i) (drop i d) in
    let long : length piece ≡ j - i = length-take-le (j - i) (drop i d) (omega (arith, length-drop i d, room)) in
    ⊎_elim
    (λ inside. let there : get_or piece k 0 ≡ get_or d (i + k) 0 = get_or-take (j - i) (drop i d) k 0 inside ∙ get_or-drop i d k 0 in
    subst (λ x. x < 128) (sym there) (ascii (i + k) (omega arith) (omega (arith, inside))))
    (λ past. let none = get_or_past piece k 0 (omega (arith, long, past)) in omega (arith, none)) (cases_lt k (j - i))

pub ascii_more : (d : List ℕ) (i j : ℕ) → i ≤ j → j ≤ length d → IsUtf8 (take i d) → AsciiBetween d i j → IsUtf8 (take j d)
ascii_more d i j order room front ascii = run_more d i j order front (IsUtf8-from_ascii (take (j - i) (drop i d)) (piece_is_ascii d i j order room ascii))

-- ---- one run

-- a character of two bytes has five bits in the first and six in the second (RFC 3629, section 3)
character_of_two : (first second : ℕ) → (194 ≤ first) × (first < 224) × (128 ≤ second) × (second < 192) → IsUtf8 (first ∷ second ∷ [])
unfolding encode_utf8
character_of_two first second range =
    let character = (first - 192) * 64 + (second - 128) in
    let low : nat_lt character 128 ≡ false = grind (arith, nat_tests, range) in
    let high : nat_lt character 2048 ≡ true = grind (arith, nat_tests, range) in
    let bytes : encode_utf8 character ≡ first ∷ second ∷ [] = rw (low, high) (grind (arith, range)) in
    subst IsUtf8 bytes (IsUtf8-encode character (grind (arith, nat_tests, range)))

pub two_of_two : (run : List ℕ) → length run ≡ 2 → (194 ≤ get_or run 0 0) × (get_or run 0 0 < 224) × (128 ≤ get_or run 1 0) × (get_or run 1 0 < 192) → IsUtf8 run
two_of_two [] two range = absurd (omega (arith, two))
two_of_two (x ∷ []) two range = absurd (omega (arith, two))
two_of_two (x ∷ y ∷ []) two range = character_of_two x y range
two_of_two (x ∷ y ∷ z ∷ run) two range = absurd (omega (arith, two))
