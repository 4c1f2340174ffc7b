-- Which ASCII bytes an identifier has.
use Rattle.std.specs.Bool.{beq}
use Rattle.std.specs.Str.{IsAscii, NonePass}
use Rattle.std.proofs.lemmas.Str.{NoCharPasses-byte, char_from_byte}
use Rattle.std.proofs.lemmas.Str.Ascii.{IsAscii-from_all}
use Rattle.unicode.specs.GeneralCategory.{general_category}
use Rattle.unicode.proofs.Facts.{Stepped-below, same_from_beq}
use Rattle.unicode.proofs.CategoryComputing.{ucd_category}
use Rattle.unicode.proofs.GeneralCategoryLemmas.{general_category_stepped}
use Rattle.odata_text.proofs.Common.{not-false, or_right, All-from_get_or, AllPass-from_list_all, list_all-from_AllPass, ◌≡◌, ⊎_elim, ℕ, ◌<◌, ◌≤◌, nat_le, ◌||◌, ◌&&◌, ◌==◌, Bool, true, false, not, List, [], ◌∷◌, length, get_or, arith, refl, sym, ◌∙◌, ap, append-nil, ◌++◌, chars, chars-nil, chars-append, cond-false, take_while-cons, IsAscii-cons, IsAscii-nil, is_ascii_alphabetic, is_ascii, list_all, take_while, encode_utf8_all, nat_tests, and_from, and_parts, both_ways, cases_lt, or_left, IsUtf8-from_ascii, chars-IsAscii, encodes-chars, IsIdentifier, begins_identifier, continues_identifier, identifier_run, is_identifier}
use Rattle.odata_text.specs.Identifier.{is_following, is_leading}
pub use Rattle.odata_text.specs.private.PlainTokens.{is_first_byte, is_name_byte}
use Rattle.odata_text.proofs.characters.Identifiers.{all-from_identifier, identifier-nonempty, list_all-weaker, take_while-front}

-- a first byte of an identifier: those of ASCII, or one of a character past ASCII
abbrev pub is_word_start : ℕ → Bool
is_word_start b = is_first_byte b || nat_le 128 b

-- a byte of an identifier
abbrev pub is_part_byte : ℕ → Bool
is_part_byte b = is_name_byte b || nat_le 128 b

pub continues-ascii : (c : ℕ) → c < 128 → continues_identifier c ≡ is_name_byte c
unfolding ucd_category continues_identifier begins_identifier
continues-ascii c below =
    same_from_beq _ _ (Stepped-below general_category general_category_stepped (λ x g. beq (((x == 95) || is_leading g) || is_following g) (is_name_byte x)) 128 refl c below)

pub begins-ascii : (c : ℕ) → c < 128 → begins_identifier c ≡ is_first_byte c
unfolding ucd_category begins_identifier
begins-ascii c below =
    same_from_beq _ _ (Stepped-below general_category general_category_stepped (λ x g. beq ((x == 95) || is_leading g) (is_first_byte x)) 128 refl c below)

none-stops : (cs : List ℕ) → list_all continues_identifier cs ≡ true → NonePass (λ c. not (continues_identifier c)) cs
none-stops [] all = tt
none-stops (c ∷ cs) all =
    let parts = and_parts (continues_identifier c) (list_all continues_identifier cs) all in
    (ap not parts.0, none-stops cs parts.1)

-- a byte that passes if it is one of ASCII
ascii-or_past : (p : ℕ → Bool) (b : ℕ) → (b < 128 → p b ≡ true) → (p b || nat_le 128 b) ≡ true
ascii-or_past p b ascii = ⊎_elim (λ below. or_left _ _ (ascii below)) (λ far. or_right _ _ (past b far)) (cases_lt b 128)
  where
    past : (c : ℕ) → 128 ≤ c → nat_le 128 c ≡ true
    past c far = grind (arith, nat_tests)

pub identifier-part : (xs : List ℕ) → IsIdentifier xs → list_all is_part_byte xs ≡ true
identifier-part xs identifier =
    list_all-from_AllPass is_part_byte xs (All-from_get_or (λ b. is_part_byte b ≡ true) xs 0 (λ i inside.
    ascii-or_past is_name_byte (get_or xs i 0) (λ ascii.
    let all = none-stops (chars xs) (all-from_identifier (chars xs) identifier.characters) in
    let stops = NoCharPasses-byte (λ c. not (continues_identifier c)) xs i (chars xs, encodes-chars xs identifier.utf8, all) inside ascii in
    sym (continues-ascii (get_or xs i 0) ascii) ∙ not-false (continues_identifier (get_or xs i 0)) stops)))

pub identifier-start : (xs : List ℕ) → IsIdentifier xs → is_word_start (get_or xs 0 0) ≡ true
identifier-start xs identifier = ascii-or_past is_first_byte (get_or xs 0 0) (first xs (chars xs) identifier.characters (encodes-chars xs identifier.utf8) (identifier-nonempty xs identifier))
  where
    first : (bs cs : List ℕ) → is_identifier cs ≡ true → encode_utf8_all cs ≡ bs → 0 < length bs → get_or bs 0 0 < 128 → is_first_byte (get_or bs 0 0) ≡ true
    first bs [] characters bytes some ascii = absurd (both_ways _ refl characters)
    first bs (c ∷ cs) characters bytes some ascii =
        let same : c ≡ get_or bs 0 0 = char_from_byte bs (encode_utf8_all cs) c (sym bytes) ascii some in
        sym (begins-ascii (get_or bs 0 0) ascii) ∙ sym (ap begins_identifier same) ∙ (and_parts (begins_identifier c) (list_all continues_identifier cs) characters).0

-- Identifiers of ASCII bytes alone.

abbrev pub is_ascii_name : List ℕ → Bool
is_ascii_name [] = false
is_ascii_name (b ∷ bs) = is_first_byte b && list_all is_name_byte bs

name-ascii : (b : ℕ) → is_name_byte b ≡ true → is_ascii b ≡ true
name-ascii b name = grind (arith, nat_tests)

name-from_first : (b : ℕ) → is_first_byte b ≡ true → is_name_byte b ≡ true
name-from_first b first = grind (arith, nat_tests)

below-ascii : (b : ℕ) → is_ascii b ≡ true → b < 128
below-ascii b ascii = grind (arith, nat_tests)

pub all-ascii : (bs : List ℕ) → list_all is_ascii bs ≡ true → IsAscii bs
all-ascii bs all = IsAscii-from_all bs (λ k d inside. below-ascii (get_or bs k d) (AllPass-from_list_all is_ascii bs all k d inside))

names-ascii : (bs : List ℕ) → list_all is_name_byte bs ≡ true → IsAscii bs
names-ascii bs all = all-ascii bs (list_all-weaker is_name_byte is_ascii bs name-ascii all)

names-continue : (bs : List ℕ) → list_all is_name_byte bs ≡ true → list_all continues_identifier bs ≡ true
names-continue bs all = list_all-weaker is_name_byte continues_identifier bs (λ b name. continues-ascii b (below-ascii b (name-ascii b name)) ∙ name) all

pub ascii-identifier : (bs : List ℕ) → is_ascii_name bs ≡ true → IsIdentifier bs
ascii-identifier [] name = absurd (both_ways _ refl name)
ascii-identifier (b ∷ bs) name =
    let parts = and_parts (is_first_byte b) (list_all is_name_byte bs) name in
    let first = name-from_first b parts.0 in
    let ascii = names-ascii (b ∷ bs) (and_from (is_name_byte b) _ first parts.1) in
    let begins : begins_identifier b ≡ true = begins-ascii b (below-ascii b (name-ascii b first)) ∙ parts.0 in
    record {
      utf8 = IsUtf8-from_ascii (b ∷ bs) ascii;
      characters = ap is_identifier (chars-IsAscii (b ∷ bs) ascii) ∙ and_from (begins_identifier b) (list_all continues_identifier bs) begins (names-continue bs parts.1);
    }

-- all of it is the run
pub run-names : (rest : List ℕ) → list_all is_name_byte rest ≡ true → identifier_run rest ≡ length (encode_utf8_all rest)
run-names rest all =
    ap (λ (cs : List ℕ). length (encode_utf8_all cs))
    (ap (take_while continues_identifier) (chars-IsAscii rest (names-ascii rest all) ∙ sym (append-nil rest)) ∙ take_while-front continues_identifier rest [] (names-continue rest all) ∙ append-nil rest)

-- The run of identifier characters at the front ends before any other ASCII byte.

pub run-nothing : identifier_run [] ≡ 0
run-nothing = ap (λ (cs : List ℕ). length (encode_utf8_all (take_while continues_identifier cs))) chars-nil

pub run-outside : (b : ℕ) (more : List ℕ) → b < 128 → is_name_byte b ≡ false → identifier_run (b ∷ more) ≡ 0
run-outside b more ascii outside =
    let one = IsAscii-cons b [] ascii IsAscii-nil in
    let front : chars (b ∷ more) ≡ b ∷ chars more = chars-append (b ∷ []) more (IsUtf8-from_ascii (b ∷ []) one) ∙ ap (λ (cs : List ℕ). cs ++ chars more) (chars-IsAscii (b ∷ []) one) in
    let stops : continues_identifier b ≡ false = continues-ascii b ascii ∙ outside in
    let none : take_while continues_identifier (b ∷ chars more) ≡ [] = take_while-cons continues_identifier b (chars more) ∙ cond-false (continues_identifier b) _ _ stops in
    ap (λ (cs : List ℕ). length (encode_utf8_all cs)) (ap (take_while continues_identifier) front ∙ none)

pub letters-identifier : (bs : List ℕ) → 0 < length bs → list_all is_ascii_alphabetic bs ≡ true → IsIdentifier bs
letters-identifier [] some letters = absurd (omega arith)
letters-identifier (b ∷ bs) some letters =
    let parts = and_parts (is_ascii_alphabetic b) (list_all is_ascii_alphabetic bs) letters in
    let first = λ (c : ℕ) (letter : is_ascii_alphabetic c ≡ true). or_left _ (c == 95) letter in
    ascii-identifier (b ∷ bs) (and_from (is_first_byte b) _ (first b parts.0) (list_all-weaker is_ascii_alphabetic is_name_byte bs (λ c letter. name-from_first c (first c letter)) parts.1))
