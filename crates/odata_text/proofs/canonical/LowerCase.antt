-- Words in lower case.
use Rattle.std.proofs.lemmas.List.{map-append}
use Rattle.std.proofs.lemmas.List.Folds.{map_fixed}
use Rattle.std.proofs.lemmas.Str.{encode_ascii, inside_one, scalars-chars}
use Rattle.std.proofs.lemmas.Str.Ascii.{lowercase_ascii, lowercase_is}
use Rattle.std.specs.Str.{all_scalars}
use Rattle.std.proofs.Math.Utf8.{scalar}
use Rattle.odata_text.proofs.Common.{list_all-map, chars_from_encodes, ◌≡◌, ⊎_elim, ℕ, ◌<◌, true, Bool, List, [], ◌∷◌, ◌++◌, map, get_or, chars, IsUtf8, arith, refl, sym, ◌∙◌, ap, append-nil, to_ascii_lowercase, list_all, encode_utf8_all, str_to_ascii_lowercase, encode, and_from, and_parts, cases_lt, get_or_default, nat_tests, encodes-chars, IsIdentifier, begins_identifier, continues_identifier, is_identifier, IsWordSpelling, dotted_parts, AllOf}
use Rattle.odata_text.proofs.characters.Identifiers.{list_all-weaker}
use Rattle.odata_text.proofs.characters.IdentifierBytes.{begins-ascii, continues-ascii, is_first_byte, is_name_byte}

-- Characters.

lowered-far : (c : ℕ) → 90 < c → to_ascii_lowercase c ≡ c
lowered-far c far = (lowercase_is c).2 far

-- what a test of ASCII says of a letter in any case it says of the letter
lowered-kept : (p ascii : ℕ → Bool) → ((c : ℕ) → c < 128 → p c ≡ ascii c) → ((c : ℕ) → ascii c ≡ true → ascii (to_ascii_lowercase c) ≡ true)
    → (c : ℕ) → p c ≡ true → p (to_ascii_lowercase c) ≡ true
lowered-kept p ascii same kept c passes =
    ⊎_elim
    (λ below. same (to_ascii_lowercase c) (lowercase_ascii c below) ∙ kept c (sym (same c below) ∙ passes))
    (λ far. ap p (lowered-far c (omega arith)) ∙ passes)
    (cases_lt c 128)

begins-lowered : (c : ℕ) → begins_identifier c ≡ true → begins_identifier (to_ascii_lowercase c) ≡ true
begins-lowered = lowered-kept begins_identifier is_first_byte begins-ascii first
  where
    first : (c : ℕ) → is_first_byte c ≡ true → is_first_byte (to_ascii_lowercase c) ≡ true
    first c is = grind (arith, nat_tests)

continues-lowered : (c : ℕ) → continues_identifier c ≡ true → continues_identifier (to_ascii_lowercase c) ≡ true
continues-lowered = lowered-kept continues_identifier is_name_byte continues-ascii name
  where
    name : (c : ℕ) → is_name_byte c ≡ true → is_name_byte (to_ascii_lowercase c) ≡ true
    name c is = grind (arith, nat_tests)

scalar-lowered : (c : ℕ) → scalar c ≡ true → scalar (to_ascii_lowercase c) ≡ true
scalar-lowered = lowered-kept scalar (λ c. true) below (λ c is. is)
  where
    below : (c : ℕ) → c < 128 → scalar c ≡ true
    below c ascii = grind (arith, nat_tests)

identifier-lowered : (cs : List ℕ) → is_identifier cs ≡ true → is_identifier (map to_ascii_lowercase cs) ≡ true
identifier-lowered [] is = is
identifier-lowered (c ∷ cs) is =
    let parts = and_parts (begins_identifier c) (list_all continues_identifier cs) is in
    let more = list_all-map continues_identifier to_ascii_lowercase cs ∙ list_all-weaker continues_identifier (λ b. continues_identifier (to_ascii_lowercase b)) cs continues-lowered parts.1 in
    and_from (begins_identifier (to_ascii_lowercase c)) _ (begins-lowered c parts.0) more

-- Their bytes.

scalars-lowered : (cs : List ℕ) → all_scalars cs ≡ true → all_scalars (map to_ascii_lowercase cs) ≡ true
scalars-lowered [] all = refl
scalars-lowered (c ∷ cs) all =
    let parts = and_parts (scalar c) (all_scalars cs) all in
    and_from _ _ (scalar-lowered c parts.0) (scalars-lowered cs parts.1)

-- no byte of a character past ASCII is a letter
encode-lowered : (c : ℕ) → map to_ascii_lowercase (encode c) ≡ encode (to_ascii_lowercase c)
encode-lowered c =
    ⊎_elim
    (λ below. ap (map to_ascii_lowercase) (encode_ascii c below) ∙ sym (encode_ascii (to_ascii_lowercase c) (lowercase_ascii c below)))
    (λ far.
    map_fixed to_ascii_lowercase (encode c) (λ k d inside.
    lowered-far (get_or (encode c) k d) (⊎_elim
    (λ below. let same : c ≡ get_or (encode c) k 0 = inside_one c [] (encode c) k (sym (append-nil (encode c))) inside below in absurd (omega arith))
    (λ above. let here = get_or_default (encode c) k d 0 inside in omega arith)
    (cases_lt (get_or (encode c) k 0) 128)))
    ∙ sym (ap encode (lowered-far c (omega arith))))
    (cases_lt c 128)

encodes-lowered : (cs : List ℕ) → str_to_ascii_lowercase (encode_utf8_all cs) ≡ encode_utf8_all (map to_ascii_lowercase cs)
encodes-lowered [] = refl
encodes-lowered (c ∷ cs) = map-append to_ascii_lowercase (encode c) (encode_utf8_all cs) ∙ (λ i. encode-lowered c i ++ encodes-lowered cs i)

-- Words.

lowered-identifier : (xs : List ℕ) → IsIdentifier xs → IsIdentifier (str_to_ascii_lowercase xs)
lowered-identifier xs identifier =
    let cs = map to_ascii_lowercase (chars xs) in
    let bytes : encode_utf8_all cs ≡ str_to_ascii_lowercase xs = sym (encodes-lowered (chars xs)) ∙ ap str_to_ascii_lowercase (encodes-chars xs identifier.utf8) in
    let utf8 : IsUtf8 (str_to_ascii_lowercase xs) = (cs, (scalars-lowered (chars xs) (scalars-chars xs identifier.utf8), bytes)) in
    record {
      utf8 = utf8;
      characters = sym (ap is_identifier (chars_from_encodes cs (str_to_ascii_lowercase xs) utf8 bytes)) ∙ identifier-lowered (chars xs) identifier.characters;
    }

lowered-identifiers : (more : List (List ℕ)) → AllOf IsIdentifier more → AllOf IsIdentifier (map str_to_ascii_lowercase more)
lowered-identifiers [] all = tt
lowered-identifiers (part ∷ more) all = (lowered-identifier part all.0, lowered-identifiers more all.1)

lowered-parts : (part : List ℕ) (more : List (List ℕ)) → str_to_ascii_lowercase (dotted_parts part more) ≡ dotted_parts (str_to_ascii_lowercase part) (map str_to_ascii_lowercase more)
lowered-parts part [] = refl
lowered-parts part (next ∷ more) =
    map-append to_ascii_lowercase part (46 ∷ dotted_parts next more)
    ∙ ap (λ (xs : List ℕ). str_to_ascii_lowercase part ++ 46 ∷ xs) (lowered-parts next more)

pub lowered-word : (xs : List ℕ) → IsWordSpelling xs → IsWordSpelling (str_to_ascii_lowercase xs)
lowered-word xs word = record {
  part = str_to_ascii_lowercase word.part;
  more = map str_to_ascii_lowercase word.more;
  identifier = lowered-identifier word.part word.identifier;
  identifiers = lowered-identifiers word.more word.identifiers;
  whole = ap str_to_ascii_lowercase word.whole ∙ lowered-parts word.part word.more;
}
