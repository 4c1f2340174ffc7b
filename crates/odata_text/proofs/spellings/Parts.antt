-- What the parts of pieces that are made of two begin with, and which bytes they do not have.
use Rattle.std.proofs.lemmas.List.Folds.{list_all-append}
use Rattle.std.proofs.lemmas.Slice.Eq.{bytes_eq-Decides}
use Rattle.odata_text.proofs.Common.{AllOf, list_all-map, ◌≡◌, inl, inr, ℕ, ◌+◌, ◌<◌, ◌==◌, ◌&&◌, nat_le, not, Bool, true, List, [], ◌∷◌, length, get_or, codes, arith, refl, sym, ◌∙◌, ap, subst, IsUtf8, IsCharBoundary, length-map, is_ascii_alphabetic, to_ascii_lowercase, str_to_ascii_lowercase, list_all, and_from, nat_tests, get_or-take, length-take-le, IsCharBoundary-after_ascii, IsStringSpelling, IsIdentifier, IsByte, IsDottedWord, IsLeftOutName, IsNamed, dotted_parts, IsReach}
use Rattle.odata_text.proofs.characters.Identifiers.{identifier-nonempty, list_all-weaker}
use Rattle.odata_text.proofs.characters.IdentifierBytes.{identifier-part, is_part_byte, letters-identifier}
use Rattle.odata_text.proofs.spellings.Sequences.{ArePieces, pair-empty, pieces-by_byte, pieces-sized, stops}
use Rattle.odata_text.proofs.spellings.Words.{DotAndWord, dotted-pair}

-- Names in any case of their letters.

same-lowered : (name xs : List ℕ) → IsNamed name xs → str_to_ascii_lowercase xs ≡ str_to_ascii_lowercase name
same-lowered name xs named = (bytes_eq-Decides (str_to_ascii_lowercase xs) (str_to_ascii_lowercase name)).0 named

pub named-length : (name xs : List ℕ) → IsNamed name xs → length xs ≡ length name
named-length name xs named =
    sym (length-map xs to_ascii_lowercase) ∙ ap length (same-lowered name xs named) ∙ length-map name to_ascii_lowercase

-- a small letter
abbrev is_small : ℕ → Bool
is_small b = nat_le 97 b && nat_le b 122

small-lowered : (b : ℕ) → is_small (to_ascii_lowercase b) ≡ true → is_ascii_alphabetic b ≡ true
small-lowered b small = grind (arith, nat_tests)

-- what has the letters of a name is an identifier
named-identifier : (name xs : List ℕ) → 0 < length name → list_all is_small (str_to_ascii_lowercase name) ≡ true → IsNamed name xs → IsIdentifier xs
named-identifier name xs some letters named =
    let size = named-length name xs named in
    letters-identifier xs (omega arith)
    (list_all-weaker (λ b. is_small (to_ascii_lowercase b)) is_ascii_alphabetic xs small-lowered (sym (list_all-map is_small to_ascii_lowercase xs) ∙ ap (list_all is_small) (same-lowered name xs named) ∙ letters))

pub left_out-identifier : (xs : List ℕ) → IsLeftOutName xs → IsIdentifier xs
left_out-identifier xs (inl named) = named-identifier (codes "duration") xs (omega arith) refl named
left_out-identifier xs (inr (inl named)) = named-identifier (codes "binary") xs (omega arith) refl named
left_out-identifier xs (inr (inr (inl named))) = named-identifier (codes "geography") xs (omega arith) refl named
left_out-identifier xs (inr (inr (inr named))) = named-identifier (codes "geometry") xs (omega arith) refl named

-- One byte.

pub byte-boundary : (b n : ℕ) (rest : List ℕ) → IsUtf8 rest → b < 128 → IsReach (IsByte b) n rest → 0 < n → IsCharBoundary rest n
byte-boundary b n rest utf8 ascii reach some =
    let found = reach.found some in
    let within = reach.within in
    let size = ap length found in
    let taken = length-take-le n rest within in
    let byte : get_or rest 0 0 ≡ b = sym (get_or-take n rest 0 0 some) ∙ ap (λ (xs : List ℕ). get_or xs 0 0) found in
    let next : 0 + 1 ≡ n = omega arith in
    subst (IsCharBoundary rest) next (IsCharBoundary-after_ascii rest 0 utf8 (omega arith) (omega arith))

-- Quotes.

-- any byte but a quote
abbrev pub is_unquoted : ℕ → Bool
is_unquoted b = not (b == 39)

identifier-unquoted : (xs : List ℕ) → IsIdentifier xs → list_all is_unquoted xs ≡ true
identifier-unquoted xs identifier = list_all-weaker is_part_byte is_unquoted xs part (identifier-part xs identifier)
  where
    part : (b : ℕ) → is_part_byte b ≡ true → is_unquoted b ≡ true
    part b is = grind (arith, nat_tests)

dotted_parts-unquoted : (part : List ℕ) (more : List (List ℕ)) → IsIdentifier part → AllOf IsIdentifier more → list_all is_unquoted (dotted_parts part more) ≡ true
dotted_parts-unquoted part [] identifier all = identifier-unquoted part identifier
dotted_parts-unquoted part (next ∷ more) identifier all =
    list_all-append is_unquoted part (46 ∷ dotted_parts next more) ∙ and_from _ _ (identifier-unquoted part identifier) (dotted_parts-unquoted next more all.0 all.1)

pub dotted-unquoted : (xs : List ℕ) → IsDottedWord xs → list_all is_unquoted xs ≡ true
dotted-unquoted xs dotted = ap (list_all is_unquoted) dotted.word.whole ∙ dotted_parts-unquoted dotted.word.part dotted.word.more dotted.word.identifier dotted.word.identifiers

string-stops : (ys : List ℕ) → IsStringSpelling ys → stops is_unquoted ys ≡ true
string-stops ys spelled = ap (stops is_unquoted) spelled.1

-- Pieces of two.

identifier-none : IsIdentifier [] → ⊥
identifier-none identifier = let some = identifier-nonempty [] identifier in absurd (omega arith)

pub mark_name : ArePieces (IsByte 36) IsIdentifier
mark_name = pieces-sized (IsByte 36) IsIdentifier 0 (λ xs is. ap length is) identifier-none

pub word_text : ArePieces IsDottedWord IsStringSpelling
word_text = pieces-by_byte IsDottedWord IsStringSpelling is_unquoted (λ dotted. identifier-none (pair-empty IsIdentifier DotAndWord (dotted-pair [] dotted)).0) dotted-unquoted string-stops

pub name_text : ArePieces IsLeftOutName IsStringSpelling
name_text =
    pieces-by_byte IsLeftOutName IsStringSpelling is_unquoted (λ name. identifier-none (left_out-identifier [] name)) (λ xs name. identifier-unquoted xs (left_out-identifier xs name)) string-stops
