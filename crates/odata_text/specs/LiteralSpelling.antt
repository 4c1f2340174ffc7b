-- The canonical spellings of literals (OData ABNF 4.01, section 7).
use Rattle.std.specs.Prelude.{◌≡◌, ◌⊎◌, ℕ, ◌==◌, ◌||◌, ◌&&◌, if◌then◌else◌, Bool, true, false, List, [], ◌∷◌, length}
use Rattle.std.specs.Str.{str_to_ascii_lowercase}
use Rattle.edm_values.specs.GuidLiteral.{GuidValue, guid_spelling}
use Rattle.edm_values.specs.IntLiteral.{IntValue, int_spelling}
use Rattle.edm_values.specs.MomentLiteral.{MomentValue, moment_spelling}
use Rattle.odata_text.specs.declared.token.TokenKind.{TokenKind}
use Rattle.odata_text.specs.declared.token.TokenKind.TheVariants.{Word, Int, Moment, Guid, EnumLit}

-- the one spelling that the value of the text has, or the text itself where it has no value
abbrev pub IsSpellingOfValue : {V : Type 0} → (List ℕ → V → Type 0) → (V → List ℕ) → List ℕ → List ℕ → Type 0
IsSpellingOfValue {V} IsValue spelling_of text spelling =
    ((value : V) × IsValue text value × (spelling ≡ spelling_of value))
    ⊎ ((¬ ((value : V) × IsValue text value)) × (spelling ≡ text))

-- Enumeration literals: the text between the quotes has pieces between commas (44), with spaces (32) round them.

-- nothing but spaces stands before the next comma or the last quote (39)
abbrev pub is_piece_end : List ℕ → Bool
is_piece_end [] = false
is_piece_end (b ∷ bs) = (b == 44) || (((b == 39) && (length bs == 0)) || ((b == 32) && is_piece_end bs))

-- without the spaces that stand before a piece, if so far nothing but spaces does, or after one
abbrev pub trimmed_pieces : Bool → List ℕ → List ℕ
trimmed_pieces before [] = []
trimmed_pieces before (b ∷ bs) =
    if (b == 32) && (before || is_piece_end bs) then trimmed_pieces before bs
    else b ∷ trimmed_pieces (b == 44) bs

-- after the first quote without the spaces round the pieces
abbrev pub enumeration_spelling : List ℕ → List ℕ
enumeration_spelling [] = []
enumeration_spelling (b ∷ bs) = b ∷ (if b == 39 then trimmed_pieces true bs else enumeration_spelling bs)

-- Literals.

-- the canonical spelling of a literal that is a token of the kind: of `true`, `false` and `null` in lower case; a date
-- and a text in quotes have but one
abbrev pub IsSpellingOf : TokenKind → List ℕ → List ℕ → Type 0
IsSpellingOf Word text spelling = spelling ≡ str_to_ascii_lowercase text
IsSpellingOf Int text spelling = IsSpellingOfValue IntValue int_spelling text spelling
IsSpellingOf Moment text spelling = IsSpellingOfValue MomentValue moment_spelling text spelling
IsSpellingOf Guid text spelling = IsSpellingOfValue GuidValue guid_spelling text spelling
IsSpellingOf EnumLit text spelling = spelling ≡ enumeration_spelling text
IsSpellingOf _ text spelling = spelling ≡ text

pub record IsLiteralSpelling (kind : TokenKind) (text spelling : List ℕ) : Type 0 where
  pub is : IsSpellingOf kind text spelling
