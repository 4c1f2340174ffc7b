-- Identifiers (OData ABNF 4.01, section 6, odataIdentifier; here of any length).
use Rattle.std.specs.Prelude.{◌≡◌, ℕ, Bool, true, false, ◌||◌, ◌&&◌, ◌==◌, IsUtf8, List, [], ◌∷◌, length, chars, encode_utf8_all}
use Rattle.std.specs.List.{list_all, take_while}
use Rattle.unicode.specs.GeneralCategory.{general_category}
use Rattle.unicode.specs.declared.properties.GeneralCategory.{GeneralCategory}
use Rattle.unicode.specs.declared.properties.GeneralCategory.TheVariants.{UppercaseLetter, LowercaseLetter, TitlecaseLetter, ModifierLetter, OtherLetter, LetterNumber, DecimalNumber, NonspacingMark, SpacingMark, ConnectorPunctuation, Format}

-- the categories of a first character: L and Nl (identifierLeadingCharacter)
abbrev pub is_leading : GeneralCategory → Bool
is_leading UppercaseLetter = true
is_leading LowercaseLetter = true
is_leading TitlecaseLetter = true
is_leading ModifierLetter = true
is_leading OtherLetter = true
is_leading LetterNumber = true
is_leading _ = false

-- those that further characters may also have: Nd, Mn, Mc, Pc and Cf (identifierCharacter)
abbrev pub is_following : GeneralCategory → Bool
is_following DecimalNumber = true
is_following NonspacingMark = true
is_following SpacingMark = true
is_following ConnectorPunctuation = true
is_following Format = true
is_following _ = false

-- `_` or a character of a leading category
unfoldable pub begins_identifier : ℕ → Bool
begins_identifier c = (c == 95) || is_leading (general_category c)

unfoldable pub continues_identifier : ℕ → Bool
continues_identifier c = begins_identifier c || is_following (general_category c)

-- of a list of characters: one that begins an identifier, and none after it that does not continue one
abbrev pub is_identifier : List ℕ → Bool
is_identifier [] = false
is_identifier (c ∷ cs) = begins_identifier c && list_all continues_identifier cs

-- the bytes are an identifier in UTF-8
pub record IsIdentifier (bytes : List ℕ) : Type 0 where
  pub utf8 : IsUtf8 bytes
  pub characters : is_identifier (chars bytes) ≡ true

-- how many bytes the run of identifier characters at the front takes
abbrev pub identifier_run : List ℕ → ℕ
identifier_run rest = length (encode_utf8_all (take_while continues_identifier (chars rest)))
