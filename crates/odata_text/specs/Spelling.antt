-- How the tokens of each kind are spelled, and the literals that are left out (OData ABNF 4.01, sections 6 and 7).
use Rattle.std.specs.Prelude.{◌≡◌, ℕ, ◌<◌, ◌⊎◌, true, List, [], ◌∷◌, ◌++◌, codes, length}
use Rattle.std.specs.List.{AllByRecursion as AllOf}
use Rattle.std.specs.Str.{str_eq_ignore_ascii_case}
use Rattle.edm_values.specs.DateLiteral.{IsDateSpelling}
use Rattle.edm_values.specs.GuidLiteral.{IsGuidSpelling}
use Rattle.edm_values.specs.IntLiteral.{IsIntSpelling}
use Rattle.edm_values.specs.MomentLiteral.{IsMomentSpelling}
use Rattle.edm_values.specs.StringLiteral.{IsStringSpelling}
use Rattle.odata_text.specs.Identifier.{IsIdentifier}
use Rattle.odata_text.specs.LeftOut.{IsDecimalSpelling, IsTimeOfDaySpelling}
use Rattle.odata_text.specs.Sequence.{FollowedBy}
use Rattle.odata_text.specs.declared.form.Form.{Form}
use Rattle.odata_text.specs.declared.form.Form.TheVariants.{Token, LeftOut}
use Rattle.odata_text.specs.declared.form.LeftOutKind.{LeftOutKind}
use Rattle.odata_text.specs.declared.form.LeftOutKind.TheVariants.{Number, TimeOfDay, Quoted}
use Rattle.odata_text.specs.declared.token.TokenKind.{TokenKind}
use Rattle.odata_text.specs.declared.token.TokenKind.TheVariants.{Word, Dollar, Int, Date, Moment, Guid, Str, EnumLit, Open, Close, Comma, Slash, Colon, Minus}

-- this one byte
abbrev pub IsByte : ℕ → List ℕ → Type 0
IsByte b bytes = bytes ≡ b ∷ []

-- Words.

-- parts with a dot (46) before each but the first
abbrev pub dotted_parts : List ℕ → List (List ℕ) → List ℕ
dotted_parts part [] = part
dotted_parts part (next ∷ more) = part ++ 46 ∷ dotted_parts next more

-- one identifier, or several joined by dots (qualifiedTypeName)
pub record IsWordSpelling (bytes : List ℕ) : Type 0 where
  pub part : List ℕ
  pub more : List (List ℕ)
  pub identifier : IsIdentifier part
  pub identifiers : AllOf IsIdentifier more
  pub whole : bytes ≡ dotted_parts part more

-- with a dot or more
pub record IsDottedWord (bytes : List ℕ) : Type 0 where
  pub word : IsWordSpelling bytes
  pub dotted : 0 < length word.more

-- Literals that are left out.

-- the name in any case of its letters
abbrev pub IsNamed : List ℕ → List ℕ → Type 0
IsNamed name bytes = str_eq_ignore_ascii_case bytes name ≡ true

-- the name of a type that is left out
abbrev pub IsLeftOutName : List ℕ → Type 0
IsLeftOutName bytes =
    IsNamed (codes "duration") bytes ⊎ (IsNamed (codes "binary") bytes
    ⊎ (IsNamed (codes "geography") bytes ⊎ IsNamed (codes "geometry") bytes))

-- a number with a fraction or an exponent, a time of day, or such a name and a text in quotes
abbrev pub SpellsLeftOut : LeftOutKind → List ℕ → Type 0
SpellsLeftOut Number bytes = IsDecimalSpelling bytes
SpellsLeftOut TimeOfDay bytes = IsTimeOfDaySpelling bytes
SpellsLeftOut Quoted bytes = FollowedBy IsLeftOutName IsStringSpelling bytes

-- Tokens.

-- the bytes are spelled as a token of the kind
abbrev pub Spells : TokenKind → List ℕ → Type 0
Spells Word bytes = IsWordSpelling bytes
Spells Dollar bytes = FollowedBy (IsByte 36) IsIdentifier bytes
Spells Int bytes = IsIntSpelling bytes
Spells Date bytes = IsDateSpelling bytes
Spells Moment bytes = IsMomentSpelling bytes
Spells Guid bytes = IsGuidSpelling bytes
Spells Str bytes = IsStringSpelling bytes
Spells EnumLit bytes = FollowedBy IsDottedWord IsStringSpelling bytes
Spells Open bytes = IsByte 40 bytes
Spells Close bytes = IsByte 41 bytes
Spells Comma bytes = IsByte 44 bytes
Spells Slash bytes = IsByte 47 bytes
Spells Colon bytes = IsByte 58 bytes
Spells Minus bytes = IsByte 45 bytes

-- the bytes are such a piece
abbrev pub IsFormed : Form → List ℕ → Type 0
IsFormed (Token kind) bytes = Spells kind bytes
IsFormed (LeftOut kind) bytes = SpellsLeftOut kind bytes
