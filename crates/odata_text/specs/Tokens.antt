-- The tokens of a filter's text and its first fault (OData URL Conventions 4.01, section 5.1.1; OData ABNF 4.01,
-- section 6).
use Rattle.std.specs.Prelude.{◌≡◌, ℕ, ◌+◌, ◌-◌, ◌<◌, ◌≤◌, ◌⊎◌, Bool, true, false, IsTrue, List, [], ◌∷◌, length, drop, take, slice_index, slice_range, encode_utf8}
use Rattle.std.specs.Char.{IsScalar, len_utf8}
use Rattle.odata_text.specs.ByteClass.{class_of}
use Rattle.odata_text.specs.TokenModel.{TokenModel}
use Rattle.odata_text.specs.Identifier.{identifier_run}
use Rattle.odata_text.specs.Spelling.{IsFormed}
use Rattle.odata_text.specs.declared.byte_class.ByteClass.TheVariants.{Space, Quote}
use Rattle.odata_text.specs.declared.text_fault.TextFault.{TextFault}
use Rattle.odata_text.specs.declared.text_fault.TextFault.TheVariants.{BadCharacter, UnclosedString, LeftOutLiteral, RunOn, TooLong, Memory}
use Rattle.odata_text.specs.declared.form.Form.{Form}
use Rattle.odata_text.specs.declared.form.Form.TheVariants.{Token, LeftOut}
use Rattle.odata_text.specs.declared.form.LeftOutKind.{LeftOutKind}
use Rattle.odata_text.specs.declared.span.Span.{Span}
use Rattle.odata_text.specs.declared.token.TokenKind.{TokenKind}
use Rattle.odata_text.specs.declared.token.TokenKind.TheVariants.{Int, Date, Moment, Guid}

-- no text of a filter is longer, in bytes, and none has more tokens
abbrev pub text_limit : ℕ
text_limit = 16384

-- a text has no more tokens
abbrev pub token_limit : ℕ
token_limit = 4096

-- The longest piece.

-- the first n bytes are of the form, and no form spells a longer beginning
pub record IsLongest (form : Form) (n : ℕ) (rest : List ℕ) : Type 0 where
  pub within : n ≤ length rest
  pub spelled : IsFormed form (take n rest)
  pub longest : (other : Form) (m : ℕ) → m ≤ length rest → IsFormed other (take m rest) → m ≤ n

-- no form spells any beginning
abbrev pub NoneSpelled : List ℕ → Type 0
NoneSpelled rest = (form : Form) (m : ℕ) → IsFormed form (take m rest) → ⊥

-- a literal that no delimiter of its own ends
abbrev pub is_undelimited : TokenKind → Bool
is_undelimited Int = true
is_undelimited Date = true
is_undelimited Moment = true
is_undelimited Guid = true
is_undelimited _ = false

-- an identifier character stands directly after such a literal, rest being what is after
abbrev pub RunsOn : TokenKind → List ℕ → Type 0
RunsOn kind rest = IsTrue (is_undelimited kind) × (0 < identifier_run rest)

-- the token is the longest piece at its offset
pub record IsLongestToken (text : List ℕ) (token : TokenModel) : Type 0 where
  pub order : token.start ≤ token.stop
  pub longest : IsLongest (Token token.kind) (token.stop - token.start) (drop token.start text)
  pub bytes : token.text ≡ slice_range text token.start token.stop

-- a faultless token
pub record IsTokenAt (text : List ℕ) (token : TokenModel) : Type 0 where
  pub longest : IsLongestToken text token
  pub ends : RunsOn token.kind (drop token.stop text) → ⊥

-- Token lists.

-- from one offset to another there is white space alone
pub record IsGap (text : List ℕ) (from to : ℕ) : Type 0 where
  pub order : from ≤ to
  pub within : to ≤ length text
  pub white : (i : ℕ) → from ≤ i → i < to → class_of (slice_index text i) ≡ Space

-- where the last of the tokens stops
abbrev pub end_of : ℕ → List TokenModel → ℕ
end_of from [] = from
end_of from (token ∷ list) = end_of token.stop list

-- faultless tokens that follow one another from an offset on, with white space alone before and between them
abbrev pub AreTokensFrom : List ℕ → ℕ → List TokenModel → Type 0
AreTokensFrom text from [] = Unit {0}
AreTokensFrom text from (token ∷ list) =
    IsGap text from token.start × (IsTokenAt text token × AreTokensFrom text token.stop list)

-- the tokens of a whole text
pub record IsTokenList (text : List ℕ) (list : List TokenModel) : Type 0 where
  pub short : length text ≤ text_limit
  pub few : length list ≤ token_limit
  pub tokens : AreTokensFrom text 0 list
  pub ends : IsGap text (end_of 0 list) (length text)

-- Faults.

-- no token begins at the offset, though it is no white space
pub record IsNoToken (text : List ℕ) (place : ℕ) : Type 0 where
  pub inside : place < length text
  pub solid : class_of (slice_index text place) ≡ Space → ⊥
  pub none : NoneSpelled (drop place text)

-- the span is that of the character c
pub record IsCharacterAt (text : List ℕ) (span : Span) (c : ℕ) : Type 0 where
  pub scalar : IsScalar c
  pub stop : span.stop ≡ span.start + len_utf8 c
  pub bytes : slice_range text span.start span.stop ≡ encode_utf8 c

-- a character other than `'` where no token begins
pub record IsBadCharacter (text : List ℕ) (span : Span) : Type 0 where
  pub no_token : IsNoToken text span.start
  pub unquoted : class_of (slice_index text span.start) ≡ Quote → ⊥
  pub character : (c : ℕ) × IsCharacterAt text span c

-- a `'` where no token begins, up to the end of the text
pub record IsUnclosed (text : List ℕ) (span : Span) : Type 0 where
  pub no_token : IsNoToken text span.start
  pub quoted : class_of (slice_index text span.start) ≡ Quote
  pub stop : span.stop ≡ length text

-- the longest piece at its offset is a literal that is left out
pub record IsLeftOutLiteral (text : List ℕ) (span : Span) : Type 0 where
  pub kind : LeftOutKind
  pub order : span.start ≤ span.stop
  pub longest : IsLongest (LeftOut kind) (span.stop - span.start) (drop span.start text)

-- a piece with identifier characters directly after it, up to the last of these
pub record IsRunOn (text : List ℕ) (span : Span) : Type 0 where
  pub token : TokenModel
  pub longest : IsLongestToken text token
  pub runs_on : RunsOn token.kind (drop token.stop text)
  pub start : span.start ≡ token.start
  pub stop : span.stop ≡ token.stop + identifier_run (drop token.stop text)

-- a faultless token more than there may be
pub record IsOneTooMany (text : List ℕ) (before : ℕ) (span : Span) : Type 0 where
  pub count : before ≡ token_limit
  pub last : TokenModel
  pub token : IsTokenAt text last
  pub start : span.start ≡ last.start
  pub stop : span.stop ≡ last.stop

-- the fault's span starts at the offset, after so many tokens
abbrev pub IsFaultAt : List ℕ → ℕ → ℕ → TextFault → Type 0
IsFaultAt text place before (BadCharacter span) = (span.start ≡ place) × IsBadCharacter text span
IsFaultAt text place before (UnclosedString span) = (span.start ≡ place) × IsUnclosed text span
IsFaultAt text place before (LeftOutLiteral span) = (span.start ≡ place) × IsLeftOutLiteral text span
IsFaultAt text place before (RunOn span) = (span.start ≡ place) × IsRunOn text span
IsFaultAt text place before (TooLong span) = (span.start ≡ place) × IsOneTooMany text before span
IsFaultAt text place before Memory = ⊥

-- faultless tokens, white space, and then the fault
pub record IsFaultBehind (text : List ℕ) (fault : TextFault) : Type 0 where
  pub short : length text ≤ text_limit
  pub before : List TokenModel
  pub few : length before ≤ token_limit
  pub tokens : AreTokensFrom text 0 before
  pub place : ℕ
  pub gap : IsGap text (end_of 0 before) place
  pub fault_at : IsFaultAt text place (length before) fault

-- the whole text is too long
pub record IsOverlong (text : List ℕ) (fault : TextFault) : Type 0 where
  pub long : text_limit < length text
  pub whole : fault ≡ TooLong (record { start = 0; stop = length text })

-- the first fault of a text, with its span
abbrev pub IsTextFault : List ℕ → TextFault → Type 0
IsTextFault text fault = IsOverlong text fault ⊎ IsFaultBehind text fault
