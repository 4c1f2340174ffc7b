-- Tokens of a text of any length, and tokens apart from the text that they are of (OData ABNF 4.01, section 6).
use Rattle.std.specs.Prelude.{ℕ, ◌<◌, ◌≤◌, List, [], ◌∷◌, length}
use Rattle.odata_text.specs.TokenModel.{TokenModel}
use Rattle.odata_text.specs.Spelling.{Spells}
use Rattle.odata_text.specs.Tokens.{AreTokensFrom, IsGap, end_of}

-- the tokens of a whole text, however long it is and however many they are
pub record AreTokensOf (text : List ℕ) (list : List TokenModel) : Type 0 where
  pub tokens : AreTokensFrom text 0 list
  pub ends : IsGap text (end_of 0 list) (length text)

-- the token stands at or after an offset, takes a byte or more, and is spelled by its kind
pub record IsTextToken (from : ℕ) (token : TokenModel) : Type 0 where
  pub order : from ≤ token.start
  pub solid : token.start < token.stop
  pub spelled : Spells token.kind token.text

-- tokens that follow one another from an offset on, in a text of this length
abbrev pub AreTextTokens : ℕ → ℕ → List TokenModel → Type 0
AreTextTokens from len [] = from ≤ len
AreTextTokens from len (token ∷ list) = IsTextToken from token × AreTextTokens token.stop len list
