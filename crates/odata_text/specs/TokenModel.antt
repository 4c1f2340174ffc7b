-- A token apart from where its text lies in memory (OData ABNF 4.01, section 6).
use Rattle.std.specs.Prelude.{ℕ, List, map}
use Rattle.odata_text.specs.declared.token.TokenKind.{TokenKind}
use Rattle.odata_text.specs.declared.token.Token.{Token}

-- a kind, an offset in bytes, and the bytes there
pub record TokenModel : Type 0 where
  pub kind : TokenKind
  pub start : ℕ
  pub stop : ℕ
  pub text : List ℕ

abbrev pub token_model : Token → TokenModel
token_model t = record { kind = t.kind; start = t.span.start; stop = t.span.stop; text = t.text.now }

-- likewise tokens one after another
abbrev pub token_models : List Token → List TokenModel
token_models = map token_model
