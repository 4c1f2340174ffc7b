-- How far the tokens of a text have been read.
use Rattle.odata_text.proofs.Common.{Spells, ◌≡◌, ℕ, ◌-◌, ◌<◌, ◌≤◌, List, [], ◌∷◌, ◌++◌, length, drop, arith, refl, sym, subst, length-take-le, length-drop, TokenModel, AreTokensFrom, IsGap, IsTokenAt, IsTokenList, end_of}
use Rattle.odata_text.specs.TokenSequence.{AreTextTokens}
use Rattle.odata_text.specs.declared.form.Form.TheVariants.{Token as IsToken}
use Rattle.odata_text.proofs.machine.Longest.{formed-some}

pub tokens-push : (text : List ℕ) (from : ℕ) (pieces : List TokenModel) (piece : TokenModel) → AreTokensFrom text from pieces → IsGap text (end_of from pieces) piece.start → IsTokenAt text piece
    → AreTokensFrom text from (pieces ++ piece ∷ [])
tokens-push text from [] piece tokens gap token = (gap, (token, tt))
tokens-push text from (first ∷ pieces) piece tokens gap token = (tokens.0, (tokens.1.0, tokens-push text first.stop pieces piece tokens.1.1 gap token))

pub end_of-push : (from : ℕ) (pieces : List TokenModel) (piece : TokenModel) → end_of from (pieces ++ piece ∷ []) ≡ piece.stop
end_of-push from [] piece = refl
end_of-push from (first ∷ pieces) piece = end_of-push first.stop pieces piece

-- a token takes a byte or more of the text
pub record IsInside (text : List ℕ) (piece : TokenModel) : Type 0 where
  pub nonempty : piece.start < piece.stop
  pub within : piece.stop ≤ length text

pub IsInside-token : (text : List ℕ) (piece : TokenModel) → IsTokenAt text piece → IsInside text piece
IsInside-token text piece token =
    let longest = token.longest.longest in
    let within = longest.within in
    let size = length-take-le (piece.stop - piece.start) (drop piece.start text) within in
    let some = formed-some (IsToken piece.kind) _ longest.spelled in
    let room = length-drop piece.start text in
    record { nonempty = omega arith; within = omega arith }

-- The tokens of a text are spelled by their kinds, in order.

text_from : (text : List ℕ) (from : ℕ) (list : List TokenModel) → AreTokensFrom text from list → IsGap text (end_of from list) (length text) → AreTextTokens from (length text) list
text_from text from [] tokens ends = ends.order
text_from text from (token ∷ list) tokens ends =
    (record { order = tokens.0.order; solid = (IsInside-token text token tokens.1.0).nonempty; spelled = subst (Spells token.kind) (sym tokens.1.0.longest.bytes) tokens.1.0.longest.longest.spelled }, text_from text token.stop list tokens.1.1 ends)

pub text_tokens : (text : List ℕ) (list : List TokenModel) → IsTokenList text list → AreTextTokens 0 (length text) list
text_tokens text list is = text_from text 0 list is.tokens is.ends
