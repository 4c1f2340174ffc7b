use Rattle.odata_text.proofs.Common.{ℕ, List, ◌∷◌, refl, sym, subst, Close, Comma, Slash, TokenKind}
use Rattle.odata_text.specs.declared.token.TokenKind.TheVariants.{Open, Colon}
use Rattle.odata_text.specs.private.PlainTokens.{IsTokenBetween}
use Rattle.odata_text.proofs.readings.PlainTokens.{mark-token}
use Rattle.odata_text.proofs.plain.mark_kind.Goals as goal

-- a token of the kind, whatever follows it
abbrev IsMark : TokenKind → ℕ → Type 0
IsMark kind b = (rest : List ℕ) → IsTokenBetween (b ∷ rest) kind 0 1

pub returns-in-40 : goal.returns-in-40
returns-in-40 c = subst (IsMark Open) (sym c.in-40.is) (mark-token 40 Open refl refl refl)

pub returns-in-41 : goal.returns-in-41
returns-in-41 c = subst (IsMark Close) (sym c.in-41.is) (mark-token 41 Close refl refl refl)

pub returns-in-44 : goal.returns-in-44
returns-in-44 c = subst (IsMark Comma) (sym c.in-44.is) (mark-token 44 Comma refl refl refl)

pub returns-in-47 : goal.returns-in-47
returns-in-47 c = subst (IsMark Slash) (sym c.in-47.is) (mark-token 47 Slash refl refl refl)

pub returns-in-58 : goal.returns-in-58
returns-in-58 c = subst (IsMark Colon) (sym c.in-58.is) (mark-token 58 Colon refl refl refl)
