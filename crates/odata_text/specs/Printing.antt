-- Tokens that are printed one after another (for a printer of filters).
use Rattle.std.specs.Prelude.{◌≡◌, ⊤, ℕ, ◌+◌, ◌==◌, ◌||◌, ◌&&◌, not, Bool, true, List, [], ◌∷◌, ◌++◌, length, flat_map, All}
use Rattle.odata_text.specs.ByteClass.{class_of}
use Rattle.odata_text.specs.TokenModel.{TokenModel}
use Rattle.odata_text.specs.Spelling.{Spells}
use Rattle.odata_text.specs.declared.byte_class.ByteClass.TheVariants.{Space}
use Rattle.odata_text.specs.declared.token.TokenKind.{TokenKind}
use Rattle.odata_text.specs.declared.token.TokenKind.TheVariants.{Int, Open, Close, Comma, Slash, Colon}

-- a token's bytes, and the white space after them
pub record Print : Type 0 where
  pub kind : TokenKind
  pub text : List ℕ
  pub gap : List ℕ

-- the text of tokens with the white space after each
abbrev pub print_text : List Print → List ℕ
print_text prints = flat_map (λ p. p.text ++ p.gap) prints

-- space, tab and `( ) , / :`
abbrev pub is_separator : ℕ → Bool
is_separator b = (b == 32) || ((b == 9) || ((b == 40) || ((b == 41) || ((b == 44) || ((b == 47) || (b == 58))))))

-- the byte may stand directly after a token of the kind: any after a mark that is no `-`, a separator but `:` (58)
-- after an Int (`12:34` is a time), else a separator
abbrev pub may_follow : TokenKind → ℕ → Bool
may_follow Open b = true
may_follow Close b = true
may_follow Comma b = true
may_follow Slash b = true
may_follow Colon b = true
may_follow Int b = is_separator b && not (b == 58)
may_follow kind b = is_separator b

abbrev pub MayFollow : TokenKind → List ℕ → Type 0
MayFollow kind [] = ⊤
MayFollow kind (b ∷ more) = may_follow kind b ≡ true

-- each is spelled by its kind, has white space alone after it, and does not run into what follows
abbrev pub ArePrintable : List Print → Type 0
ArePrintable [] = ⊤
ArePrintable (p ∷ prints) =
    Spells p.kind p.text
    × (All (λ b. class_of b ≡ Space) p.gap × (MayFollow p.kind (p.gap ++ print_text prints) × ArePrintable prints))

-- the tokens at their offsets, from an offset on
abbrev pub print_tokens : ℕ → List Print → List TokenModel
print_tokens from [] = []
print_tokens from (p ∷ prints) =
    record { kind = p.kind; start = from; stop = from + length p.text; text = p.text }
    ∷ print_tokens (from + length p.text + length p.gap) prints
