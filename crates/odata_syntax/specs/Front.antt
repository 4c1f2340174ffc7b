-- Tokens that an expression may begin with.
use Rattle.std.specs.Prelude.{ℕ, ◌+◌, ◌≤◌, List, ◌++◌, take, Bool, true, false, count_by}
use Rattle.odata_text.specs.declared.token.TokenKind.{TokenKind}
use Rattle.odata_text.specs.TokenModel.{TokenModel}
use Rattle.odata_syntax.specs.Tree.{Tree}
use Rattle.odata_syntax.specs.Grammar.{or_level, Derives}

-- `(` and `)`
abbrev pub opens : TokenKind → Bool
opens TokenKind.Open = true
opens _ = false

abbrev pub closes : TokenKind → Bool
closes TokenKind.Close = true
closes _ = false

-- how many tokens open a parenthesis
abbrev pub open_count : List TokenModel → ℕ
open_count = count_by (λ p. opens p.kind)

-- how many tokens close one
abbrev pub close_count : List TokenModel → ℕ
close_count = count_by (λ p. closes p.kind)

-- no more parentheses are open at once
abbrev pub depth_limit : ℕ
depth_limit = 64

-- no beginning has more `(` without their `)` than may be open
pub record IsShallow (ts : List TokenModel) : Type 0 where
  pub within : (n : ℕ) → open_count (take n ts) ≤ close_count (take n ts) + depth_limit

-- some continuation is an expression, however deep
pub record IsWideFront (ts : List TokenModel) : Type 0 where
  pub more : List TokenModel
  pub tree : Tree
  pub derived : Derives or_level (ts ++ more) tree

-- some continuation is an expression, and nowhere too deep
pub record IsFront (ts : List TokenModel) : Type 0 where
  pub more : List TokenModel
  pub tree : Tree
  pub derived : Derives or_level (ts ++ more) tree
  pub shallow : IsShallow (ts ++ more)
