-- What the tokens of a text stand for, and why some stand for nothing.
use Rattle.std.specs.Prelude.{◌≡◌, ◌⊎◌, ℕ, List, [], ◌∷◌, ◌++◌}
use Rattle.odata_text.specs.declared.span.Span.{Span}
use Rattle.odata_syntax.specs.declared.syntax_fault.SyntaxFault.{SyntaxFault}
use Rattle.odata_text.specs.TokenModel.{TokenModel}
use Rattle.odata_syntax.specs.Tree.{Tree}
use Rattle.odata_syntax.specs.Grammar.{or_level, Derives}
use Rattle.odata_text.specs.TokenSequence.{AreTextTokens}
use Rattle.odata_syntax.specs.Front.{IsShallow, IsFront, IsWideFront}

-- the tree of a whole expression, nowhere too deep
pub record IsParse (ts : List TokenModel) (tree : Tree) : Type 0 where
  pub derived : Derives or_level ts tree
  pub shallow : IsShallow ts

-- no tree is derived within that depth
abbrev pub HasNoParse : List TokenModel → Type 0
HasNoParse ts = (tree : Tree) → ¬ IsParse ts tree

-- the span is that of the token
pub record IsSpanOf (p : TokenModel) (span : Span) : Type 0 where
  pub start_is : span.start ≡ p.start
  pub stop_is : span.stop ≡ p.stop

-- the first token with which the tokens so far are no front, and that at no depth
pub record IsFirstWrong (ts : List TokenModel) (span : Span) : Type 0 where
  pub before : List TokenModel
  pub token : TokenModel
  pub behind : List TokenModel
  pub split : ts ≡ before ++ (token ∷ behind)
  pub front : IsFront before
  pub wrong : ¬ IsWideFront (before ++ (token ∷ []))
  pub spanned : IsSpanOf token span

-- the first token with which the tokens so far are no front, for their depth alone
pub record IsFirstDeep (ts : List TokenModel) (span : Span) : Type 0 where
  pub before : List TokenModel
  pub token : TokenModel
  pub behind : List TokenModel
  pub split : ts ≡ before ++ (token ∷ behind)
  pub front : IsFront before
  pub wide : IsWideFront (before ++ (token ∷ []))
  pub deep : ¬ IsFront (before ++ (token ∷ []))
  pub spanned : IsSpanOf token span

-- all tokens are a front and no tree: the empty span at the end of a text of this length
pub record IsUnended (ts : List TokenModel) (len : ℕ) (span : Span) : Type 0 where
  pub front : IsFront ts
  pub none : HasNoParse ts
  pub starts : span.start ≡ len
  pub stops : span.stop ≡ len

-- the first fault of the tokens of a text of this length
abbrev pub IsSyntaxFault : List TokenModel → ℕ → SyntaxFault → Type 0
IsSyntaxFault ts len (SyntaxFault.Unexpected span) = IsFirstWrong ts span ⊎ IsUnended ts len span
IsSyntaxFault ts len (SyntaxFault.TooDeep span) = IsFirstDeep ts span
IsSyntaxFault ts len SyntaxFault.Memory = ⊥

-- the tree of tokens that are spelled by their kinds, one after another
pub record IsExpression (tree : Tree) : Type 0 where
  pub tokens : List TokenModel
  pub length : ℕ
  pub of_text : AreTextTokens 0 length tokens
  pub parsed : IsParse tokens tree
