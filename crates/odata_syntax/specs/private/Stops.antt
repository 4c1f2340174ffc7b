-- Where the machine stops before the last token. For private clauses.
use Rattle.std.specs.Prelude.{◌≡◌, ◌+◌, List, ◌∷◌, ◌++◌, true, None, Some}
use Rattle.odata_text.specs.declared.span.Span.{Span}
use Rattle.odata_text.specs.TokenModel.{TokenModel}
use Rattle.odata_syntax.specs.declared.syntax_fault.SyntaxFault.{SyntaxFault}
use Rattle.odata_syntax.specs.Front.{IsShallow, close_count, depth_limit, open_count, opens}
use Rattle.odata_syntax.specs.Parse.{IsSpanOf}
use Rattle.odata_syntax.specs.private.Machine.{Machine, run, start, step}

-- the machine takes the tokens before this one, nowhere too deep
pub record IsReached (ts : List TokenModel) (span : Span) : Type 0 where
  pub before : List TokenModel
  pub token : TokenModel
  pub behind : List TokenModel
  pub split : ts ≡ before ++ (token ∷ behind)
  pub reached : Machine
  pub takes : run before start ≡ Some reached
  pub shallow : IsShallow before
  pub spanned : IsSpanOf token span

-- and does not take it
pub record IsStuck (ts : List TokenModel) (span : Span) : Type 0 where
  pub at : IsReached ts span
  pub stuck : step at.reached at.token ≡ None

-- and takes it, a `(` more than may be open
pub record IsOverfull (ts : List TokenModel) (span : Span) : Type 0 where
  pub at : IsReached ts span
  pub next : Machine
  pub taken : step at.reached at.token ≡ Some next
  pub opening : opens at.token.kind ≡ true
  pub full : open_count at.before ≡ close_count at.before + depth_limit

abbrev pub RefusesOneOf : List TokenModel → SyntaxFault → Type 0
RefusesOneOf ts (SyntaxFault.Unexpected span) = IsStuck ts span
RefusesOneOf ts (SyntaxFault.TooDeep span) = IsOverfull ts span
RefusesOneOf ts SyntaxFault.Memory = Unit {0}
