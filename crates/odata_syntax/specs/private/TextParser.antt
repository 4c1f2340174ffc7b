-- The machine over the tokens of a text. For private clauses.
use Rattle.std.specs.Prelude.{◌≡◌, ◌≢◌, ℕ, List, ◌++◌, Some}
use Rattle.odata_text.specs.TokenModel.{TokenModel}
use Rattle.odata_text.specs.Tokens.{IsTextFault, IsTokenList}
use Rattle.odata_text.specs.declared.span.Span.{Span}
use Rattle.odata_syntax.specs.declared.parser.state.State.{State}
use Rattle.odata_syntax.specs.declared.parser.text_parser.TextOrSyntaxFault.{TextOrSyntaxFault}
use Rattle.odata_syntax.specs.declared.syntax_fault.SyntaxFault.{SyntaxFault}
use Rattle.odata_syntax.specs.Front.{IsShallow}
use Rattle.odata_syntax.specs.PostOrder.{Texts}
use Rattle.odata_syntax.specs.TextTree.{IsTextRange, text_in}
use Rattle.odata_syntax.specs.private.Machine.{run, start}
use Rattle.odata_syntax.specs.private.MachineView.{machine_of}
use Rattle.odata_syntax.specs.private.Stops.{RefusesOneOf}

-- texts of nodes that are right for each range between two characters, and anything for other ranges
abbrev pub AreRangeTexts : List ℕ → Texts → Type 0
AreRangeTexts text texts = (range : Span) → IsTextRange text range → texts range ≡ text_in text range

-- the machine takes these tokens, nowhere too deep, and is then in this state
pub record IsRun (text : List ℕ) (list : List TokenModel) (state : State) : Type 0 where
  pub taken : (texts : Texts) → AreRangeTexts text texts → run list start ≡ Some (machine_of texts state)
  pub shallow : IsShallow list

-- so with all tokens of the text
pub record TakesText (text : List ℕ) (state : State) : Type 0 where
  pub list : List TokenModel
  pub tokens : IsTokenList text list
  pub run : IsRun text list state

-- the text has tokens, and the machine does not take one of them
pub record RefusesText (text : List ℕ) (fault : SyntaxFault) : Type 0 where
  pub list : List TokenModel
  pub tokens : IsTokenList text list
  pub refused : RefusesOneOf list fault

-- why the tokens of a text are not all taken
abbrev pub StopsText : List ℕ → TextOrSyntaxFault → Type 0
StopsText text (TextOrSyntaxFault.Text fault) = IsTextFault text fault
StopsText text (TextOrSyntaxFault.Syntax fault) = fault ≢ SyntaxFault.Memory → RefusesText text fault

-- the text has tokens, these first
pub record BeginTokens (text : List ℕ) (list : List TokenModel) : Type 0 where
  pub later : List TokenModel
  pub tokens : IsTokenList text (list ++ later)

-- the first fault of a text that begins with these tokens, if its tree has this fault at the last of them
abbrev pub IsFirstAfter : List ℕ → List TokenModel → SyntaxFault → TextOrSyntaxFault → Type 0
IsFirstAfter text list fault (TextOrSyntaxFault.Text found) = IsTextFault text found
IsFirstAfter text list fault (TextOrSyntaxFault.Syntax found) = (found ≡ fault) × BeginTokens text list
