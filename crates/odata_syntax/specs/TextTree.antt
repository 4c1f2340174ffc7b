-- The tree of a filter's text, and the first fault of a text that has none (OData URL Conventions 4.01, section 5.1.1).
use Rattle.std.specs.Prelude.{◌≡◌, ◌≢◌, ℕ, ◌≤◌, List, IsCharBoundary, Some, length, slice_get, slice_range}
use Rattle.odata_text.specs.declared.span.Span.{Span}
use Rattle.odata_text.specs.TokenModel.{TokenModel}
use Rattle.odata_text.specs.Tokens.{IsTextFault, IsTokenList}
use Rattle.odata_syntax.specs.declared.parser.text_parser.TextOrSyntaxFault.{TextOrSyntaxFault}
use Rattle.odata_syntax.specs.declared.syntax_fault.SyntaxFault.{SyntaxFault}
use Rattle.odata_syntax.specs.declared.syntax_list.SyntaxKind.{SyntaxKind}
use Rattle.odata_syntax.specs.declared.syntax_list.SyntaxNode.{SyntaxNode}
use Rattle.odata_syntax.specs.Parse.{IsParse, IsSyntaxFault}
use Rattle.odata_syntax.specs.PostOrder.{Texts, last_tree, trees_in}
use Rattle.odata_syntax.specs.Tree.{Tree}

-- the text has tokens, and these are the tree
pub record HasTree (text : List ℕ) (tree : Tree) : Type 0 where
  pub models : List TokenModel
  pub tokens : IsTokenList text models
  pub parse : IsParse models tree

-- no tokens of the text are a tree
abbrev pub HasNoTree : List ℕ → Type 0
HasNoTree text = (tree : Tree) → ¬ HasTree text tree

-- the text has tokens, and these have the fault
pub record HasSyntaxFault (text : List ℕ) (fault : SyntaxFault) : Type 0 where
  pub models : List TokenModel
  pub tokens : IsTokenList text models
  pub fault_of : IsSyntaxFault models (length text) fault

-- the first fault of a text: that of its tokens, or else that of its tree; running out of memory says nothing
abbrev pub IsFirstFault : List ℕ → TextOrSyntaxFault → Type 0
IsFirstFault text (TextOrSyntaxFault.Text fault) = IsTextFault text fault
IsFirstFault text (TextOrSyntaxFault.Syntax fault) = fault ≢ SyntaxFault.Memory → HasSyntaxFault text fault

-- the bytes of a text in a range
abbrev pub text_in : List ℕ → Texts
text_in text range = slice_range text range.start range.stop

-- the tree of a list of nodes that name ranges of a text
abbrev pub listed_tree : List ℕ → List SyntaxNode → Tree
listed_tree text nodes = last_tree (trees_in (text_in text) nodes)

-- the range begins and ends between two characters of the text
pub record IsTextRange (text : List ℕ) (range : Span) : Type 0 where
  pub order : range.start ≤ range.stop
  pub begins : IsCharBoundary text range.start
  pub ends : IsCharBoundary text range.stop

-- a node of this kind has a text: a spelling or a name
abbrev pub HasText : SyntaxKind → Type 0
HasText (SyntaxKind.Lit kind) = Unit {0}
HasText SyntaxKind.Name = Unit {0}
HasText SyntaxKind.Member = Unit {0}
HasText SyntaxKind.Call = Unit {0}
HasText (SyntaxKind.Lambda quantifier) = Unit {0}
HasText _ = ⊥

-- each node that has a text names a range of this one
abbrev pub AreTextRanges : List ℕ → List SyntaxNode → Type 0
AreTextRanges text nodes =
    (i : ℕ) (n : SyntaxNode) → slice_get nodes i ≡ Some n → HasText n.kind → IsTextRange text n.text
