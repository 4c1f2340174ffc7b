-- Trees of boxes that grow with a list. For private clauses.
use Rattle.std.specs.Prelude.{ℕ, List, [], ◌∷◌, Option, None, Some, map, reverse, slice_get, string_bytes}
use Rattle.std.specs.Str.{str_to_ascii_lowercase}
use Rattle.odata_text.specs.declared.span.Span.{Span}
use Rattle.odata_text.specs.declared.token.Token.{Token}
use Rattle.odata_syntax.specs.declared.parser.expr_of_list.Forest.{Forest}
use Rattle.odata_syntax.specs.declared.parser.expr_of_list.OverOne.{OverOne}
use Rattle.odata_syntax.specs.declared.parser.expr_of_list.OverOne.TheVariants as over_one
use Rattle.odata_syntax.specs.declared.parser.expr_of_list.OverTwo.{OverTwo}
use Rattle.odata_syntax.specs.declared.parser.expr_of_list.OverTwo.TheVariants as over_two
use Rattle.odata_syntax.specs.declared.syntax_list.SyntaxKind.{SyntaxKind}
use Rattle.odata_syntax.specs.PostOrder.{Texts, last_trees, shape_over, trees_left}
use Rattle.odata_syntax.specs.Tree.{Shape, Tree, call, node, trees_of_list}
use Rattle.odata_syntax.specs.TreeView.{tree_of}

-- the text of a token, or none
abbrev pub text_of_token : Option Token → List ℕ
text_of_token None = []
text_of_token (Some token) = token.text.now

-- the texts of tokens, each at its number
abbrev pub token_texts : List Token → Texts
token_texts tokens at = text_of_token (slice_get tokens at.start)

-- the trees of a forest, the last one first
abbrev pub forest_trees : Forest → List Tree
forest_trees forest = reverse (map tree_of forest.trees.items)

-- what a tree keeps of the text that the caller finds for a node: a call's in lower case, and nothing of a word
abbrev pub kept_text : SyntaxKind → List ℕ → List ℕ
kept_text (SyntaxKind.Lit kind) text = text
kept_text SyntaxKind.Name text = text
kept_text SyntaxKind.Member text = text
kept_text (SyntaxKind.Lambda quantifier) text = text
kept_text SyntaxKind.Call text = str_to_ascii_lowercase text
kept_text _ text = []

-- what a node is that keeps this text
abbrev pub shape_kept : SyntaxKind → List ℕ → ℕ → List Tree → Shape
shape_kept SyntaxKind.Call text items trees = call text (trees_of_list (last_trees items trees))
shape_kept kind text items trees = shape_over kind text items trees

-- the trees with one more node that keeps this text
abbrev pub trees_grown : SyntaxKind → Span → ℕ → List ℕ → List Tree → List Tree
trees_grown kind span items text trees =
    node span.start span.stop (shape_kept kind text items trees) ∷ trees_left kind items trees

-- the kind of a node over one tree or two, and the text that it keeps
abbrev pub kind_over_one : OverOne → SyntaxKind
kind_over_one (over_one.Member name) = SyntaxKind.Member
kind_over_one over_one.Count = SyntaxKind.Count
kind_over_one over_one.Neg = SyntaxKind.Neg
kind_over_one over_one.Not = SyntaxKind.Not
kind_over_one over_one.AnyItem = SyntaxKind.AnyItem

abbrev pub text_over_one : OverOne → List ℕ
text_over_one (over_one.Member name) = string_bytes name
text_over_one _ = []

abbrev pub kind_over_two : OverTwo → SyntaxKind
kind_over_two (over_two.Binary operator) = SyntaxKind.Binary operator
kind_over_two over_two.Has = SyntaxKind.Has
kind_over_two over_two.InPath = SyntaxKind.InPath
kind_over_two (over_two.Lambda quantifier variable) = SyntaxKind.Lambda quantifier

abbrev pub text_over_two : OverTwo → List ℕ
text_over_two (over_two.Lambda quantifier variable) = string_bytes variable
text_over_two _ = []
