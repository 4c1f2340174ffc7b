-- The text that explains a filter, a line a node (OData URL Conventions 4.01, section 5.1.1).
use Rattle.std.specs.Prelude.{◌≡◌, ℕ, ◌*◌, List, [], ◌∷◌, ◌++◌, Option, Some, None, codes, decimal, length, replicate, slice_get}
use Rattle.std.specs.List.{flat_map}
use Rattle.odata_text.specs.declared.span.Span.{Span}
use Rattle.odata_syntax.specs.Lexeme.{operator_word, quantifier_word}
use Rattle.odata_syntax.specs.Tree.{Shape, any_item, binary, call, count, has, in_list, in_path, it, lambda, literal, logical_not, member, name, negation, shape_of}
use Rattle.csdl_schema.specs.SchemaModel.{SchemaModel}
use Rattle.odata_signatures.specs.TypeView.{expr_type}
use Rattle.odata_signatures.specs.declared.edm_type.EdmType.{EdmType}
use Rattle.odata_checked_filter.specs.Depths.{depths}
use Rattle.odata_checked_filter.specs.Filter.{Filter, IsTypeAt, tree_of_filter}
use Rattle.odata_checked_filter.specs.Levels.{level_named}
use Rattle.odata_signatures.specs.PreOrder.{pre_order, span_of_tree}
use Rattle.odata_checked_filter.specs.ScopedNodes.{ScopedNode, scoped_nodes}
use Rattle.odata_checked_filter.specs.TypeText.{type_text}

-- a name is that of a variable where it has a level, else that of a property
abbrev pub name_label : Option ℕ → List ℕ → List ℕ
name_label (Some level) asked = codes "variable " ++ asked
name_label None asked = codes "property " ++ asked

-- what a node is called where these variables are in scope
abbrev pub node_label : List (List ℕ) → Shape → List ℕ
node_label variables (literal kind spelling) = codes "literal"
node_label variables it = codes "$it"
node_label variables (name asked) = name_label (level_named variables asked) asked
node_label variables (member base asked) = codes "member " ++ asked
node_label variables (count base) = codes "$count"
node_label variables (negation operand) = codes "-"
node_label variables (logical_not operand) = codes "not"
node_label variables (binary operator left right) = operator_word operator
node_label variables (has left right) = codes "has"
node_label variables (in_list left items) = codes "in"
node_label variables (in_path left path) = codes "in"
node_label variables (call asked arguments) = asked
node_label variables (any_item base) = codes "any"
node_label variables (lambda quantifier base variable body) = quantifier_word quantifier ++ 32 ∷ variable

-- where a node stands in the text of the filter
abbrev pub span_text : Span → List ℕ
span_text span = decimal span.start ++ (codes ".." ++ decimal span.stop)

-- the line of a node: two spaces (32) for each node around it, its span, what it is called and its type, with a space
-- between each two
abbrev pub node_line : SchemaModel → ℕ → ScopedNode → EdmType → List ℕ
node_line schema depth at type =
    replicate (2 * depth) 32
    ++ (span_text (span_of_tree at.part)
    ++ (32 ∷ (node_label at.variables (shape_of at.part) ++ (32 ∷ type_text schema type))))

-- the line of the filter's k-th node, which has the type
pub record IsNodeLine (filter : Filter) (k : ℕ) (line : List ℕ) : Type 0 where
  pub at : ScopedNode
  pub depth : ℕ
  pub type_of : EdmType
  pub numbered : slice_get (scoped_nodes [] (tree_of_filter filter)) k ≡ Some at
  pub deep : slice_get (depths 0 (tree_of_filter filter)) k ≡ Some depth
  pub typed : IsTypeAt filter k (expr_type filter.schema type_of)
  pub spelled : line ≡ node_line filter.schema depth at type_of

-- each node has its line, which ends with LF (10)
pub record IsExplanation (filter : Filter) (text : List ℕ) : Type 0 where
  pub lines : List (List ℕ)
  pub as_many : length lines ≡ length (pre_order (tree_of_filter filter))
  pub each : (k : ℕ) (line : List ℕ) → slice_get lines k ≡ Some line → IsNodeLine filter k line
  pub whole : text ≡ flat_map (λ line. line ++ 10 ∷ []) lines
