-- What a list of nodes stores of their texts.
use Rattle.std.specs.Prelude.{◌≡◌, ℕ, List, length}
use Rattle.std.specs.List.{AllByRecursion}
use Rattle.odata_text.specs.declared.span.Span.{Span}
use Rattle.odata_syntax.specs.TextTree.{IsTextRange}
use Rattle.odata_checked_filter.specs.declared.checked_node.CheckedNode.{CheckedNode}

-- a range for each node, between two characters of the source
pub record AreRanges (nodes : List CheckedNode) (ranges : List Span) (source : List ℕ) : Type 0 where
  pub beside : length nodes ≡ length ranges
  pub inside : AllByRecursion (IsTextRange source) ranges
