-- For private clauses: how the nodes of an expression lie in its text.
use Rattle.std.specs.Prelude.{◌≡◌, ◌<◌, ◌≤◌, List, ◌∷◌, ◌++◌, Contains}
use Rattle.odata_syntax.specs.Parse.{IsExpression}
use Rattle.odata_syntax.specs.Spans.{HoldsSpan, IsWithin, children_of}
use Rattle.odata_syntax.specs.Tree.{Tree, shape_of, start_of, stop_of}

-- a node takes a byte or more, its span holds those of its descendants, and its children lie in the order of the text
pub record SpanLaws : Type 0 where
  pub solid : (tree part : Tree) → IsExpression tree → IsWithin part tree → start_of part < stop_of part
  pub hold :
      (tree outer inner : Tree) → IsExpression tree → IsWithin outer tree → IsWithin inner outer
      → HoldsSpan outer inner
  pub in_order :
      (tree parent child other : Tree) (before after : List Tree) → IsExpression tree → IsWithin parent tree
      → children_of (shape_of parent) ≡ before ++ (child ∷ after)
      → Contains after other
      → stop_of child ≤ start_of other
