-- For private clauses: trees that stand one after another in a list, and how deep lambda operators stand in them.
use Rattle.std.specs.Prelude.{◌≡◌, ℕ, max, List, [], ◌∷◌, Bool, true, false}
use Rattle.odata_syntax.specs.Tree.{Tree}
use Rattle.csdl_schema.specs.SchemaModel.{SchemaModel}
use Rattle.odata_signatures.specs.Typed.{Scope}
use Rattle.odata_checked_filter.specs.declared.checked_node.NodeKind.{NodeKind}
use Rattle.odata_checked_filter.specs.FlatTree.{FlatTree}
use Rattle.odata_checked_filter.specs.LambdaDepth.{lambda_depth}
use Rattle.odata_checked_filter.specs.private.Layout.{Lies}
use Rattle.odata_checked_filter.specs.Stands.{SideBySide}

-- the nodes from the i-th up to the j-th stand for the tree, in some schema and scope
pub record StandsBetween (list : FlatTree) (i j : ℕ) (tree : Tree) : Type 0 where
  pub schema : SchemaModel
  pub filtered : ℕ
  pub scope : Scope
  pub stands : Lies schema filtered scope list i j tree

-- they stand for these trees, one after another
abbrev pub AreInLine : FlatTree → ℕ → ℕ → List Tree → Type 0
AreInLine list i j [] = i ≡ j
AreInLine list i j (tree ∷ trees) =
    SideBySide (λ middle. StandsBetween list i middle tree) (λ middle. AreInLine list middle j trees)

-- they stand for some trees
abbrev pub IsLine : FlatTree → ℕ → ℕ → Type 0
IsLine list i j = (trees : List Tree) × AreInLine list i j trees

-- the greatest number of lambda operators that stand in one another in one of the trees
abbrev pub deepest_of : List Tree → ℕ
deepest_of [] = 0
deepest_of (tree ∷ trees) = max (lambda_depth tree) (deepest_of trees)

-- the kind of a lambda operator with a body
abbrev pub kind_is_lambda : NodeKind → Bool
kind_is_lambda (NodeKind.Lambda quantifier) = true
kind_is_lambda _ = false
