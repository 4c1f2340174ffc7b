-- When a part of a list of nodes stands for a tree, with the right types, values and slots.
use Rattle.std.specs.Prelude.{ℕ}
use Rattle.odata_syntax.specs.Tree.{Trees}
use Rattle.csdl_schema.specs.ExprType.{ExprType}
use Rattle.csdl_schema.specs.SchemaModel.{SchemaModel}
use Rattle.odata_checked_filter.specs.FlatTree.{FlatTree}
use Rattle.odata_signatures.specs.Typed.{Scope}
use Rattle.odata_checked_filter.specs.Stands.{InLine, item_parts, tree_parts}

-- likewise for trees
abbrev pub AllStand : SchemaModel → ℕ → Scope → FlatTree → ℕ → ℕ → Trees → Type 0
AllStand schema n scope list i j trees = InLine (tree_parts schema n scope list trees) i j

-- likewise for items
abbrev pub ItemsStand : SchemaModel → ℕ → Scope → FlatTree → (ExprType → Type 0) → ℕ → ℕ → Trees → Type 0
ItemsStand schema n scope list OtherSide i j items = InLine (item_parts schema n scope list OtherSide items) i j
