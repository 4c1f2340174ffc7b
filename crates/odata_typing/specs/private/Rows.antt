-- For private clauses: nodes of a list one after another, each from where the one before it stops.
use Rattle.std.specs.Prelude.{◌≡◌, ◌<◌, ℕ, List, [], ◌∷◌, Option, Some, None, slice_get}
use Rattle.odata_syntax.specs.declared.node.LiteralKind.{LiteralKind}
use Rattle.csdl_schema.specs.SchemaModel.{SchemaModel}
use Rattle.odata_signatures.specs.Side.{Side, quoting}
use Rattle.odata_signatures.specs.TypeThere.{IsTypeThere}
use Rattle.odata_signatures.specs.TypeView.{expr_type}
use Rattle.odata_checked_filter.specs.declared.checked_node.CheckedNode.{CheckedNode}
use Rattle.odata_checked_filter.specs.declared.checked_node.NodeKind.{NodeKind}
use Rattle.odata_checked_filter.specs.FlatTree.{FlatTree}

-- they stand so from one index up to another
abbrev pub AreInRow : List CheckedNode → List CheckedNode → ℕ → ℕ → Type 0
AreInRow nodes [] i j = i ≡ j
AreInRow nodes (found ∷ row) i j =
    (slice_get nodes i ≡ Some found) × (i < found.stop) × AreInRow nodes row found.stop j

-- the schema has the enumerations that their types are of
abbrev pub AreTypesThere : SchemaModel → List CheckedNode → Type 0
AreTypesThere schema [] = Unit {0}
AreTypesThere schema (found ∷ row) = IsTypeThere schema found.edm_type × AreTypesThere schema row

-- the text of the node of a String literal; no other node quotes a text
abbrev pub quoted_beside : NodeKind → Option (List ℕ) → Option (List ℕ)
quoted_beside (NodeKind.Literal LiteralKind.Str place) text = text
quoted_beside kind text = None

-- what the node at an index quotes
abbrev pub quoted_in : FlatTree → ℕ → CheckedNode → Option (List ℕ)
quoted_in list place found = quoted_beside found.kind (slice_get list.texts place)

-- nodes from an index on as sides
abbrev pub row_sides : SchemaModel → FlatTree → ℕ → List CheckedNode → List Side
row_sides schema list place [] = []
row_sides schema list place (found ∷ row) =
    quoting (quoted_in list place found) (expr_type schema found.edm_type) ∷ row_sides schema list found.stop row
