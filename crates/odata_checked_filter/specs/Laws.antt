-- What follows from the definitions of a list of nodes alone, and an example that shows that they mean something.
use Rattle.std.specs.Prelude.{◌≡◌, ◌≢◌, ◌↔◌, ◌⊎◌, ◌<◌, ◌≤◌, ℕ, ◌+◌, pos, List, [], ◌∷◌, Contains, codes, length, map, nat_eq}
use Rattle.std.specs.Cmp.Lexicographic.{pointwise}
use Rattle.std.specs.List.{IsDistinct}
use Rattle.edm_values.specs.declared.primitive.PrimitiveType.{PrimitiveType}
use Rattle.edm_values.specs.declared.value.Value.{Value}
use Rattle.odata_syntax.specs.FirstRun.{active_and_id}
use Rattle.odata_syntax.specs.Tree.{Shape, Tree, node}
use Rattle.odata_syntax.specs.declared.binary_operator.BinaryOperator.{BinaryOperator}
use Rattle.odata_syntax.specs.declared.binary_operator.LogicalOperator.{LogicalOperator}
use Rattle.odata_syntax.specs.declared.binary_operator.ComparisonOperator.{ComparisonOperator}
use Rattle.odata_syntax.specs.declared.node.LiteralKind.{LiteralKind}
use Rattle.csdl_schema.specs.SchemaModel.{SchemaModel, slots_of, type_name_at}
use Rattle.odata_signatures.specs.TypeView.{expr_type}
use Rattle.odata_signatures.specs.declared.edm_type.EdmType.{EdmType}
use Rattle.odata_signatures.specs.declared.edm_type.ValueType.{ValueType}
use Rattle.odata_signatures.specs.Typed.{Scope, Typed}
use Rattle.odata_checked_filter.specs.declared.checked_node.CheckedNode.{CheckedNode}
use Rattle.odata_checked_filter.specs.declared.checked_node.NodeKind.{NodeKind}
use Rattle.csdl_schema.specs.ExprType.{ExprType}
use Rattle.odata_checked_filter.specs.Filter.{Filter, IsTypeAt}
use Rattle.odata_checked_filter.specs.NameKinds.{IsSlotAt}
use Rattle.odata_checked_filter.specs.FlatTree.{FlatTree, tree_of_nodes}
use Rattle.odata_checked_filter.specs.ListChanges.{IsKeptOutside, node_put}
use Rattle.odata_checked_filter.specs.PropertyPaths.{node_paths, path_text, property_paths}
use Rattle.odata_checked_filter.specs.Stands.{ChildrenStand, HasOwnValue, IsKindOf, Stands, text_of_shape}

-- a list of nodes stands for one tree at most, which is the tree of the list
abbrev pub OneTree : Type 0
OneTree =
    (schema : SchemaModel) (n : ℕ) (scope : Scope) (list : FlatTree) (stop : ℕ) (tree : Tree)
    → Stands schema n scope list 0 stop tree
    → tree_of_nodes list ≡ tree

-- a node of Edm.Boolean or another primitive type
abbrev pub listed : NodeKind → PrimitiveType → ℕ → ℕ → ℕ → CheckedNode
listed kind p start stop end =
    record {
      kind = kind;
      span = record { start = start; stop = stop };
      edm_type = EdmType.Single (ValueType.Prim p);
      stop = end;
    }

-- `Active and ID eq 1` as a list
abbrev pub item_list : FlatTree
item_list =
    record {
      nodes =
          listed (NodeKind.Binary (BinaryOperator.Logical LogicalOperator.And)) PrimitiveType.Bool 0 18 5
          ∷ listed (NodeKind.Property 0) PrimitiveType.Bool 0 6 2
          ∷ listed (NodeKind.Binary (BinaryOperator.Comparison ComparisonOperator.Eq)) PrimitiveType.Bool 11 18 5
          ∷ listed (NodeKind.Property 1) PrimitiveType.Int32 11 13 4
          ∷ listed (NodeKind.Literal LiteralKind.Int 0) PrimitiveType.Int32 17 18 5
          ∷ [];
      values = Value.Int (pos 1) ∷ [];
      texts = [] ∷ codes "Active" ∷ [] ∷ codes "ID" ∷ codes "1" ∷ [];
      source = codes "Active and ID eq 1";
    }

-- the list of `Active and ID eq 1` is read as its tree
abbrev pub ItemListStands : Type 0
ItemListStands = tree_of_nodes item_list ≡ active_and_id

-- what stands for a tree outside the indexes where a list has changed stands for it still
abbrev pub KeptStands : Type 0
KeptStands =
    (schema : SchemaModel) (n : ℕ) (scope : Scope) (old new : FlatTree) (i j from to : ℕ) (tree : Tree)
    → IsKeptOutside i j old new
    → (to ≤ i) ⊎ (j ≤ from)
    → Stands schema n scope old from to tree
    → Stands schema n scope new from to tree

-- where a node is put, the list changes at that index alone
abbrev pub PutChanges : Type 0
PutChanges =
    (list : FlatTree) (place : ℕ) (put : CheckedNode) (text : List ℕ)
    → IsKeptOutside place (place + 1) list (node_put list place put text)

-- a node that is put before what stands for its children stands there for its tree
abbrev pub PutStands : Type 0
PutStands =
    (schema : SchemaModel) (n : ℕ) (scope : Scope) (list : FlatTree) (place : ℕ) (put : CheckedNode) (shape : Shape)
    → place < length list.nodes
    → length list.texts ≡ length list.nodes
    → IsKindOf (slots_of schema) (type_name_at schema n) scope shape put.kind
    → HasOwnValue list.values (slots_of schema) shape put.kind
    → Typed (slots_of schema) (type_name_at schema n) scope (node put.span.start put.span.stop shape)
    (expr_type schema put.edm_type)
    → ChildrenStand schema n scope list (place + 1) put.stop shape
    → Stands schema n scope (node_put list place put (text_of_shape shape)) place put.stop
    (node put.span.start put.span.stop shape)

-- a number of a filter is that of a node of one type
abbrev pub OneTypeAt : Type 0
OneTypeAt = (filter : Filter) (k : ℕ) (a b : ExprType) → IsTypeAt filter k a → IsTypeAt filter k b → a ≡ b

-- and of one slot at most
abbrev pub OneSlotAt : Type 0
OneSlotAt = (filter : Filter) (k a b : ℕ) → IsSlotAt filter k a → IsSlotAt filter k b → a ≡ b

-- no property path of a tree stands twice among them
abbrev pub PathsOnce : Type 0
PathsOnce = (tree : Tree) → IsDistinct (pointwise nat_eq) (property_paths tree)

-- they are the paths of its nodes, but for the empty one
abbrev pub PathsOfNodes : Type 0
PathsOfNodes =
    (tree : Tree) (text : List ℕ)
    → Contains (property_paths tree) text ↔ ((text ≢ []) × Contains (map path_text (node_paths [] [] tree)) text)
