-- A checked filter.
use Rattle.std.specs.Prelude.{◌≡◌, ◌↔◌, ℕ, ◌≤◌, List, [], length, true}
use Rattle.odata_text.specs.Tokens.{token_limit}
use Rattle.odata_syntax.specs.Tree.{Tree}
use Rattle.csdl_schema.specs.ExpansionView.{StepModel, paths_in}
use Rattle.csdl_schema.specs.ExprType.{ExprType}
use Rattle.csdl_schema.specs.PathSet.{PropertyPath}
use Rattle.csdl_schema.specs.SchemaModel.{SchemaModel, Slots, HoldsType, expanded, slots_of, type_name_at}
use Rattle.odata_signatures.specs.ExprTypes.{IsBooleanOrNull}
use Rattle.odata_checked_filter.specs.FlatTree.{FlatTree, tree_of_nodes}
use Rattle.odata_signatures.specs.PreOrder.{pre_order}
use Rattle.odata_checked_filter.specs.NodeScopes.{IsNode}
use Rattle.odata_checked_filter.specs.Stands.{Stands}
use Rattle.odata_checked_filter.specs.StoredParts.{StoredParts}
use Rattle.odata_signatures.specs.NeededPaths.{IsNeeded}
use Rattle.odata_signatures.specs.Typed.{Scope, Typed}

-- a filter of the n-th type of a schema, by the list of its nodes, with what it needs of navigation
pub record Filter : Type 0 where
  pub schema : SchemaModel
  pub filtered : ℕ
  pub list : FlatTree
  pub expansion : List StepModel

-- a filter of these parts
abbrev pub filter_of : SchemaModel → ℕ → FlatTree → List StepModel → Filter
filter_of schema filtered list expansion =
    record { schema = schema; filtered = filtered; list = list; expansion = expansion }

-- what is stored of a filter apart from its schema, with that schema
abbrev pub filter_in : SchemaModel → StoredParts → Filter
filter_in schema parts =
    record { schema = schema; filtered = parts.filtered; list = parts.list; expansion = parts.expansion }

-- the types of a filter's schema, where what it needs is expanded
abbrev pub slots_for_filter : Filter → Slots
slots_for_filter filter = expanded (slots_of filter.schema) (paths_in filter.expansion)

-- the tree that a filter's list stands for
abbrev pub tree_of_filter : Filter → Tree
tree_of_filter filter = tree_of_nodes filter.list

-- the set has the paths that the list's tree needs, and no others
abbrev pub HasNeededPaths : SchemaModel → ℕ → FlatTree → List StepModel → Type 0
HasNeededPaths schema n list expansion =
    (path : PropertyPath) → (paths_in expansion path ≡ true)
    ↔ IsNeeded (slots_of schema) (type_name_at schema n) [] [] (tree_of_nodes list) path

-- the schema has the type; the whole list stands for its tree, which has type Boolean or Null; a tree has no more nodes
-- than tokens; its expansion has the paths that the tree needs, and no others
pub record IsFilter (filter : Filter) : Type 0 where
  pub held : HoldsType filter.schema filter.filtered
  pub stands :
      Stands filter.schema filter.filtered [] filter.list 0 (length filter.list.nodes) (tree_of_nodes filter.list)
  pub type_of : ExprType
  pub typed :
      Typed (slots_of filter.schema) (type_name_at filter.schema filter.filtered) [] (tree_of_nodes filter.list) type_of
  pub truth : IsBooleanOrNull type_of
  pub few : length (pre_order (tree_of_nodes filter.list)) ≤ token_limit
  pub expands : HasNeededPaths filter.schema filter.filtered filter.list filter.expansion

-- the filter's k-th node, in the scope that it is judged in, has the type
pub record IsTypeAt (filter : Filter) (k : ℕ) (type : ExprType) : Type 0 where
  pub at : Scope
  pub part : Tree
  pub numbered :
      IsNode (slots_of filter.schema) (type_name_at filter.schema filter.filtered) [] (tree_of_filter filter) k at part
  pub typed : Typed (slots_of filter.schema) (type_name_at filter.schema filter.filtered) at part type
