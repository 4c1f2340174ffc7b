-- Why a filter has no conditions in a dialect.
use Rattle.std.specs.Prelude.{◌≡◌, ◌<◌, ◌≤◌, ◌+◌, ◌⊎◌, ℕ, List, [], ◌∷◌, Bool, true, false, IfSome, Option, Some, None, length, option_and_then, slice_get, string_bytes}
use Rattle.std.specs.List.{AllByRecursion}
use Rattle.edm_values.specs.MomentParts.{MomentParts}
use Rattle.edm_values.specs.declared.value.Value.{Value}
use Rattle.csdl_schema.specs.SchemaModel.{properties_at}
use Rattle.odata_checked_filter.specs.Filter.{Filter, IsFilter, tree_of_filter}
use Rattle.odata_checked_filter.specs.declared.checked_node.CheckedNode.{CheckedNode}
use Rattle.odata_checked_filter.specs.declared.checked_node.NodeKind.{NodeKind}
use Rattle.odata_filter_operations.specs.Outcome.{Outcome}
use Rattle.odata_signatures.specs.PreOrder.{pre_order}
use Rattle.sql_meaning.specs.ParameterGives.{HoldsNul}
use Rattle.sql_tree.specs.ParserDepth.{symbols_of}
use Rattle.sql_tree.specs.TableModel.{StorageModel, in_columns, in_document}
use Rattle.sql_tree.specs.Term.{Term}
use Rattle.sql_tree.specs.declared.dialect.Dialect.{Dialect}
use Rattle.sql_tree.specs.declared.parameter.Parameter.{Parameter}
use Rattle.sql_tree.specs.declared.json_path.Path.{Path}
use Rattle.odata_sql.specs.Nesting.{ExceedsLevels}
use Rattle.odata_sql.specs.Conditions.{FaultsIt, IsItsCode, KeepsIt, SaysOfEach}

-- ---- `Nul`

-- no text with a character U+0000
abbrev pub HasNoNul : Value → Type 0
HasNoNul (Value.Text text) = ¬ HoldsNul (string_bytes text)
HasNoNul value = Unit {0}

-- the names of a table's columns
abbrev pub names_of : StorageModel → List (List ℕ)
names_of (in_columns names) = names
names_of (in_document name) = name ∷ []

-- neither a literal of the filter nor the name of a column has a character U+0000
abbrev pub IsNulFree : Filter → StorageModel → Type 0
IsNulFree filter storage =
    AllByRecursion HasNoNul filter.list.values × AllByRecursion (λ name. ¬ HoldsNul name) (names_of storage)

-- ---- `NoColumn`

abbrev pub is_it : NodeKind → Bool
is_it NodeKind.It = true
is_it kind = false

abbrev pub is_it_there : Option CheckedNode → Bool
is_it_there None = false
is_it_there (Some node) = is_it node.kind

-- whether the node at an index is `$it`
abbrev pub it_at : List CheckedNode → ℕ → Bool
it_at nodes place = is_it_there (slice_get nodes place)

-- the slot of the row's own type that a node names: by a property's name, or by a step from `$it`, which comes after it
abbrev pub own_slot : NodeKind → Bool → Option ℕ
own_slot (NodeKind.Property slot) before_it = Some slot
own_slot (NodeKind.Member slot) true = Some slot
own_slot kind before_it = None

abbrev pub own_slot_at : List CheckedNode → ℕ → Option ℕ
own_slot_at nodes place = option_and_then (λ node. own_slot node.kind (it_at nodes (place + 1))) (slice_get nodes place)

-- each slot of the row that the nodes name is below a number
abbrev pub AreBelow : ℕ → List CheckedNode → Type 0
AreBelow count nodes = (place : ℕ) → IfSome (own_slot_at nodes place) (λ slot. slot < count)

-- each has a column, or the row is stored as JSON
abbrev pub HasColumns : List CheckedNode → StorageModel → Type 0
HasColumns nodes (in_columns names) = AreBelow (length names) nodes
HasColumns nodes (in_document name) = Unit {0}

-- a table with a column for each property of the row has what a filter names
abbrev pub ColumnsSuffice : Type 0
ColumnsSuffice =
    (filter : Filter) (columns : List (List ℕ)) → IsFilter filter
    → length columns ≡ length (properties_at filter.schema filter.filtered)
    → HasColumns filter.list.nodes (in_columns columns)

-- ---- `TooDeep`

-- a tree that says so of each row, of which this holds
pub record TreeWith
    (filter : Filter) (now : MomentParts) (Holds : Outcome → Outcome → Type 0) (Is : List Path → Term → Type 0) : Type 0 where
  pub t : Term
  pub paths : List Path
  pub parameters : List Parameter
  pub says : SaysOfEach filter now paths parameters t Holds
  pub is : Is paths t

-- of the outcome, of what is kept or of a fault
abbrev pub SomeTreeWith : Filter → MomentParts → (List Path → Term → Type 0) → Type 0
SomeTreeWith filter now Is =
    TreeWith filter now IsItsCode Is ⊎ (TreeWith filter now KeepsIt Is ⊎ TreeWith filter now FaultsIt Is)

-- how many symbols of the engine's parser an expression may take
abbrev pub most_symbols : Dialect → ℕ
most_symbols Dialect.PostgreSql = 8_000
most_symbols Dialect.Sqlite = 88

-- the text of a tree takes more
abbrev pub NestsTooDeeply : Dialect → List Path → Term → Type 0
NestsTooDeeply dialect paths t = most_symbols dialect < symbols_of t

-- how many nodes a filter has at least that is too deep: a comparison of a member of JSON with six minus signs before it
-- has 9, and 89 symbols
abbrev pub fewest_nodes : Dialect → ℕ
fewest_nodes Dialect.PostgreSql = 700
fewest_nodes Dialect.Sqlite = 9

-- the filter is not small, and such a tree nests too deeply
abbrev pub IsTooDeepForParser : Filter → MomentParts → Dialect → Type 0
IsTooDeepForParser filter now dialect =
    (fewest_nodes dialect ≤ length (pre_order (tree_of_filter filter)))
    × SomeTreeWith filter now (NestsTooDeeply dialect)

-- some node stands in too many levels of the filter, whatever the engine; or the engine's parser would not get through
abbrev pub IsTooDeep : Filter → MomentParts → Dialect → Type 0
IsTooDeep filter now dialect = ExceedsLevels filter.list.nodes ⊎ IsTooDeepForParser filter now dialect
