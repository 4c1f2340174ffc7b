-- How a list of nodes changes while its nodes are put at their indexes.
use Rattle.std.specs.Prelude.{◌≡◌, ◌⊎◌, ◌<◌, ◌≤◌, ℕ, ℤ, List, [], ◌∷◌, ◌++◌, Some, length, replicate, slice_get, slice_set}
use Rattle.edm_values.specs.declared.value.Value.{Value}
use Rattle.odata_syntax.specs.declared.node.LiteralKind.{LiteralKind}
use Rattle.odata_signatures.specs.declared.edm_type.EdmType.{EdmType}
use Rattle.odata_checked_filter.specs.declared.checked_node.CheckedNode.{CheckedNode}
use Rattle.odata_checked_filter.specs.declared.checked_node.NodeKind.{NodeKind}
use Rattle.odata_checked_filter.specs.FlatTree.{FlatTree}

-- the empty list
abbrev pub no_nodes : FlatTree
no_nodes = record { nodes = []; values = []; texts = []; source = [] }

-- what stands at an index before its node is put there
abbrev pub nothing_yet : CheckedNode
nothing_yet = record { kind = NodeKind.It; span = record { start = 0; stop = 0 }; edm_type = EdmType.Null; stop = 0 }

-- filled with so many placeholder nodes over a text
abbrev pub with_room : FlatTree → List ℕ → ℕ → FlatTree
with_room list source count =
    record list { nodes = replicate count nothing_yet; texts = replicate count []; source = source }

-- with a value after the others
abbrev pub with_value : FlatTree → Value → FlatTree
with_value list value = record list { values = list.values ++ value ∷ [] }

-- with another node and another text at that index
abbrev pub node_put : FlatTree → ℕ → CheckedNode → List ℕ → FlatTree
node_put list place put text =
    record list { nodes = slice_set list.nodes place put; texts = slice_set list.texts place text }

-- the String literal whose node is found at that index has a number, which is put after the other values, as its value
abbrev pub number_put : FlatTree → ℕ → CheckedNode → ℤ → FlatTree
number_put list place found number =
    record list {
      nodes = slice_set list.nodes place
          (record found { kind = NodeKind.Literal LiteralKind.Str (length list.values) });
      values = list.values ++ Value.Enum number ∷ [];
    }

-- outside the indexes from the i-th up to the j-th all stands as it stood, and values have only been put after the
-- others
pub record IsKeptOutside (i j : ℕ) (old new : FlatTree) : Type 0 where
  pub nodes : (k : ℕ) → (k < i) ⊎ (j ≤ k) → slice_get new.nodes k ≡ slice_get old.nodes k
  pub texts : (k : ℕ) → (k < i) ⊎ (j ≤ k) → slice_get new.texts k ≡ slice_get old.texts k
  pub values : (k : ℕ) (value : Value) → slice_get old.values k ≡ Some value → slice_get new.values k ≡ Some value
  pub count : length new.nodes ≡ length old.nodes
  pub beside : length new.texts ≡ length old.texts
  pub source : new.source ≡ old.source
