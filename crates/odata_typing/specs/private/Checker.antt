-- For private clauses: the walk over a whole text, and why a text is not a filter.
use Rattle.std.specs.Prelude.{◌≡◌, ℕ, List, [], false, length}
use Rattle.csdl_schema.specs.ExpansionView.{StepModel, paths_in}
use Rattle.csdl_schema.specs.PathSet.{PropertyPath}
use Rattle.csdl_schema.specs.SchemaModel.{SchemaModel, slots_of, type_name_at}
use Rattle.odata_signatures.specs.HasTyping.{HasNoTyping, IsRefusal, UnlessMemory}
use Rattle.odata_signatures.specs.declared.refusal.Refusal.{Refusal}
use Rattle.odata_checked_filter.specs.Filter.{HasNeededPaths, IsFilter, filter_of}
use Rattle.odata_checked_filter.specs.FlatTree.{tree_of_nodes}
use Rattle.odata_checked_filter.specs.Stands.{Stands}
use Rattle.odata_typing.specs.declared.judged_list.Walk.{Walk}

-- the list of the walk is a filter's, which needs nothing of navigation unless the walk has seen a node that navigates
pub record IsWalked (schema : SchemaModel) (n : ℕ) (walk : Walk) : Type 0 where
  pub stands : Stands schema n [] walk.list 0 (length walk.list.nodes) (tree_of_nodes walk.list)
  pub filter :
      (expansion : List StepModel) → HasNeededPaths schema n walk.list expansion
      → IsFilter (filter_of schema n walk.list expansion)
  pub idle :
      (expansion : List StepModel) → walk.navigates ≡ false → ((path : PropertyPath) → paths_in expansion path ≡ false)
      → HasNeededPaths schema n walk.list expansion

-- the text has no typing, and this is why; running out of memory says nothing
pub record IsRefusedFor (schema : SchemaModel) (n : ℕ) (text : List ℕ) (refusal : Refusal) : Type 0 where
  pub why : UnlessMemory refusal (IsRefusal (slots_of schema) (type_name_at schema n) text refusal)
  pub none : UnlessMemory refusal (HasNoTyping (slots_of schema) (type_name_at schema n) text)
