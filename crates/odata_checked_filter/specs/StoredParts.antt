-- What is stored of a filter apart from its schema.
use Rattle.std.specs.Prelude.{ℕ, List}
use Rattle.csdl_schema.specs.ExpansionView.{StepModel}
use Rattle.odata_checked_filter.specs.FlatTree.{FlatTree}

-- the index of its type in the schema, the list of its nodes, and what it needs of navigation
pub record StoredParts : Type 0 where
  pub filtered : ℕ
  pub list : FlatTree
  pub expansion : List StepModel
