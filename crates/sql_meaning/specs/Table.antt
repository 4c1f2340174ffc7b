-- A row of a table that keeps entities, and what a statement over it is given.
use Rattle.std.specs.Prelude.{ℕ, List}
use Rattle.csdl_schema.specs.SchemaModel.{SchemaModel}
use Rattle.edm_values.specs.MomentParts.{MomentParts}
use Rattle.edm_values.specs.Val.{Val}
use Rattle.odata_filter_operations.specs.Outcome.{Outcome, gives}
use Rattle.sql_tree.specs.declared.parameter.Parameter.{Parameter}
use Rattle.sql_tree.specs.declared.json_path.Path.{Path}

-- the schema and the index of the entity's type in it; the entity that the row keeps; the paths of the statement, its
-- parameters, and the moment of the evaluation
pub record Asked : Type 0 where
  pub schema : SchemaModel
  pub row_type : ℕ
  pub entity : Val
  pub paths : List Path
  pub parameters : List Parameter
  pub now : MomentParts

-- a value or a member that is bound around an expression: one of the filter's values, or a fault as the engine carries
-- it; and of a member its index in its collection, counted from 0
pub record BoundValue : Type 0 where
  pub value : Outcome
  pub place : ℕ

-- the outermost first
abbrev pub Bound : Type 0
Bound = List BoundValue

abbrev pub bound_value : Outcome → BoundValue
bound_value o = record { value = o; place = 0 }

abbrev pub bound_member : ℕ → Val → BoundValue
bound_member place v = record { value = gives v; place = place }
