-- What a walk of a filter's list goes by.
use Rattle.std.specs.Prelude.{◌≡◌, List, ◌∷◌, Vec}
use Rattle.std.specs.declared.alloc.Global.{Global}
use Rattle.edm_values.specs.MomentParts.{MomentParts}
use Rattle.edm_values.specs.declared.value.Value.{Value, Moment, Record}
use Rattle.csdl_schema.specs.SchemaModel.{slots_of}
use Rattle.edm_entities.specs.Row.{Row, IsEntity}
use Rattle.odata_checked_filter.specs.declared.checked_node.CheckedNode.{CheckedNode}
use Rattle.odata_checked_filter.specs.FlatTree.{FlatTree}
use Rattle.odata_meaning.specs.Environment.{Environment, IsFitting}
use Rattle.filter_context.specs.Frames.{Frame, environment_in}

-- the entity, the moment that `now` stands for, the filter's list, and the variables
pub record ContextModel : Type 0 where
  pub row : Row
  pub moment : MomentParts
  pub list : FlatTree
  pub frames : List Frame

abbrev pub context_in : Row → MomentParts → FlatTree → List Frame → ContextModel
context_in row moment list frames = record { row = row; moment = moment; list = list; frames = frames }

-- the context with a variable more, the innermost
abbrev pub with_frame : ContextModel → Frame → ContextModel
with_frame context frame = context_in context.row context.moment context.list (frame ∷ context.frames)

-- the two differ in nothing but variables
pub record IsBeside (context other : ContextModel) : Type 0 where
  pub row_is : context.row ≡ other.row
  pub moment_is : context.moment ≡ other.moment
  pub list_is : context.list ≡ other.list

-- the variables with their values
abbrev pub environment_of : ContextModel → Environment
environment_of context = environment_in context.row.schema context.frames

-- these are the list's nodes and values, the entity's values by slot, and the moment as a value; the variables' values
-- are of their types
pub record IsContext
    (context : ContextModel) (nodes : List CheckedNode) (values slots : List Value) (now : Value) : Type 0 where
  pub entity : IsEntity context.row
  pub nodes_are : nodes ≡ context.list.nodes
  pub values_are : values ≡ context.list.values
  pub held : Vec Value Global
  pub value_is : context.row.value ≡ Record held
  pub slots_are : slots ≡ held.items
  pub now_is : now ≡ Moment context.moment
  pub fitting : IsFitting (slots_of context.row.schema) (environment_of context)
