-- The range variables of a walk.
use Rattle.std.specs.Prelude.{◌≡◌, ◌<◌, ◌≤◌, ℕ, List, [], ◌∷◌, Option, Some, length, map}
use Rattle.edm_values.specs.Val.{Val}
use Rattle.edm_values.specs.declared.value.Value.{Value}
use Rattle.csdl_schema.specs.ExprType.{ExprType}
use Rattle.csdl_schema.specs.SchemaModel.{SchemaModel, Slots, slots_of}
use Rattle.edm_entities.specs.Row.{val_of}
use Rattle.odata_signatures.specs.TypeView.{expr_type}
use Rattle.odata_signatures.specs.declared.edm_type.EdmType.{EdmType}
use Rattle.odata_signatures.specs.Typed.{variable_type}
use Rattle.odata_checked_filter.specs.Levels.{level_named}
use Rattle.odata_checked_filter.specs.Stands.{variable_names}
use Rattle.odata_meaning.specs.Environment.{Bound, Environment, scope_of, variable_value}
use Rattle.filter_context.specs.declared.frames.AtLevel.{AtLevel}
use Rattle.filter_context.specs.declared.frames.Frames.{Frames, fold-Frames}
use Rattle.filter_context.specs.declared.frames.Frames.TheOpen.{Frames-F}
use Rattle.filter_context.specs.declared.frames.RangeVariable.{RangeVariable}

-- a variable's name and type, and its value
pub record Frame : Type 0 where
  pub name : List ℕ
  pub edm_type : EdmType
  pub value : Value

abbrev pub frame_of : RangeVariable → Value → Frame
frame_of variable value = record { name = variable.name.now; edm_type = variable.edm_type; value = value }

abbrev pub frame_step : Frames-F (List Frame) → List Frame
frame_step Frames-F.Empty = []
frame_step (Frames-F.Bound variable value outer) = frame_of variable.now value.now ∷ outer.now

-- those of the code, the innermost first
abbrev pub frames_in : Frames → List Frame
frames_in = fold-Frames (List Frame) frame_step

-- what a variable stands for, by its type
abbrev pub bound_of : SchemaModel → Frame → Bound
bound_of schema frame = record {
  variable = record { name = frame.name; type_of = expr_type schema frame.edm_type };
  value = val_of frame.value (slots_of schema).properties (expr_type schema frame.edm_type);
}

-- the environment that they make
abbrev pub environment_in : SchemaModel → List Frame → Environment
environment_in schema frames = map (bound_of schema) frames

-- the names that they have
abbrev pub names_of : Environment → List (List ℕ)
names_of environment = variable_names (scope_of environment)

-- what a name stands for, if it is a variable's, is the value at the type of the variable
abbrev pub VariableHolds : Slots → Option ExprType → Option Val → Value → Type 0
VariableHolds slots (Some type) (Some v) value = v ≡ val_of value slots.properties type
VariableHolds slots _ _ value = ⊥

-- the variable of that level has the value
pub record StandsAtLevel (slots : Slots) (environment : Environment) (level : ℕ) (value : Value) : Type 0 where
  pub within : level < length (names_of environment)
  pub holds :
      (asked : List ℕ) → level_named (names_of environment) asked ≡ Some level
      → VariableHolds slots (variable_type (scope_of environment) asked) (variable_value environment asked) value

-- so it has, or there are so many variables, not more than that
abbrev pub IsAtLevel : Slots → Environment → ℕ → AtLevel → Type 0
IsAtLevel slots environment level (AtLevel.There value) = StandsAtLevel slots environment level value.now
IsAtLevel slots environment level (AtLevel.Fewer n) = (n ≡ length (names_of environment)) × (n ≤ level)
