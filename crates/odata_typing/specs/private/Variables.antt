-- For private clauses: the scope of range variables.
use Rattle.std.specs.Prelude.{◌≡◌, ℕ, List, [], ◌∷◌, Option, Some, None}
use Rattle.csdl_schema.specs.SchemaModel.{SchemaModel}
use Rattle.std.specs.List.{AllByRecursion}
use Rattle.odata_signatures.specs.TypeThere.{IsTypeThere}
use Rattle.odata_signatures.specs.TypeView.{expr_type}
use Rattle.odata_signatures.specs.declared.edm_type.EdmType.{EdmType}
use Rattle.odata_signatures.specs.Typed.{Scope, variable_type, with_variable}
use Rattle.odata_checked_filter.specs.Levels.{level_named}
use Rattle.odata_checked_filter.specs.Stands.{variable_names}
use Rattle.odata_typing.specs.declared.check_context.CheckContext.{CheckContext}
use Rattle.odata_typing.specs.declared.variables.NamedVariable.{NamedVariable}
use Rattle.odata_typing.specs.declared.variables.Variables.{Variables, fold-Variables}
use Rattle.odata_typing.specs.declared.variables.Variables.TheOpen.{Variables-F}

abbrev pub scope_step : SchemaModel → Variables-F Scope → Scope
scope_step schema Variables-F.Empty = []
scope_step schema (Variables-F.Bound name type outer) = with_variable outer.now name.now (expr_type schema type)

-- the variables of the code, each with its name and its type
abbrev pub scope_in : SchemaModel → Variables → Scope
scope_in schema = fold-Variables Scope (scope_step schema)

-- those in scope where a tree is judged
abbrev pub scope_of : CheckContext → Scope
scope_of context = scope_in context.schema.now context.variables.now

abbrev pub type_step : Variables-F (List EdmType) → List EdmType
type_step Variables-F.Empty = []
type_step (Variables-F.Bound name type outer) = type ∷ outer.now

-- their types
abbrev pub types_in : Variables → List EdmType
types_in = fold-Variables (List EdmType) type_step

-- the schema has the enumerations that their types are of
abbrev pub AreThere : SchemaModel → Variables → Type 0
AreThere schema variables = AllByRecursion (IsTypeThere schema) (types_in variables)

-- a name that stands for none
abbrev pub IsUnbound : Scope → List ℕ → Type 0
IsUnbound scope asked = (level_named (variable_names scope) asked ≡ None) × (variable_type scope asked ≡ None)

-- the variable that a name stands for, or that it stands for none
abbrev pub IsNamedBy : SchemaModel → Scope → List ℕ → Option NamedVariable → Type 0
IsNamedBy schema scope asked (Some variable) =
    (level_named (variable_names scope) asked ≡ Some variable.level)
    × (variable_type scope asked ≡ Some (expr_type schema variable.edm_type))
IsNamedBy schema scope asked None = IsUnbound scope asked
