-- The range variables of the lambda operators around an expression (OData URL Conventions 4.01, section 5.1.1.13).
use Rattle.std.specs.Prelude.{ℕ, List, ◌∷◌, Option, map, find, nat_eq}
use Rattle.std.specs.List.{AllByRecursion}
use Rattle.std.specs.Option.{option_map}
use Rattle.std.specs.Cmp.Lexicographic.{pointwise}
use Rattle.edm_values.specs.Val.{Val}
use Rattle.csdl_schema.specs.ExprType.{ExprType}
use Rattle.csdl_schema.specs.SchemaModel.{Slots}
use Rattle.edm_entities.specs.HasType.{HasType}
use Rattle.odata_signatures.specs.Typed.{Scope, Variable}

-- a variable, by its name and type, and its value
pub record Bound : Type 0 where
  pub variable : Variable
  pub value : Val

-- the innermost variable first
abbrev pub Environment : Type 0
Environment = List Bound

-- one variable more, within the others
abbrev pub bound_over : Environment → List ℕ → ExprType → Val → Environment
bound_over environment name type v =
    record { variable = record { name = name; type_of = type }; value = v } ∷ environment

-- the value of the innermost variable of that name
abbrev pub variable_value : Environment → List ℕ → Option Val
variable_value environment asked =
    option_map (λ bound. bound.value) (find (λ bound. pointwise nat_eq asked bound.variable.name) environment)

-- the variables without their values
abbrev pub scope_of : Environment → Scope
scope_of environment = map (λ bound. bound.variable) environment

-- each variable's value is of its type
abbrev pub IsFitting : Slots → Environment → Type 0
IsFitting slots environment = AllByRecursion (λ bound. HasType slots bound.variable.type_of bound.value) environment
