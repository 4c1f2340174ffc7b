-- Over which navigation properties an expression leads, by their paths from the filtered entity on (OData URL
-- Conventions 4.01, sections 5.1.1.13 to 5.1.1.15 and 5.1.3).
use Rattle.std.specs.Prelude.{◌≡◌, ◌⊎◌, ◌++◌, ℕ, List, [], ◌∷◌, Option, None, Some, IsSomeAnd, if◌then◌else◌, nat_eq, unwrap_or}
use Rattle.std.specs.Cmp.Lexicographic.{pointwise}
use Rattle.odata_syntax.specs.Tree.{Tree, Trees, node, literal, it, name, member, count, negation, logical_not, binary, has, in_list, in_path, call, any_item, lambda, more_trees, no_trees}
use Rattle.csdl_schema.specs.ExprType.{SingleType, ExprType, single, structured}
use Rattle.csdl_schema.specs.PathSet.{PropertyPath}
use Rattle.csdl_schema.specs.SchemaModel.{PropertyModel, Slots, navigation}
use Rattle.odata_signatures.specs.Typed.{BindsVariable, Scope, Typed, property_named, variable_type, with_variable}

-- the paths of the collections over which the variables in scope go, the innermost first
abbrev pub VariablePaths : Type 0
VariablePaths = List PropertyPath

-- that of the innermost variable of a name
abbrev pub variable_path : Scope → VariablePaths → List ℕ → Option PropertyPath
variable_path (variable ∷ scope) (path ∷ paths) asked =
    if pointwise nat_eq asked variable.name then Some path else variable_path scope paths asked
variable_path scope paths asked = None

-- the path of an expression that stands for a variable, a property or a step: that of the variable's collection, the
-- name, and the base's path and the name. `$it` and all other expressions have the empty path
abbrev pub path_of : Scope → VariablePaths → Tree → PropertyPath
path_of scope paths (node start stop (name asked)) = unwrap_or (variable_path scope paths asked) (asked ∷ [])
path_of scope paths (node start stop (member base asked)) = path_of scope paths base ++ asked ∷ []
path_of scope paths (node start stop shape) = []

-- the property of that name navigates to a target
abbrev pub Navigates : List PropertyModel → List ℕ → Type 0
Navigates properties asked =
    IsSomeAnd (property_named properties asked) (λ p. (target : ExprType) × (p.type_of ≡ navigation (Some target)))

-- a name that no variable has, of a navigation property of the filtered type
pub record NameNeeds
    (slots : Slots) (root : List ℕ) (scope : Scope) (asked : List ℕ) (path : PropertyPath) : Type 0 where
  pub free : variable_type scope asked ≡ None
  pub navigates : Navigates (slots.properties root) asked
  pub path_is : path ≡ asked ∷ []

-- a step, from one value of a structured type at the path before it, to a navigation property of that type
pub record StepNeeds
    (slots : Slots) (Base : ExprType → Type 0) (before : PropertyPath) (asked : List ℕ) (path : PropertyPath)
    : Type 0 where
  pub owner : List ℕ
  pub base_typed : Base (single (structured owner))
  pub navigates : Navigates (slots.properties owner) asked
  pub path_is : path ≡ before ++ asked ∷ []

-- the body of a lambda operator that binds its variable needs it, in the scope with that variable
pub record BodyNeeds
    (scope : Scope) (variable : List ℕ) (Base : ExprType → Type 0) (Body : Scope → Type 0) : Type 0 where
  pub member_type : SingleType
  pub binds : BindsVariable scope variable Base member_type
  pub body_needs : Body (with_variable scope variable (single member_type))

abbrev mutual
  -- the path is that of a node of the tree, and ends with a navigation property; the variables in scope have these
  -- paths
  pub IsNeeded : Slots → List ℕ → Scope → VariablePaths → Tree → PropertyPath → Type 0
  IsNeeded slots root scope paths (node start stop (literal kind spelling)) path = ⊥
  IsNeeded slots root scope paths (node start stop it) path = ⊥
  IsNeeded slots root scope paths (node start stop (name asked)) path = NameNeeds slots root scope asked path
  IsNeeded slots root scope paths (node start stop (member base asked)) path =
      IsNeeded slots root scope paths base path
      ⊎ StepNeeds slots (Typed slots root scope base) (path_of scope paths base) asked path
  IsNeeded slots root scope paths (node start stop (count base)) path = IsNeeded slots root scope paths base path
  IsNeeded slots root scope paths (node start stop (negation operand)) path =
      IsNeeded slots root scope paths operand path
  IsNeeded slots root scope paths (node start stop (logical_not operand)) path =
      IsNeeded slots root scope paths operand path
  IsNeeded slots root scope paths (node start stop (binary operator left right)) path =
      IsNeeded slots root scope paths left path ⊎ IsNeeded slots root scope paths right path
  IsNeeded slots root scope paths (node start stop (has left right)) path =
      IsNeeded slots root scope paths left path ⊎ IsNeeded slots root scope paths right path
  IsNeeded slots root scope paths (node start stop (in_list left items)) path =
      IsNeeded slots root scope paths left path ⊎ IsNeededAmong slots root scope paths items path
  IsNeeded slots root scope paths (node start stop (in_path left collection)) path =
      IsNeeded slots root scope paths left path ⊎ IsNeeded slots root scope paths collection path
  IsNeeded slots root scope paths (node start stop (call asked arguments)) path =
      IsNeededAmong slots root scope paths arguments path
  IsNeeded slots root scope paths (node start stop (any_item base)) path = IsNeeded slots root scope paths base path
  IsNeeded slots root scope paths (node start stop (lambda quantifier base variable body)) path =
      IsNeeded slots root scope paths base path
      ⊎ BodyNeeds scope variable (Typed slots root scope base)
      (λ at. IsNeeded slots root at (path_of scope paths base ∷ paths) body path)

  -- likewise of a node of one of the trees
  pub IsNeededAmong : Slots → List ℕ → Scope → VariablePaths → Trees → PropertyPath → Type 0
  IsNeededAmong slots root scope paths no_trees path = ⊥
  IsNeededAmong slots root scope paths (more_trees tree trees) path =
      IsNeeded slots root scope paths tree path ⊎ IsNeededAmong slots root scope paths trees path
