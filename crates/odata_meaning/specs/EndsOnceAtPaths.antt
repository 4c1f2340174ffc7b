-- An expression that has a type has exactly one outcome on values in which no more is expanded than it needs (OData URL
-- Conventions 4.01, sections 5.1.1 and 5.1.3).
use Rattle.std.specs.Prelude.{◌≡◌, ℕ, List, [], true}
use Rattle.edm_values.specs.MomentParts.{IsMoment, MomentParts}
use Rattle.edm_values.specs.Val.{Val}
use Rattle.odata_syntax.specs.Tree.{Tree}
use Rattle.csdl_schema.specs.ExprType.{ExprType, single, structured}
use Rattle.csdl_schema.specs.PathSet.{PathSet, PropertyPath}
use Rattle.csdl_schema.specs.SchemaModel.{Slots}
use Rattle.odata_signatures.specs.NeededPaths.{IsNeeded, VariablePaths, path_of}
use Rattle.odata_signatures.specs.Typed.{Typed}
use Rattle.odata_meaning.specs.Environment.{Environment, scope_of}
use Rattle.odata_meaning.specs.Means.{Means}
use Rattle.odata_filter_operations.specs.Outcome.{Outcome, gives, overflow, divides_by_zero}
use Rattle.odata_meaning.specs.TypesAtPaths.{AreFittingAt, HasTypeAt}

-- the outcome is a value of the type at the path, or a fault
abbrev pub IsOutcomeAt : Slots → PathSet → PropertyPath → ExprType → Outcome → Type 0
IsOutcomeAt slots needed path type (gives v) = HasTypeAt slots needed path type v
IsOutcomeAt slots needed path type overflow = Unit {0}
IsOutcomeAt slots needed path type divides_by_zero = Unit {0}

-- the tree has an outcome, which is of the type at the tree's path if it is a value, and no other
pub record EndsOnceAt
    (slots : Slots) (needed : PathSet) (root : List ℕ) (now : MomentParts) (entity : Val) (environment : Environment)
    (paths : VariablePaths) (tree : Tree) (type : ExprType) : Type 0 where
  pub outcome : Outcome
  pub related : Means slots root now entity environment tree outcome
  pub of_type : IsOutcomeAt slots needed (path_of (scope_of environment) paths tree) type outcome
  pub only : (other : Outcome) → Means slots root now entity environment tree other → other ≡ outcome

-- so does every tree with a type, on every value of the filtered type and with variables of every depth, these at paths
-- of their own, where all is expanded that the tree needs; `now` stands for a moment that a literal can spell
abbrev pub TypedEndsOnceAtPaths : Type 0
TypedEndsOnceAtPaths =
    (slots : Slots) (needed : PathSet) (root : List ℕ) (now : MomentParts) (entity : Val) (environment : Environment)
    (paths : VariablePaths) (tree : Tree) (type : ExprType)
    → IsMoment now.civil now.offset_minutes → HasTypeAt slots needed [] (single (structured root)) entity
    → AreFittingAt slots needed environment paths
    → Typed slots root (scope_of environment) tree type
    → ((path : PropertyPath) → IsNeeded slots root (scope_of environment) paths tree path → needed path ≡ true)
    → EndsOnceAt slots needed root now entity environment paths tree type
