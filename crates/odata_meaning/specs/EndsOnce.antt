-- An expression that has a type has exactly one outcome (OData URL Conventions 4.01, section 5.1.1).
use Rattle.std.specs.Prelude.{◌≡◌, ℕ, List}
use Rattle.edm_values.specs.MomentParts.{IsMoment, MomentParts}
use Rattle.edm_values.specs.Val.{Val}
use Rattle.odata_syntax.specs.Tree.{Tree}
use Rattle.csdl_schema.specs.ExprType.{ExprType, single, structured}
use Rattle.csdl_schema.specs.SchemaModel.{Slots, slots_of, type_name_at}
use Rattle.edm_entities.specs.HasType.{HasType}
use Rattle.edm_entities.specs.Row.{Row, IsEntity, value_of}
use Rattle.odata_meaning.specs.Environment.{Environment, scope_of, IsFitting}
use Rattle.odata_meaning.specs.Means.{Means}
use Rattle.odata_filter_operations.specs.Outcome.{Outcome, gives, overflow, divides_by_zero}
use Rattle.odata_signatures.specs.Typed.{Typed}

-- the outcome is a value of the type, or a fault
abbrev pub IsOutcomeOf : Slots → ExprType → Outcome → Type 0
IsOutcomeOf slots type (gives v) = HasType slots type v
IsOutcomeOf slots type overflow = Unit {0}
IsOutcomeOf slots type divides_by_zero = Unit {0}

-- the tree has an outcome, which is of the type if it is a value, and no other
pub record EndsOnce
    (slots : Slots) (root : List ℕ) (now : MomentParts) (entity : Val) (environment : Environment) (tree : Tree)
    (type : ExprType) : Type 0 where
  pub outcome : Outcome
  pub related : Means slots root now entity environment tree outcome
  pub of_type : IsOutcomeOf slots type outcome
  pub only : (other : Outcome) → Means slots root now entity environment tree other → other ≡ outcome

-- so does every tree with a type, on every entity of the filtered type and with variables of every depth; `now` stands
-- for a moment that a literal can spell
abbrev pub TypedEndsOnce : Type 0
TypedEndsOnce =
    (slots : Slots) (root : List ℕ) (now : MomentParts) (entity : Val) (environment : Environment) (tree : Tree)
    (type : ExprType)
    → IsMoment now.civil now.offset_minutes → HasType slots (single (structured root)) entity
    → IsFitting slots environment
    → Typed slots root (scope_of environment) tree type
    → EndsOnce slots root now entity environment tree type

-- the same on every entity
abbrev pub EndsOnceOnEntities : Type 0
EndsOnceOnEntities =
    (row : Row) (now : MomentParts) (environment : Environment) (tree : Tree) (type : ExprType)
    → IsMoment now.civil now.offset_minutes → IsEntity row → IsFitting (slots_of row.schema) environment
    → Typed (slots_of row.schema) (type_name_at row.schema row.type_id) (scope_of environment) tree type
    → EndsOnce (slots_of row.schema) (type_name_at row.schema row.type_id) now (value_of row) environment tree type
