-- An expression that has a type has exactly one cost, and none without lambda operators on texts below a KiB.
use Rattle.std.specs.Prelude.{◌≡◌, ◌<◌, [], ◌∷◌, ℕ, List}
use Rattle.edm_values.specs.MomentParts.{IsMoment, MomentParts}
use Rattle.edm_values.specs.Val.{Val}
use Rattle.odata_syntax.specs.Spans.{IsWithin}
use Rattle.odata_syntax.specs.Tree.{Shape, Tree, Trees, call, more_trees, no_trees, shape_of}
use Rattle.csdl_schema.specs.ExprType.{ExprType}
use Rattle.csdl_schema.specs.SchemaModel.{Slots, slots_of, type_name_at}
use Rattle.edm_entities.specs.Row.{Row, IsEntity, value_of}
use Rattle.odata_checked_filter.specs.LambdaDepth.{lambda_depth}
use Rattle.odata_signatures.specs.Functions.{IsNamed}
use Rattle.odata_signatures.specs.Typed.{Typed}
use Rattle.odata_signatures.specs.declared.function.Function.{Function}
use Rattle.odata_meaning.specs.Costs.{Costs}
use Rattle.odata_filter_operations.specs.Outcome.{gives}
use Rattle.odata_meaning.specs.Environment.{Environment, IsFitting, scope_of}
use Rattle.odata_meaning.specs.Means.{Means}
use Rattle.odata_filter_operations.specs.TextCosts.{IsShort, made_length}

-- the tree has a cost, and no other
pub record CostsOnce
    (slots : Slots) (root : List ℕ) (now : MomentParts) (entity : Val) (environment : Environment) (tree : Tree)
    : Type 0 where
  pub cost : ℕ
  pub related : Costs slots root now entity environment tree cost
  pub only : (other : ℕ) → Costs slots root now entity environment tree other → other ≡ cost

-- so has every tree with a type, on every entity of the filtered type
abbrev pub CostsOnceOnEntities : Type 0
CostsOnceOnEntities =
    (row : Row) (now : MomentParts) (environment : Environment) (tree : Tree) (type : ExprType)
    → IsMoment now.civil now.offset_minutes → IsEntity row → IsFitting (slots_of row.schema) environment
    → Typed (slots_of row.schema) (type_name_at row.schema row.type_id) (scope_of environment) tree type
    → CostsOnce (slots_of row.schema) (type_name_at row.schema row.type_id) now (value_of row) environment tree

-- outside of bodies the trees evaluate to these values
abbrev pub AreValues : Slots → List ℕ → MomentParts → Val → Trees → List Val → Type 0
AreValues slots root now entity no_trees [] = Unit {0}
AreValues slots root now entity (more_trees tree more) (v ∷ values) =
    Means slots root now entity [] tree (gives v) × AreValues slots root now entity more values
AreValues slots root now entity _ _ = ⊥

-- a call makes no text of 1,024 bytes or more of the values of its arguments
abbrev pub MakesShort : Slots → List ℕ → MomentParts → Val → Shape → Type 0
MakesShort slots root now entity (call asked arguments) =
    (function : Function) (values : List Val) → IsNamed function asked → AreValues slots root now entity arguments values
    → made_length function values < 1024
MakesShort slots root now entity shape = Unit {0}

-- no part of the tree evaluates to such a text, or to a collection with one, and none makes one
abbrev pub HasShortTexts : Slots → List ℕ → MomentParts → Val → Tree → Type 0
HasShortTexts slots root now entity tree =
    (part : Tree) → IsWithin part tree
    → ((v : Val) → Means slots root now entity [] part (gives v) → IsShort v)
    × MakesShort slots root now entity (shape_of part)

-- a tree without lambda operators costs nothing on texts below a KiB, whatever it is evaluated on outside of a body
abbrev pub CostsNothingWithoutLambdas : Type 0
CostsNothingWithoutLambdas =
    (slots : Slots) (root : List ℕ) (now : MomentParts) (entity : Val) (tree : Tree) (n : ℕ)
    → lambda_depth tree ≡ 0 → HasShortTexts slots root now entity tree → Costs slots root now entity [] tree n → n ≡ 0
