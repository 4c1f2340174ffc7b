-- Bodies over the members of a collection (OData URL Conventions 4.01, section 5.1.1.13).
use Rattle.std.specs.Prelude.{◌≡◌, ◌+◌, ◌++◌, ◌∷◌, [], ℕ, List, IsSomeAnd, Some, length, slice_get}
use Rattle.std.specs.List.{AllByRecursion}
use Rattle.edm_values.specs.Val.{Val, null}
use Rattle.csdl_schema.specs.SchemaModel.{slots_of, type_name_at}
use Rattle.edm_entities.specs.HasType.{HasType}
use Rattle.edm_entities.specs.Row.{value_of}
use Rattle.odata_meaning.specs.Means.{Means}
use Rattle.odata_syntax.specs.Tree.{Tree}
use Rattle.odata_syntax.specs.declared.node.Quantifier.{Quantifier}
use Rattle.odata_signatures.specs.Typed.{Variable as RangeVariable}
use Rattle.odata_checked_filter.specs.Filter.{Filter}
use Rattle.odata_filter_operations.specs.Outcome.{Outcome, gives}
use Rattle.odata_filter_operations.specs.QuantifierGives.{QuantifierGives}
use Rattle.odata_ranges.specs.Kept.{IsKept}
use Rattle.sql_meaning.specs.PlaceGives.{AreMembers}
use Rattle.sql_meaning.specs.Table.{bound_member}
use Rattle.sql_draft.specs.World.{Has, OfPlace, StandsThere, World}

-- ---- what comes of the members

-- the world at a member at an index of its collection: the variable has its value, and it is bound
abbrev pub at_member : World → RangeVariable → ℕ → Val → World
at_member world variable place v = record world {
  environment = record { variable = variable; value = v } ∷ world.environment;
  bound = world.bound ++ bound_member place v ∷ [];
}

-- what the tree evaluates to, which stands at the index
abbrev pub OfTree : Filter → ℕ → Tree → Has
OfTree filter place tree world o =
    StandsThere filter place world tree
    × Means (slots_of world.row.schema) (type_name_at world.row.schema world.row.type_id) world.now (value_of world.row)
    world.environment tree o

-- at the members, each by its own index
abbrev pub AtMembers : Filter → ℕ → Tree → World → RangeVariable → List Val → ℕ → Outcome → Type 0
AtMembers filter body tree world variable members k p =
    IsSomeAnd (slice_get members k) (λ v. OfTree filter body tree (at_member world variable k v) p)

-- it evaluates to one thing
pub record ComesToOne (Outcomes : Outcome → Type 0) : Type 0 where
  pub outcome : Outcome
  pub related : Outcomes outcome
  pub only : (other : Outcome) → Outcomes other → other ≡ outcome

-- the tree at the index stops there
abbrev pub IsStopAt : Filter → ℕ → ℕ → Type 0
IsStopAt filter place stop = IsSomeAnd (slice_get filter.list.nodes place) (λ node. node.stop ≡ stop)

-- what a lambda operator evaluates to over the members of what it goes over; null has none
pub record OverHas (filter : Filter) (quantifier : Quantifier) (place : ℕ) (world : World) (o : Outcome) : Type 0 where
  pub body : ℕ
  pub is_body : IsStopAt filter (place + 1) body
  pub tree : Tree
  pub variable : RangeVariable
  pub collection : Val
  pub members : List Val
  pub has : OfPlace filter (place + 1) world (gives collection)
  pub are : AreMembers collection members
  pub typed : AllByRecursion (λ v. HasType (slots_of world.row.schema) variable.type_of v) members
  pub kept : AllByRecursion (λ v. IsKept (slots_of world.row.schema) variable.type_of v) members
  pub each :
      (k : ℕ) (v : Val) → slice_get members k ≡ Some v
      → ComesToOne (OfTree filter body tree (at_member world variable k v))
  pub given : QuantifierGives quantifier (length members) (AtMembers filter body tree world variable members) o

-- ---- null

-- null over null, and else the other outcome
abbrev pub IsOrNull : Val → Outcome → Outcome → Type 0
IsOrNull null o rest = o ≡ gives null
IsOrNull v o rest = o ≡ rest

-- what a lambda operator evaluates to: null over null, and else what it does over the members
pub record LambdaHas (filter : Filter) (quantifier : Quantifier) (place : ℕ) (world : World)
    (o : Outcome) : Type 0 where
  pub whole_outcome : Outcome
  pub over : OverHas filter quantifier place world whole_outcome
  pub is : IsOrNull over.collection o whole_outcome
