-- `in` before a list and before a path (OData URL Conventions 4.01, section 5.1.1.1.12).
use Rattle.std.specs.Prelude.{◌≡◌, ◌+◌, ◌∷◌, [], ℕ, List, Bool, true, false, None, IsSomeAnd, slice_get}
use Rattle.std.specs.List.{AllByRecursion}
use Rattle.edm_values.specs.Val.{Val, boolean}
use Rattle.odata_syntax.specs.declared.binary_operator.ComparisonOperator.{ComparisonOperator}
use Rattle.odata_syntax.specs.declared.binary_operator.LogicalOperator.{LogicalOperator}
use Rattle.odata_checked_filter.specs.Filter.{Filter}
use Rattle.odata_filter_operations.specs.CompareGives.{CompareGives}
use Rattle.odata_filter_operations.specs.Outcome.{Outcome, gives}
use Rattle.odata_signatures.specs.declared.edm_type.EdmType.{EdmType}
use Rattle.odata_signatures.specs.declared.edm_type.ValueType.{ValueType}
use Rattle.odata_ranges.specs.declared.range.Range.{Range}
use Rattle.sql_meaning.specs.PlaceGives.{AreMembers}
use Rattle.sql_draft.specs.declared.sql_operand.Operand.{Operand}
use Rattle.sql_outcomes.specs.Calls.{AreAlong}
use Rattle.sql_outcomes.specs.Connected.{chained}
use Rattle.sql_outcomes.specs.ComparedSides.{FaultyHave, HasOrCode, NoTruth}
use Rattle.sql_draft.specs.Kinds.{IsOfKind, kind_of_single}
use Rattle.sql_outcomes.specs.OperandFaults.{carrier_in, fault_else}
use Rattle.sql_draft.specs.OperandHas.{Fits, IsSideAt}
use Rattle.sql_draft.specs.World.{OfPlace, World}

-- ---- items

-- the items of the list at the index, which stand after its left side
abbrev pub AreItemsOf : Filter → List Range → ℕ → List Operand → Type 0
AreItemsOf filter ranges place items =
    IsSomeAnd (slice_get filter.list.nodes place) (λ node. IsSomeAnd (slice_get filter.list.nodes (place + 1))
    (λ left. AreAlong filter (IsSideAt filter ranges) left.stop node.stop items))

-- ---- of values

-- one of them is true
abbrev pub some_of : List Bool → Bool
some_of [] = false
some_of (true ∷ bs) = true
some_of (false ∷ bs) = some_of bs

-- ---- of what may be faults

-- or of all outcomes
abbrev pub any_of : List Outcome → Outcome
any_of es = chained LogicalOperator.Or (gives (boolean false)) es

-- what comes of the left side, which evaluates to the outcome, beside each item
abbrev pub EachCompared : Filter → Operand → Outcome → List Operand → World → List Outcome → Type 0
EachCompared filter left l [] world es = es ≡ []
EachCompared filter left l (item ∷ items) world [] = ⊥
EachCompared filter left l (item ∷ items) world (e ∷ es) =
    (f : FaultyHave filter ComparisonOperator.Eq left item world e) × (f.left_outcome ≡ l)
    × EachCompared filter left l items world es

-- whether the left side is equal to one of the items: the first that is equal or a fault decides
pub record ListHas (filter : Filter) (left : Operand) (items : List Operand) (world : World)
    (o : Outcome) : Type 0 where
  pub left_outcome : Outcome
  pub left_has : HasOrCode filter left.kind left.source world left_outcome
  pub left_fits : (v : Val) → left_outcome ≡ gives v → Fits left v
  pub left_plain : NoTruth left → carrier_in left ≡ None → (v : Val) × (left_outcome ≡ gives v)
  pub outcomes : List Outcome
  pub each : EachCompared filter left left_outcome items world outcomes
  pub is : o ≡ fault_else left_outcome (any_of outcomes)

-- ---- members

-- a value at an index that is a collection, or null, and its members, each of which is of the kind of its type
pub record MembersAt (filter : Filter) (collection : ℕ) (world : World) : Type 0 where
  pub c : Val
  pub has : OfPlace filter collection world (gives c)
  pub members : List Val
  pub are : AreMembers c members
  pub kinds :
      IsSomeAnd (slice_get filter.list.nodes collection) (λ node. (type : ValueType)
      × (node.edm_type ≡ EdmType.Collection type) × AllByRecursion (IsOfKind (kind_of_single type)) members)

-- whether the value is equal to each
abbrev pub EachMemberEquals : Val → List Val → List Bool → Type 0
EachMemberEquals l [] bs = bs ≡ []
EachMemberEquals l (v ∷ members) [] = ⊥
EachMemberEquals l (v ∷ members) (b ∷ bs) =
    CompareGives ComparisonOperator.Eq l v (gives (boolean b)) × EachMemberEquals l members bs
