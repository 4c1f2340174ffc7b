-- For private clauses: the terms of a chain of `and` at the top of a filter's list, and tests of single values.
use Rattle.std.specs.Prelude.{◌≡◌, ℕ, ◌<◌, List, [], All, Some, true}
use Rattle.edm_values.specs.MomentParts.{MomentParts}
use Rattle.edm_values.specs.SieveMeaning.{Rejects}
use Rattle.edm_values.specs.Val.{FieldVal, Val, boolean, fields}
use Rattle.edm_values.specs.declared.sieve.Sieve.{Sieve}
use Rattle.edm_values.specs.declared.value.Value.{Value}
use Rattle.odata_functions.specs.Comparison.{ComparesTrue}
use Rattle.odata_syntax.specs.Tree.{Tree}
use Rattle.odata_syntax.specs.declared.binary_operator.BinaryOperator.{BinaryOperator}
use Rattle.odata_syntax.specs.declared.binary_operator.ComparisonOperator.{ComparisonOperator}
use Rattle.odata_syntax.specs.declared.binary_operator.LogicalOperator.{LogicalOperator}
use Rattle.csdl_schema.specs.SchemaModel.{Slots, properties_at, slot_named, slots_of, type_name_at}
use Rattle.odata_checked_filter.specs.Filter.{Filter}
use Rattle.odata_checked_filter.specs.Stands.{Stands}
use Rattle.odata_eval.specs.FalseWhere.{IsFalseWhere}
use Rattle.odata_eval.specs.TrueWhere.{Passes, PassesIn}
use Rattle.odata_eval.specs.declared.value_tests.SlotSieve.{SlotSieve}
use Rattle.odata_meaning.specs.Means.{Means}
use Rattle.filter_context.specs.private.Place.{HasOperator}
use Rattle.odata_filter_operations.specs.Outcome.{Outcome, gives, overflow, divides_by_zero}

-- it is no fault
abbrev pub IsValue : Outcome → Type 0
IsValue (gives v) = Unit {0}
IsValue overflow = ⊥
IsValue divides_by_zero = ⊥

-- on no record the tree evaluates to a fault
abbrev pub HasNoFault : Slots → List ℕ → Tree → Type 0
HasNoFault slots root tree =
    (now : MomentParts) (held : List ℕ → FieldVal) (o : Outcome) → Means slots root now (fields held) [] tree o
    → IsValue o

-- the nodes of the filter from one index up to the other stand for the tree
abbrev pub StandsFor : Filter → ℕ → ℕ → Tree → Type 0
StandsFor filter = Stands filter.schema filter.filtered [] filter.list

-- what stands there evaluates to no fault
abbrev pub LeavesNoFault : Filter → ℕ → Type 0
LeavesNoFault filter place =
    (stop : ℕ) (tree : Tree) → StandsFor filter place stop tree
    → HasNoFault (slots_of filter.schema) (type_name_at filter.schema filter.filtered) tree

-- what stands there is false where the value of the property in the slot is rejected
abbrev pub IsFalseAt : Filter → ℕ → ℕ → Sieve → Type 0
IsFalseAt filter place slot sieve =
    (stop : ℕ) (tree : Tree) → StandsFor filter place stop tree → (word : List ℕ)
    → slot_named (properties_at filter.schema filter.filtered) word ≡ Some slot
    → IsFalseWhere (slots_of filter.schema) (type_name_at filter.schema filter.filtered) tree word sieve

-- on that record what stands there evaluates to nothing but true
abbrev pub IsTrueAt : Filter → MomentParts → (List ℕ → FieldVal) → ℕ → Type 0
IsTrueAt filter now held place =
    (stop : ℕ) (tree : Tree) → StandsFor filter place stop tree → (o : Outcome)
    → Means (slots_of filter.schema) (type_name_at filter.schema filter.filtered) now (fields held) [] tree o
    → o ≡ gives (boolean true)

-- the test is one of a term there, which is true where it passes
pub record IsTermSieve (filter : Filter) (place slot : ℕ) (sieve : Sieve) : Type 0 where
  pub decides : IsFalseAt filter place slot sieve
  pub affirms : (now : MomentParts) (held : List ℕ → FieldVal)
      → PassesIn filter held (record { slot = slot; sieve = sieve }) → IsTrueAt filter now held place
  pub no_fault : LeavesNoFault filter place

-- the first nodes, so many, are `and`s
abbrev pub AndsAbove : Filter → ℕ → Type 0
AndsAbove filter count = (k : ℕ) → k < count → HasOperator filter.list k (BinaryOperator.Logical LogicalOperator.And)

-- it is no number of an enumeration
abbrev pub IsNoNumber : Value → Type 0
IsNoNumber (Value.Enum n) = ⊥
IsNoNumber _ = Unit {0}

-- where the test rejects a value, the comparison of that with the other one is not true
abbrev pub Refutes : ComparisonOperator → Val → Sieve → Type 0
Refutes comparison right sieve = (value : Val) → Rejects sieve value → ¬ ComparesTrue comparison value right

-- and where it passes one, the comparison is true
pub record Decides (comparison : ComparisonOperator) (right : Val) (sieve : Sieve) : Type 0 where
  pub refutes : Refutes comparison right sieve
  pub affirms : (value : Val) → Passes sieve value → ComparesTrue comparison value right

-- what holds of the term holds of the chain from a node down
pub record GoesUp (filter : Filter) (term at : ℕ) : Type 0 where
  pub no_fault : LeavesNoFault filter term → LeavesNoFault filter at
  pub decides : (slot : ℕ) (sieve : Sieve) → IsFalseAt filter term slot sieve → IsFalseAt filter at slot sieve

-- where a record passes these tests, and the term is true, the chain is true from a node down
abbrev pub AreAllBut : Filter → List SlotSieve → ℕ → ℕ → Type 0
AreAllBut filter tests term at =
    (now : MomentParts) (held : List ℕ → FieldVal) → All (PassesIn filter held) tests
    → IsTrueAt filter now held term → IsTrueAt filter now held at
