-- How many members a collection has (OData URL Conventions 4.01, sections 4.8 and 5.1.1.13.1).
use Rattle.std.specs.Prelude.{◌≡◌, List, [], ◌∷◌, length, pos, true, false}
use Rattle.edm_values.specs.Val.{Val, null, boolean, items, Vals, no_items, item}
use Rattle.edm_values.specs.declared.primitive.PrimitiveType.TheVariants.{Int64}
use Rattle.odata_filter_operations.specs.CalculationGives.{GivesNumber}
use Rattle.odata_filter_operations.specs.Outcome.{Outcome, gives}

-- the members one after another
abbrev pub members_of : Vals → List Val
members_of no_items = []
members_of (item v more) = v ∷ members_of more

-- `$count`: null of null; of a collection how many members it has, as an Edm.Int64, outside it Overflow
abbrev pub CountGives : Val → Outcome → Type 0
CountGives null o = o ≡ gives null
CountGives (items values) o = GivesNumber Int64 (pos (length (members_of values))) o
CountGives _ o = ⊥

-- `any()`: null of null; of a collection whether it has a member
abbrev pub AnyItemGives : Val → Outcome → Type 0
AnyItemGives null o = o ≡ gives null
AnyItemGives (items no_items) o = o ≡ gives (boolean false)
AnyItemGives (items (item v more)) o = o ≡ gives (boolean true)
AnyItemGives _ o = ⊥
