-- What `any`, `all` and `in` evaluate to (OData URL Conventions 4.01, sections 5.1.1.1.11, 5.1.1.13.1 and 5.1.1.13.2).
use Rattle.std.specs.Prelude.{◌≡◌, ℕ, IsSomeAnd, length, slice_get}
use Rattle.edm_values.specs.Val.{Val, null, items, Vals}
use Rattle.csdl_schema.specs.ExprType.{ExprType, collection, single}
use Rattle.csdl_schema.specs.ExprType.{SingleType}
use Rattle.odata_syntax.specs.declared.binary_operator.ComparisonOperator.TheVariants.{Eq}
use Rattle.odata_syntax.specs.declared.node.Quantifier.{Quantifier}
use Rattle.odata_syntax.specs.declared.node.Quantifier.TheVariants.{Any}
use Rattle.odata_filter_operations.specs.CollectionGives.{members_of}
use Rattle.odata_filter_operations.specs.CompareGives.{CompareGives}
use Rattle.odata_filter_operations.specs.LeftFirst.{After}
use Rattle.odata_filter_operations.specs.Outcome.{Outcome, gives}
use Rattle.odata_filter_operations.specs.QuantifierGives.{QuantifierGives}

-- the body at the member of an index
abbrev pub MemberGives : (Val → Outcome → Type 0) → Vals → ℕ → Outcome → Type 0
MemberGives Body values place o = IsSomeAnd (slice_get (members_of values) place) (λ v. Body v o)

-- the body over the members of a collection
abbrev pub MembersGive : Quantifier → (Val → Outcome → Type 0) → Vals → Outcome → Type 0
MembersGive quantifier Body values =
    QuantifierGives quantifier (length (members_of values)) (MemberGives Body values)

-- `any` and `all`: null of null; over a collection the body, with a variable of the type that its members have
abbrev pub LambdaGives : Quantifier → (ExprType → Type 0) → (ExprType → Val → Outcome → Type 0) → Val → Outcome → Type 0
LambdaGives quantifier BaseTyped Body null o = o ≡ gives null
LambdaGives quantifier BaseTyped Body (items values) o =
    (type : SingleType) × BaseTyped (collection type) × MembersGive quantifier (Body (single type)) values o
LambdaGives quantifier BaseTyped Body _ o = ⊥

-- `in` before a path: null of null; over a collection `any`, the body being that the member is equal to the left value
abbrev pub InGives : Val → Val → Outcome → Type 0
InGives l null o = o ≡ gives null
InGives l (items values) o = MembersGive Any (CompareGives Eq l) values o
InGives l _ o = ⊥

-- `in` before a list: likewise over so many items, each with its own outcomes
abbrev pub ItemsGive : Val → ℕ → (ℕ → Outcome → Type 0) → Outcome → Type 0
ItemsGive l count Item = QuantifierGives Any count (λ place. After (Item place) (CompareGives Eq l))
