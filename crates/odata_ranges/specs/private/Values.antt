-- For private clauses: ranges of a type's values, of flags, and of what stands in line.
use Rattle.std.specs.Prelude.{◌≡◌, ℕ, List, Bool, true, IsSomeAnd, slice_get}
use Rattle.edm_values.specs.NumberTypes.{IsNumberType}
use Rattle.edm_values.specs.Val.{Val}
use Rattle.odata_syntax.specs.Tree.{Trees, no_trees, more_trees}
use Rattle.csdl_schema.specs.SchemaModel.{SchemaModel, slots_of}
use Rattle.edm_entities.specs.HasType.{HasType}
use Rattle.odata_checked_filter.specs.Filter.{Filter}
use Rattle.odata_checked_filter.specs.FlatTree.{FlatTree}
use Rattle.odata_checked_filter.specs.private.Layout.{AllLie}
use Rattle.odata_signatures.specs.Typed.{Scope}
use Rattle.odata_signatures.specs.TypeView.{expr_type}
use Rattle.odata_signatures.specs.declared.edm_type.EdmType.{EdmType}
use Rattle.odata_signatures.specs.declared.edm_type.ValueType.{ValueType}
use Rattle.odata_ranges.specs.Kept.{IsKept, IsNullOnlyIf}
use Rattle.odata_ranges.specs.Within.{IsValueWithin}
use Rattle.odata_ranges.specs.declared.range.Range.{Range}

-- the values of the type that a row may keep lie within the range, null only where it may be
abbrev pub HoldsValues : EdmType → Bool → Range → Type 0
HoldsValues type takes range =
    (schema : SchemaModel) (v : Val) → HasType (slots_of schema) (expr_type schema type) v
    → IsKept (slots_of schema) (expr_type schema type) v → IsNullOnlyIf takes v → IsValueWithin range v

-- a number type, or that of null
abbrev pub IsNumeric : EdmType → Type 0
IsNumeric EdmType.Null = Unit {0}
IsNumeric (EdmType.Single (ValueType.Prim p)) = IsNumberType p
IsNumeric _ = ⊥

-- what is a fault or null by the one range is so by the other
pub record Covers (wider range : Range) : Type 0 where
  pub fault : range.may_fault ≡ true → wider.may_fault ≡ true
  pub null : range.may_be_null ≡ true → wider.may_be_null ≡ true

-- this holds of the range of each index in which one of the trees stands, the first one from an index on
abbrev pub AllPlaced : FlatTree → List Range → (Range → Type 0) → ℕ → Trees → Type 0
AllPlaced list ranges P place no_trees = Unit {0}
AllPlaced list ranges P place (more_trees tree trees) =
    IsSomeAnd (slice_get ranges place) P
    × IsSomeAnd (slice_get list.nodes place) (λ found. AllPlaced list ranges P found.stop trees)

-- so it is of any trees that lie between the two indices
abbrev pub CoversLine : Filter → List Range → Range → ℕ → ℕ → Type 0
CoversLine filter ranges range from stop =
    (scope : Scope) (trees : Trees) → AllLie filter.schema filter.filtered scope filter.list from stop trees
    → AllPlaced filter.list ranges (Covers range) from trees

-- some trees lie there
abbrev pub LieBetween : Filter → ℕ → ℕ → Type 0
LieBetween filter from stop =
    (scope : Scope) × (trees : Trees) × AllLie filter.schema filter.filtered scope filter.list from stop trees
