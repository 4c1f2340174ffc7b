-- The values that a type has lie within its range.
use Rattle.odata_ranges.proofs.Common.{◌≡◌, ◌↔◌, ◌∙◌, ℕ, zero, suc, ◌<◌, ◌≤◌, ℤ, arith, Bool, List, refl, IsNumberOf, IsNumberType, Val, null, whole, text, PrimitiveType, SchemaModel, slots_of, HasType, IsPrimitiveValue, expr_type, EdmType, ValueType, IsKept, IsNullOnlyIf, HoldsNumber, IsBounded, HoldsCount, IsValueWithin, Range, HoldsValues}

number_type_of : (p : PrimitiveType) (n : ℤ) → IsNumberOf p n → IsNumberType p
number_type_of PrimitiveType.Byte n is = tt
number_type_of PrimitiveType.SByte n is = tt
number_type_of PrimitiveType.Int16 n is = tt
number_type_of PrimitiveType.Int32 n is = tt
number_type_of PrimitiveType.Int64 n is = tt
number_type_of _ n is = absurd is

text_type_of : (p : PrimitiveType) (s : List ℕ) → IsPrimitiveValue (text s) p → p ≡ PrimitiveType.String
text_type_of PrimitiveType.String s is = refl
text_type_of _ s is = absurd is

pub prim_values : (p : PrimitiveType) (takes : Bool) (range : Range) → (IsNumberType p → (n : ℤ) → IsNumberOf p n ↔ HoldsNumber range n)
    → (p ≡ PrimitiveType.String → (n : ℕ) → n ≤ 268_435_456 → HoldsCount range n) → range.may_be_null ≡ takes
    → HoldsValues (EdmType.Single (ValueType.Prim p)) takes range
prim_values p takes range numbers texts nulls = λ schema v has kept only. by schema v has kept only
  where
    by : (schema : SchemaModel) (v : Val) → HasType (slots_of schema) (expr_type schema (EdmType.Single (ValueType.Prim p))) v
        → IsKept (slots_of schema) (expr_type schema (EdmType.Single (ValueType.Prim p))) v → IsNullOnlyIf takes v → IsValueWithin range v
    by schema null has kept only = nulls ∙ only
    by schema (whole n) has kept only = (numbers (number_type_of p n has) n).0 has
    by schema (text s) has kept only = texts (text_type_of p s has) _ kept
    by schema _ has kept only = tt

-- any other type has neither numbers nor texts
abbrev pub IsOther : EdmType → Type 0
IsOther (EdmType.Single (ValueType.Prim p)) = ⊥
IsOther _ = Unit {0}

no_number : (schema : SchemaModel) (type : EdmType) (n : ℤ) → IsOther type → HasType (slots_of schema) (expr_type schema type) (whole n) → ⊥
no_number schema (EdmType.Single (ValueType.Prim p)) n other has = other
no_number schema _ n other has = has

no_text : (schema : SchemaModel) (type : EdmType) (s : List ℕ) → IsOther type → HasType (slots_of schema) (expr_type schema type) (text s) → ⊥
no_text schema (EdmType.Single (ValueType.Prim p)) s other has = other
no_text schema _ s other has = has

pub other_values : (type : EdmType) (takes : Bool) (range : Range) → IsOther type → range.may_be_null ≡ takes → HoldsValues type takes range
other_values type takes range other nulls = λ schema v has kept only. by schema v has only
  where
    by : (schema : SchemaModel) (v : Val) → HasType (slots_of schema) (expr_type schema type) v → IsNullOnlyIf takes v → IsValueWithin range v
    by schema null has only = nulls ∙ only
    by schema (whole n) has only = absurd (no_number schema type n other has)
    by schema (text s) has only = absurd (no_text schema type s other has)
    by schema _ has only = tt

-- ---- bounds

pub bounded_alike : (base range : Range) → range.low ≡ base.low → range.high ≡ base.high → IsBounded base → IsBounded range
bounded_alike base range low high bounded = record {
  ordered = rw (low, high) bounded.ordered;
  low = rw low bounded.low;
  high = rw high bounded.high;
}

pub before_or_past : {P : Type 0} (m n : ℕ) → (m < n → P) → (n ≤ m → P) → P
before_or_past m zero before past = past (omega arith)
before_or_past zero (suc n) before past = before (omega arith)
before_or_past (suc m) (suc n) before past = before_or_past m n (λ less. before (omega arith)) (λ most. past (omega arith))
