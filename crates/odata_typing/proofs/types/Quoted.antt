-- String literals as texts of an enumeration.
use Rattle.odata_typing.proofs.Common.{◌≡◌, ◌∙◌, sym, subst, ℕ, ℤ, IfNone, IfSome, List, [], ◌∷◌, ◌++◌, Option, Some, None, append_cancel_right, IsEnumerationByName, SchemaModel, Slots, enumeration_at, slots_of, type_name_at, IsQuotedNumber}
use Rattle.std.specs.Int.{cast_signed as to_z, cast_unsigned as of_z, w64}
use Rattle.std.proofs.lemmas.Int.{to_z-of_z}
use Rattle.edm_values.specs.StringLiteral.{quote}
use Rattle.csdl_schema.specs.EnumerationText.{IsOfUnderlying, IsValueIn}
use Rattle.odata_typing.proofs.types.Enumerations.{within_fits}

-- what stands after a first byte
pub after_one : (a b : ℕ) (xs ys : List ℕ) → a ∷ xs ≡ b ∷ ys → xs ≡ ys
after_one a b xs ys same = cc

-- between its quotes stands one text
one_inner : (spelling x y : List ℕ) → spelling ≡ quote ∷ x ++ quote ∷ [] → spelling ≡ quote ∷ y ++ quote ∷ [] → x ≡ y
one_inner spelling x y p q = append_cancel_right x y (quote ∷ []) (after_one quote quote (x ++ quote ∷ []) (y ++ quote ∷ []) (sym p ∙ q))

-- its number, by the schema
pub quoted_some : (schema : SchemaModel) (id : ℕ) (spelling inner : List ℕ) (found : Option ℤ) → spelling ≡ quote ∷ inner ++ quote ∷ []
    → IsEnumerationByName schema id → IfSome found (IsValueIn (enumeration_at schema id) inner) → IfSome found (IsOfUnderlying (enumeration_at schema id))
    → IfSome found (IsQuotedNumber (slots_of schema) (type_name_at schema id) spelling)
quoted_some schema id spelling inner None spelled same value within = tt
quoted_some schema id spelling inner (Some n) spelled same value within = record {
  inner = inner;
  spelled = spelled;
  value = subst (λ e. IsValueIn e inner n) same value;
  within = subst (λ e. IsOfUnderlying e n) same within;
}

no_number : (n : ℤ) → ◌≡◌ {A = Option ℤ} None (Some n) → ⊥
no_number n same = cc

pub quoted_none : (schema : SchemaModel) (id : ℕ) (spelling inner : List ℕ) (found : Option ℤ) → spelling ≡ quote ∷ inner ++ quote ∷ []
    → IsEnumerationByName schema id → ((n : ℤ) → IsValueIn (enumeration_at schema id) inner n → found ≡ Some n)
    → IfNone found ((n : ℤ) → ¬ IsQuotedNumber (slots_of schema) (type_name_at schema id) spelling n)
quoted_none schema id spelling inner (Some m) spelled same only = tt
quoted_none schema id spelling inner None spelled same only = λ n is.
    let P : List ℕ → Type 0 = λ (x : List ℕ). IsValueIn (enumeration_at schema id) x n in
    let value : IsValueIn (enumeration_at schema id) is.inner n = subst (λ e. IsValueIn e is.inner n) (sym same) is.value in
    no_number n (only n (subst P (one_inner spelling is.inner inner is.spelled spelled) value))

-- as the code holds it
pub quoted_held : (slots : Slots) (name spelling : List ℕ) (n : ℤ) → IsQuotedNumber slots name spelling n
    → IsQuotedNumber slots name spelling (to_z w64 (of_z w64 n))
quoted_held slots name spelling n is =
    let held : to_z w64 (of_z w64 n) ≡ n = to_z-of_z w64 n (within_fits (slots.enumerations name) n is.within) in rw held is
