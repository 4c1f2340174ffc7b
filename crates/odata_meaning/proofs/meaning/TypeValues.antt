-- Which values a type has, as the few facts by which one outcome goes.
use Rattle.std.proofs.Common.{◌≡◌, ◌⊎◌, ◌∙◌, refl, ap, subst, inl, inr, ℕ, ℤ, List, [], ◌∷◌, Bool, true, false, None, Some, IsUtf8, cond, length, nat_eq}
use Rattle.std.specs.Prelude.{IsSomeAnd}
use Rattle.std.specs.List.{AllByRecursion}
use Rattle.std.specs.Cmp.Lexicographic.{pointwise}
use Rattle.std.proofs.lemmas.Slice.Eq.{bytes_eq-Decides}
use Rattle.edm_values.specs.Civil.{Date}
use Rattle.edm_values.specs.MomentParts.{IsFourDigitYear, IsMoment, MomentParts}
use Rattle.edm_values.specs.NumberTypes.{IsNumberOf}
use Rattle.edm_values.specs.Val.{Val, null, boolean, whole, text, date, moment, guid, member, fields, items, FieldVal, absent, present, Vals}
use Rattle.edm_values.specs.declared.primitive.PrimitiveType.{PrimitiveType}
use Rattle.csdl_schema.specs.EnumerationText.{IsOfUnderlying}
use Rattle.csdl_schema.specs.ExprType.{ExprType, null_type, single, collection, SingleType, primitive, enumeration, structured}
use Rattle.csdl_schema.specs.SchemaModel.{Slots, PropertyModel, PropertyType, declared, opaque, navigation}
use Rattle.edm_entities.specs.HasType.{AllHaveType, HasPropertyType, HasType}
use Rattle.odata_signatures.specs.ExprTypes.{boolean_type, string_type}
use Rattle.odata_signatures.specs.Typed.{PropertyTyped, named_type, property_named}

module _ (slots : Slots) where
  -- ---- a type has these values

  pub null_has : (type : ExprType) → HasType slots type null
  null_has type = tt

  pub truth_has : (b : Bool) → HasType slots boolean_type (boolean b)
  truth_has b = tt

  pub number_has : (p : PrimitiveType) (n : ℤ) → IsNumberOf p n → HasType slots (single (primitive p)) (whole n)
  number_has p n is = is

  pub text_has : (t : List ℕ) → IsUtf8 t → HasType slots string_type (text t)
  text_has t is = is

  pub date_has : (d : Date) → IsFourDigitYear d.year → HasType slots (single (primitive PrimitiveType.Date)) (date d)
  date_has d is = is

  pub moment_has : (m : MomentParts) → IsMoment m.civil m.offset_minutes → HasType slots (single (primitive PrimitiveType.DateTimeOffset)) (moment m)
  moment_has m is = is

  pub guid_has : (g : List ℕ) → length g ≡ 16 → HasType slots (single (primitive PrimitiveType.Guid)) (guid g)
  guid_has g is = is

  pub member_has : (name : List ℕ) (n : ℤ) → IsOfUnderlying (slots.enumerations name) n → HasType slots (single (enumeration name)) (member n)
  member_has name n is = is

-- ---- the values that a type has are of a kind

-- the kinds of values without parts
pub data ValueKind : Type 0 where
  truths : ValueKind
  wholes : ValueKind
  texts : ValueKind
  dates : ValueKind
  moments : ValueKind
  guids : ValueKind
  members : ValueKind

-- a value of that kind, or null
abbrev pub IsOfKind : ValueKind → Val → Type 0
IsOfKind kind null = Unit {0}
IsOfKind kind (boolean b) = kind ≡ truths
IsOfKind kind (whole n) = kind ≡ wholes
IsOfKind kind (text t) = kind ≡ texts
IsOfKind kind (date d) = kind ≡ dates
IsOfKind kind (moment m) = kind ≡ moments
IsOfKind kind (guid g) = kind ≡ guids
IsOfKind kind (member n) = kind ≡ members
IsOfKind kind _ = ⊥

abbrev pub kind_of_primitive : PrimitiveType → ValueKind
kind_of_primitive PrimitiveType.Bool = truths
kind_of_primitive PrimitiveType.Byte = wholes
kind_of_primitive PrimitiveType.SByte = wholes
kind_of_primitive PrimitiveType.Int16 = wholes
kind_of_primitive PrimitiveType.Int32 = wholes
kind_of_primitive PrimitiveType.Int64 = wholes
kind_of_primitive PrimitiveType.String = texts
kind_of_primitive PrimitiveType.Date = dates
kind_of_primitive PrimitiveType.DateTimeOffset = moments
kind_of_primitive PrimitiveType.Guid = guids

module _ (slots : Slots) where
  pub primitive_kind : (p : PrimitiveType) (v : Val) → HasType slots (single (primitive p)) v → IsOfKind (kind_of_primitive p) v
  primitive_kind p null has = tt
  primitive_kind PrimitiveType.Bool (boolean b) has = refl
  primitive_kind PrimitiveType.Byte (whole n) has = refl
  primitive_kind PrimitiveType.SByte (whole n) has = refl
  primitive_kind PrimitiveType.Int16 (whole n) has = refl
  primitive_kind PrimitiveType.Int32 (whole n) has = refl
  primitive_kind PrimitiveType.Int64 (whole n) has = refl
  primitive_kind PrimitiveType.String (text t) has = refl
  primitive_kind PrimitiveType.Date (date d) has = refl
  primitive_kind PrimitiveType.DateTimeOffset (moment m) has = refl
  primitive_kind PrimitiveType.Guid (guid g) has = refl
  primitive_kind _ _ has = absurd has

  -- a text is one in UTF-8, a date and a moment are such as a literal can spell
  pub text_within : (t : List ℕ) → HasType slots (single (primitive PrimitiveType.String)) (text t) → IsUtf8 t
  text_within t has = has

  pub date_within : (d : Date) → HasType slots (single (primitive PrimitiveType.Date)) (date d) → IsFourDigitYear d.year
  date_within d has = has

  pub moment_within : (m : MomentParts) → HasType slots (single (primitive PrimitiveType.DateTimeOffset)) (moment m) → IsMoment m.civil m.offset_minutes
  moment_within m has = has

  -- a number lies within its type
  pub number_within : (p : PrimitiveType) (n : ℤ) → HasType slots (single (primitive p)) (whole n) → IsNumberOf p n
  number_within p n has = has

  pub member_kind : (name : List ℕ) (v : Val) → HasType slots (single (enumeration name)) v → IsOfKind members v
  member_kind name null has = tt
  member_kind name (member n) has = refl
  member_kind name _ has = absurd has

  pub null_value : (v : Val) → HasType slots null_type v → v ≡ null
  null_value null has = refl
  null_value _ has = absurd has

  -- a list whose members have the type, or null
  pub list_form : (type : SingleType) (v : Val) → HasType slots (collection type) v → (v ≡ null) ⊎ ((values : Vals) × (v ≡ items values) × AllHaveType slots type values)
  list_form type null has = inl refl
  list_form type (items values) has = inr (values, refl, has)
  list_form type _ has = absurd has

  held_of : (type_of : PropertyType) (type : ExprType) (held : FieldVal) → named_type type_of ≡ Some type → HasPropertyType slots type_of held
      → (v : Val) × ((held ≡ present v) × HasType slots type v)
  held_of (declared t) type (present v) named has = let same : t ≡ type = cc in (v, (refl, subst (λ (s : ExprType). HasType slots s v) same has))
  held_of (declared t) type absent named has = absurd has
  held_of opaque type held named has = absurd cc
  held_of (navigation None) type held named has = absurd cc
  held_of (navigation (Some t)) type (present v) named has = let same : t ≡ type = cc in (v, (refl, subst (λ (s : ExprType). HasType slots s v) same has))
  held_of (navigation (Some t)) type absent named has = absurd has

  -- under the name of a property that has a type a record has a value of it
  pub held_present : (asked : List ℕ) (type : ExprType) (properties : List PropertyModel) (held : List ℕ → FieldVal)
      → AllByRecursion (λ p. HasPropertyType slots p.type_of (held p.name)) properties → PropertyTyped properties asked type
      → (v : Val) × ((held asked ≡ present v) × HasType slots type v)
  held_present asked type [] held all typed = absurd typed
  held_present asked type (p ∷ more) held all typed =
      elim (pointwise nat_eq asked p.name) as (λ is_it. pointwise nat_eq asked p.name ≡ is_it
      → IsSomeAnd (cond is_it (Some p) (property_named more asked)) (λ q. named_type q.type_of ≡ Some type)
      → (v : Val) × ((held asked ≡ present v) × HasType slots type v)) [
        | true ↦ λ same is_typed.
            let named : asked ≡ p.name = (bytes_eq-Decides asked p.name).0 same in
            let there = held_of p.type_of type (held p.name) is_typed all.0 in
            (there.0, (ap held named ∙ there.1.0, there.1.1))
        | false ↦ λ other is_typed. held_present asked type more held all.1 is_typed
      ] refl typed

  -- a record, or null
  pub record_form : (name : List ℕ) (v : Val) → HasType slots (single (structured name)) v
      → (v ≡ null) ⊎ ((held : List ℕ → FieldVal) × (v ≡ fields held) × AllByRecursion (λ p. HasPropertyType slots p.type_of (held p.name)) (slots.properties name))
  record_form name null has = inl refl
  record_form name (fields held) has = inr (held, refl, has)
  record_form name _ has = absurd has
