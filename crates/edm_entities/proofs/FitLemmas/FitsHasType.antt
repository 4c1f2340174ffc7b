-- A value that fits has its type.
use Rattle.std.proofs.Common.{◌≡◌, ℕ, ℤ, zero, suc, ◌+◌, List, [], ◌∷◌, length, Bool, true, false, Option, Some, None, inl, inr, refl, sym, ap, ◌∙◌, subst, arith}
use Rattle.std.proofs.lemmas.Int.{ints}
use Rattle.std.specs.List.{AllByRecursion}
use Rattle.serde_json.specs.Data.{Data, null as json_null, boolean as json_boolean, number, string, array, object, Items, no_items as no_json, item as json_item}
use Rattle.serde_json.specs.Find.{get}
use Rattle.edm_values.specs.GuidLiteral.{GuidValue, hex_bytes}
use Rattle.edm_values.specs.MomentLiteral.{MomentValue, OffsetValue}
use Rattle.edm_values.specs.MomentParts.{IsMoment, IsOffset, MomentParts}
use Rattle.edm_values.specs.Val.{Val, fields, items, FieldVal, absent, present, Vals, no_items, item}
use Rattle.edm_values.specs.declared.primitive.PrimitiveType.{PrimitiveType}
use Rattle.edm_values.specs.declared.primitive.PrimitiveType.TheVariants.{Bool as EdmBoolean, Byte, SByte, Int16, Int32, Int64, String as EdmString, Date as EdmDate, DateTimeOffset as EdmDateTimeOffset, Guid as EdmGuid}
use Rattle.csdl_schema.specs.ExprType.{ExprType, null_type, single, collection, SingleType, primitive, enumeration, structured}
use Rattle.csdl_schema.specs.PathSet.{PathSet, below}
use Rattle.csdl_schema.specs.SchemaModel.{Slots, PropertyModel, PropertyType, declared, opaque, navigation, expanded}
use Rattle.edm_entities.specs.Fits.{takes_null, FitsFound, FitsNavigation, FitsType, FitsProperty, FitItems, Fits}
use Rattle.edm_entities.specs.FitsPrimitive.{FitsNumber, FitsPrimitive, FitsText, IsMemberText}
use Rattle.edm_entities.specs.HasType.{HasType, HasPropertyType, AllHaveType}

-- the offset of a literal is less than 24 hours
offset_within : (spelled : List ℕ) (offset : ℤ) → OffsetValue spelled offset → IsOffset offset
offset_within spelled offset (inl utc) = let none = utc.1 in omega (arith, ints, none)
offset_within spelled offset (inr (hours, minutes, h, m, inl ahead)) = let is = ahead.1 in omega (arith, ints, h, m, is)
offset_within spelled offset (inr (hours, minutes, h, m, inr behind)) = let is = behind.1 in omega (arith, ints, h, m, is)

pub moment_spelled : (s : List ℕ) (m : MomentParts) → MomentValue s m → IsMoment m.civil m.offset_minutes
moment_spelled s m value = (value.is_minutes.0, offset_within value.offset m.offset_minutes value.is_offset)

-- two digits are a byte
half_as_many : (n : ℕ) (digits : List ℕ) → length digits ≡ n + n → length (hex_bytes digits) ≡ n
half_as_many zero [] count = refl
half_as_many zero (high ∷ digits) count = absurd (omega (arith, count))
half_as_many (suc n) [] count = absurd (omega (arith, count))
half_as_many (suc n) (high ∷ []) count = absurd (omega (arith, count))
half_as_many (suc n) (high ∷ low ∷ digits) count = ap suc (half_as_many n digits (omega (arith, count)))

pub sixteen_bytes : (s bytes : List ℕ) → GuidValue s bytes → length bytes ≡ 16
sixteen_bytes s bytes value = ap length value.value ∙ half_as_many 16 value.digits value.count

number_has_type : (slots : Slots) (type : PrimitiveType) (json : Data) (v : Val) → FitsNumber type json v → HasType slots (single (primitive type)) v
number_has_type slots type json v fits = subst (HasType slots (single (primitive type))) (sym fits.3) fits.2

primitive_has_type : (slots : Slots) (type : PrimitiveType) (json : Data) (v : Val) → FitsPrimitive type json v → HasType slots (single (primitive type)) v
primitive_has_type slots EdmBoolean json v fits = subst (HasType slots (single (primitive EdmBoolean))) (sym fits.2) tt
primitive_has_type slots Byte json v fits = number_has_type slots Byte json v fits
primitive_has_type slots SByte json v fits = number_has_type slots SByte json v fits
primitive_has_type slots Int16 json v fits = number_has_type slots Int16 json v fits
primitive_has_type slots Int32 json v fits = number_has_type slots Int32 json v fits
primitive_has_type slots Int64 json v fits = number_has_type slots Int64 json v fits
primitive_has_type slots EdmString json v fits = subst (HasType slots (single (primitive EdmString))) (sym fits.2.1) fits.2.0
primitive_has_type slots EdmDate json v fits = subst (HasType slots (single (primitive EdmDate))) (sym fits.2.2) fits.2.1.0
primitive_has_type slots EdmDateTimeOffset json v fits = subst (HasType slots (single (primitive EdmDateTimeOffset))) (sym fits.2.2) (moment_spelled fits.0 fits.2.0 fits.2.1)
primitive_has_type slots EdmGuid json v fits = subst (HasType slots (single (primitive EdmGuid))) (sym fits.2.2) (sixteen_bytes fits.0 fits.2.0 fits.2.1)

member_has_type : (slots : Slots) (name : List ℕ) (json : Data) (v : Val) → FitsText (IsMemberText (slots.enumerations name)) json v → HasType slots (single (enumeration name)) v
member_has_type slots name json v fits = subst (HasType slots (single (enumeration name))) (sym fits.2.3) fits.2.2

-- what was found, null or other JSON
found_has_type : (slots : Slots) (type : ExprType) (found : Option Data) (takes : Bool) (v : Val) (P : Data → Type 0)
    → ((json : Data) → P json → HasType slots type v) → FitsFound found takes v P → HasType slots type v
found_has_type slots type None takes v P further fits = subst (HasType slots type) (sym fits.1) tt
found_has_type slots type (Some json_null) takes v P further fits = subst (HasType slots type) (sym fits.1) tt
found_has_type slots type (Some (json_boolean b)) takes v P further fits = further (json_boolean b) fits
found_has_type slots type (Some (number n)) takes v P further fits = further (number n) fits
found_has_type slots type (Some (string s)) takes v P further fits = further (string s) fits
found_has_type slots type (Some (array ds)) takes v P further fits = further (array ds) fits
found_has_type slots type (Some (object ms)) takes v P further fits = further (object ms) fits

-- and of a navigation property, which is null where it is not expanded
navigation_has_type : (slots : Slots) (type : ExprType) (needed : Bool) (found : Option Data) (takes : Bool) (v : Val) (P : Data → Type 0)
    → ((json : Data) → P json → HasType slots type v) → FitsNavigation needed found takes v P → HasType slots type v
navigation_has_type slots type true None takes v P further fits = absurd fits
navigation_has_type slots type true (Some json) takes v P further fits = found_has_type slots type (Some json) takes v P further fits
navigation_has_type slots type false found takes v P further fits = subst (HasType slots type) (sym fits) tt

each_by : (P Q : PropertyModel → Type 0) → ((p : PropertyModel) → P p → Q p) → (ps : List PropertyModel) → AllByRecursion P ps → AllByRecursion Q ps
each_by P Q by [] each = tt
each_by P Q by (p ∷ ps) each = (by p each.0, each_by P Q by ps each.1)

-- whatever is expanded in the value
mutual
  value_has_type : (slots : Slots) (expansion : PathSet) (nullable : Bool) (type : ExprType) (json : Data) (v : Val) → FitsType (expanded slots expansion) nullable type json v → HasType slots type v
  value_has_type slots expansion nullable (single (primitive type)) json v fits = primitive_has_type slots type json v fits
  value_has_type slots expansion nullable (single (enumeration name)) json v fits = member_has_type slots name json v fits
  value_has_type slots expansion nullable (single (structured name)) json (fields f) fits =
      each_by (λ p. FitsProperty (expanded slots (below expansion p.name)) p.nullable p.type_of (get p.name json) (f p.name)) (λ p. HasPropertyType slots p.type_of (f p.name))
      (λ p here. held_has_type slots (below expansion p.name) p.nullable p.type_of (get p.name json) (f p.name) here) (slots.properties name) fits.each_fits
  value_has_type slots expansion nullable (single (structured name)) json _ fits = absurd fits
  value_has_type slots expansion nullable (collection type) json (items values) fits = items_have_type slots expansion nullable type fits.0 values fits.2
  value_has_type slots expansion nullable (collection type) json _ fits = absurd fits
  value_has_type slots expansion nullable null_type json v fits = absurd fits

  pub held_has_type : (slots : Slots) (expansion : PathSet) (nullable : Bool) (type : PropertyType) (found : Option Data) (held : FieldVal) → FitsProperty (expanded slots expansion) nullable type found held → HasPropertyType slots type held
  held_has_type slots expansion nullable (declared type) found (present v) fits =
      found_has_type slots type found _ v _ (λ json here. value_has_type slots expansion nullable type json v here) fits
  held_has_type slots expansion nullable (declared type) found absent fits = absurd fits
  held_has_type slots expansion nullable opaque found held fits = tt
  held_has_type slots expansion nullable (navigation None) found held fits = tt
  held_has_type slots expansion nullable (navigation (Some type)) found (present v) fits =
      navigation_has_type slots type (expansion []) found (takes_null type nullable) v (λ json. FitsType (expanded slots expansion) false type json v)
      (λ json here. value_has_type slots expansion false type json v here) fits
  held_has_type slots expansion nullable (navigation (Some type)) found absent fits = absurd fits

  items_have_type : (slots : Slots) (expansion : PathSet) (nullable : Bool) (type : SingleType) (jsons : Items) (values : Vals) → FitItems (expanded slots expansion) nullable type jsons values → AllHaveType slots type values
  items_have_type slots expansion nullable type jsons no_items fits = tt
  items_have_type slots expansion nullable type no_json (item v values) fits = absurd fits
  items_have_type slots expansion nullable type (json_item json jsons) (item v values) fits = (
    found_has_type slots (single type) (Some json) nullable v _ (λ found here. value_has_type slots expansion nullable (single type) found v here) fits.0,
    items_have_type slots expansion nullable type jsons values fits.1,
  )

pub fits_has_type : (slots : Slots) (expansion : PathSet) (type_name : List ℕ) (json : Data) (v : Val) → Fits (expanded slots expansion) type_name json v → HasType slots (single (structured type_name)) v
fits_has_type slots expansion type_name json v fits = value_has_type slots expansion false (single (structured type_name)) json v fits
