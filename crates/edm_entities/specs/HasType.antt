-- Which values a type has (CSDL JSON 4.01, sections 3.3, 6, 7, 9 and 10).
use Rattle.std.specs.Prelude.{◌≡◌, Some, None, length}
use Rattle.std.specs.List.{AllByRecursion}
use Rattle.std.specs.Str.{IsUtf8}
use Rattle.edm_values.specs.MomentParts.{IsFourDigitYear, IsMoment}
use Rattle.edm_values.specs.Val.{Val, null, boolean, whole, text, date, moment, guid, member, fields, items, FieldVal, absent, present, Vals, no_items, item}
use Rattle.edm_values.specs.declared.primitive.PrimitiveType.{PrimitiveType}
use Rattle.edm_values.specs.declared.primitive.PrimitiveType.TheVariants.{Bool as EdmBoolean, String as EdmString, Date as EdmDate, DateTimeOffset as EdmDateTimeOffset, Guid as EdmGuid}
use Rattle.csdl_schema.specs.EnumerationText.{IsOfUnderlying}
use Rattle.csdl_schema.specs.ExprType.{ExprType, single, collection, SingleType, primitive, enumeration, structured}
use Rattle.csdl_schema.specs.SchemaModel.{Slots, PropertyType, declared, opaque, navigation}
use Rattle.edm_values.specs.NumberTypes.{IsNumberOf}

-- a value of a primitive type: a number within its range, a text in UTF-8, a date or a moment that a literal can spell,
-- the sixteen bytes of a Guid
abbrev pub IsPrimitiveValue : Val → PrimitiveType → Type 0
IsPrimitiveValue (boolean b) EdmBoolean = Unit {0}
IsPrimitiveValue (whole n) type = IsNumberOf type n
IsPrimitiveValue (text s) EdmString = IsUtf8 s
IsPrimitiveValue (date d) EdmDate = IsFourDigitYear d.year
IsPrimitiveValue (moment m) EdmDateTimeOffset = IsMoment m.civil m.offset_minutes
IsPrimitiveValue (guid g) EdmGuid = length g ≡ 16
IsPrimitiveValue _ type = ⊥

abbrev mutual
  -- null has every type; a record gives each property that expressions see a value of that property's type; a list's
  -- items have the member type. Null alone has the type of null
  pub HasType : Slots → ExprType → Val → Type 0
  HasType slots type null = Unit {0}
  HasType slots (single (structured name)) (fields f) =
      AllByRecursion (λ p. HasPropertyType slots p.type_of (f p.name)) (slots.properties name)
  HasType slots (collection type) (items values) = AllHaveType slots type values
  HasType slots (single (enumeration name)) (member n) = IsOfUnderlying (slots.enumerations name) n
  HasType slots (single (primitive type)) value = IsPrimitiveValue value type
  HasType slots type value = ⊥

  -- what a record has under the name of a property of that type: that of a navigation property which is not expanded is
  -- null, which has the target's type as any other
  pub HasPropertyType : Slots → PropertyType → FieldVal → Type 0
  HasPropertyType slots (declared type) (present value) = HasType slots type value
  HasPropertyType slots (declared type) absent = ⊥
  HasPropertyType slots opaque held = Unit {0}
  HasPropertyType slots (navigation None) held = Unit {0}
  HasPropertyType slots (navigation (Some type)) (present value) = HasType slots type value
  HasPropertyType slots (navigation (Some type)) absent = ⊥

  -- each item is of that type
  pub AllHaveType : Slots → SingleType → Vals → Type 0
  AllHaveType slots type no_items = Unit {0}
  AllHaveType slots type (item value values) = HasType slots (single type) value × AllHaveType slots type values
