-- Which JSON fits the types without parts, and what is wrong with other JSON (OData JSON Format 4.01, section 7.1).
use Rattle.std.specs.Prelude.{◌≡◌, ℕ, ℤ, List, Bool, Option, Some, None, option_and_then}
use Rattle.std.specs.Str.{IsUtf8}
use Rattle.serde_json.specs.Data.{Data}
use Rattle.serde_json.specs.Find.{as_bool, as_number, as_str, as_integer}
use Rattle.edm_values.specs.Civil as civil
use Rattle.edm_values.specs.DateLiteral.{DateValue}
use Rattle.edm_values.specs.GuidLiteral.{GuidValue}
use Rattle.edm_values.specs.MomentLiteral.{MomentValue}
use Rattle.edm_values.specs.MomentParts.{MomentParts}
use Rattle.edm_values.specs.NumberTypes.{IsNumberOf}
use Rattle.edm_values.specs.Val.{Val, boolean, whole, text, date, moment, guid, member}
use Rattle.edm_values.specs.declared.primitive.PrimitiveType.{PrimitiveType}
use Rattle.edm_values.specs.declared.primitive.PrimitiveType.TheVariants.{Bool as EdmBoolean, Byte, SByte, Int16, Int32, Int64, String as EdmString, Date as EdmDate, DateTimeOffset as EdmDateTimeOffset, Guid as EdmGuid}
use Rattle.edm_enumerations.specs.EnumerationModel.{EnumerationModel}
use Rattle.csdl_schema.specs.EnumerationText.{IsValueIn, IsOfUnderlying}

-- the whole number as which a JSON number is held; none for a fraction (1.0 and 1e0 too) and for JSON of another kind
abbrev pub whole_number : Data → Option ℤ
whole_number json = option_and_then as_integer (as_number json)

-- Boolean: true and false
abbrev pub FitsBoolean : Data → Val → Type 0
FitsBoolean json value = (b : Bool) × (as_bool json ≡ Some b) × (value ≡ boolean b)

-- a number: a whole number within the type
abbrev pub FitsNumber : PrimitiveType → Data → Val → Type 0
FitsNumber type json value = (n : ℤ) × (whole_number json ≡ Some n) × IsNumberOf type n × (value ≡ whole n)

-- what texts of a type stand for
abbrev pub TextMeaning : Type 1
TextMeaning = List ℕ → Val → Type 0

-- a String stands for itself, a text of the other three types for the value of the literal that it spells; a text of
-- JSON is one in UTF-8
abbrev pub IsTextValue : PrimitiveType → TextMeaning
IsTextValue EdmString s value = IsUtf8 s × (value ≡ text s)
IsTextValue EdmDate s value = (d : civil.Date) × DateValue s d × (value ≡ date d)
IsTextValue EdmDateTimeOffset s value = (m : MomentParts) × MomentValue s m × (value ≡ moment m)
IsTextValue EdmGuid s value = (g : List ℕ) × GuidValue s g × (value ≡ guid g)
IsTextValue _ s value = ⊥

-- in an enumeration: the number that stands between the quotes of a literal, within the underlying type
abbrev pub IsMemberText : Option EnumerationModel → TextMeaning
IsMemberText e s value = (n : ℤ) × IsValueIn e s n × IsOfUnderlying e n × (value ≡ member n)

-- a text, and what it stands for
abbrev pub FitsText : TextMeaning → Data → Val → Type 0
FitsText IsText json value = (s : List ℕ) × (as_str json ≡ Some s) × IsText s value

-- the rows of the primitive types; JSON null fits none of them
abbrev pub FitsPrimitive : PrimitiveType → Data → Val → Type 0
FitsPrimitive EdmBoolean json value = FitsBoolean json value
FitsPrimitive Byte json value = FitsNumber Byte json value
FitsPrimitive SByte json value = FitsNumber SByte json value
FitsPrimitive Int16 json value = FitsNumber Int16 json value
FitsPrimitive Int32 json value = FitsNumber Int32 json value
FitsPrimitive Int64 json value = FitsNumber Int64 json value
FitsPrimitive EdmString json value = FitsText (IsTextValue EdmString) json value
FitsPrimitive EdmDate json value = FitsText (IsTextValue EdmDate) json value
FitsPrimitive EdmDateTimeOffset json value = FitsText (IsTextValue EdmDateTimeOffset) json value
FitsPrimitive EdmGuid json value = FitsText (IsTextValue EdmGuid) json value

-- ---- what is wrong

-- what may be wrong with a value
pub data Flaw : Type 0 where
  missing : Flaw
  wrong_kind : Flaw
  null_not_allowed : Flaw
  out_of_range : Flaw
  bad_text : Flaw
  not_expanded : Flaw

-- P, at the flaw that JSON of another kind than expected has
abbrev pub OnWrongKind : Flaw → Type 0 → Type 0
OnWrongKind wrong_kind P = P
OnWrongKind flaw P = ⊥

-- a number type: no whole number, or one that is outside the type
abbrev pub IsNumberFlaw : PrimitiveType → Data → Flaw → Type 0
IsNumberFlaw type json wrong_kind = whole_number json ≡ None
IsNumberFlaw type json out_of_range = (n : ℤ) × (whole_number json ≡ Some n) × (¬ (IsNumberOf type n))
IsNumberFlaw type json flaw = ⊥

-- a type of texts: no text, or one that stands for nothing
abbrev pub IsTextFlaw : TextMeaning → Data → Flaw → Type 0
IsTextFlaw IsText json wrong_kind = as_str json ≡ None
IsTextFlaw IsText json bad_text = (s : List ℕ) × (as_str json ≡ Some s) × ((value : Val) → ¬ (IsText s value))
IsTextFlaw IsText json flaw = ⊥

-- what is wrong with JSON where a primitive type is expected
abbrev pub IsPrimitiveFlaw : PrimitiveType → Data → Flaw → Type 0
IsPrimitiveFlaw EdmBoolean json flaw = OnWrongKind flaw (as_bool json ≡ None)
IsPrimitiveFlaw Byte json flaw = IsNumberFlaw Byte json flaw
IsPrimitiveFlaw SByte json flaw = IsNumberFlaw SByte json flaw
IsPrimitiveFlaw Int16 json flaw = IsNumberFlaw Int16 json flaw
IsPrimitiveFlaw Int32 json flaw = IsNumberFlaw Int32 json flaw
IsPrimitiveFlaw Int64 json flaw = IsNumberFlaw Int64 json flaw
IsPrimitiveFlaw EdmString json flaw = IsTextFlaw (IsTextValue EdmString) json flaw
IsPrimitiveFlaw EdmDate json flaw = IsTextFlaw (IsTextValue EdmDate) json flaw
IsPrimitiveFlaw EdmDateTimeOffset json flaw = IsTextFlaw (IsTextValue EdmDateTimeOffset) json flaw
IsPrimitiveFlaw EdmGuid json flaw = IsTextFlaw (IsTextValue EdmGuid) json flaw
