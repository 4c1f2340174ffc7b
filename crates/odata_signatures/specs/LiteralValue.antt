-- The value and the type of a literal (OData ABNF Construction Rules 4.01, section 7).
use Rattle.std.specs.Prelude.{◌≡◌, ◌≢◌, ℕ, ℤ, List, [], ◌∷◌, ◌++◌, Bool, true, false, Some, IsTrue, IsUtf8, codes}
use Rattle.std.specs.List.{AllByRecursion}
use Rattle.std.specs.Str.{str_eq_ignore_ascii_case}
use Rattle.edm_values.specs.Civil as civil
use Rattle.edm_values.specs.DateLiteral.{DateValue}
use Rattle.edm_values.specs.GuidLiteral.{GuidValue}
use Rattle.edm_values.specs.IntLiteral.{IntValue}
use Rattle.edm_values.specs.MomentLiteral.{MomentValue}
use Rattle.edm_values.specs.MomentParts.{MomentParts}
use Rattle.edm_values.specs.NumberTypes.{IsIntLiteralType}
use Rattle.edm_values.specs.StringLiteral.{StringValue, quote}
use Rattle.edm_values.specs.Val.{Val, null, boolean, whole, date, moment, guid, member}
use Rattle.edm_values.specs.Val as val
use Rattle.edm_values.specs.declared.primitive.PrimitiveType.{PrimitiveType}
use Rattle.odata_syntax.specs.declared.node.LiteralKind.{LiteralKind}
use Rattle.csdl_schema.specs.EnumerationText.{IsValueIn, IsOfUnderlying}
use Rattle.csdl_schema.specs.ExprType.{ExprType, null_type, single, primitive, enumeration}
use Rattle.csdl_schema.specs.SchemaModel.{Slots}
use Rattle.odata_signatures.specs.ExprTypes.{boolean_type, string_type}

-- the words of the two truth values, read in any ASCII case
abbrev pub truth_word : Bool → List ℕ
truth_word true = codes "true"
truth_word false = codes "false"

abbrev pub BooleanValue : List ℕ → Bool → Type 0
BooleanValue spelling b = IsTrue (str_eq_ignore_ascii_case spelling (truth_word b))

-- the text that a String literal spells: its characters in UTF-8
abbrev pub TextValue : List ℕ → List ℕ → Type 0
TextValue spelling bytes = StringValue spelling bytes × IsUtf8 bytes

-- an enumeration literal is a name, a quote, a text and a quote; the name holds no quote
pub record IsNameAndText (spelling asked inner : List ℕ) : Type 0 where
  pub spelled : spelling ≡ asked ++ (quote ∷ inner ++ quote ∷ [])
  pub unquoted : AllByRecursion (λ b. b ≢ quote) asked

-- the name goes for the enumeration of that qualified name, in which the text stands for the number
pub record NamesNumber (slots : Slots) (asked inner qualified : List ℕ) (n : ℤ) : Type 0 where
  pub named : slots.enumeration_names asked ≡ Some qualified
  pub value : IsValueIn (slots.enumerations qualified) inner n
  pub within : IsOfUnderlying (slots.enumerations qualified) n

-- the literal's name and text do so
pub record EnumerationLiteral (slots : Slots) (spelling qualified : List ℕ) (n : ℤ) : Type 0 where
  pub asked : List ℕ
  pub inner : List ℕ
  pub split : IsNameAndText spelling asked inner
  pub names : NamesNumber slots asked inner qualified n

-- what a literal of this kind and spelling stands for
abbrev pub LiteralValue : Slots → LiteralKind → List ℕ → Val → Type 0
LiteralValue slots LiteralKind.Null spelling null = Unit {0}
LiteralValue slots LiteralKind.Bool spelling (boolean b) = BooleanValue spelling b
LiteralValue slots LiteralKind.Int spelling (whole n) = IntValue spelling n
LiteralValue slots LiteralKind.Date spelling (date d) = DateValue spelling d
LiteralValue slots LiteralKind.Moment spelling (moment m) = MomentValue spelling m
LiteralValue slots LiteralKind.Guid spelling (guid bytes) = GuidValue spelling bytes
LiteralValue slots LiteralKind.Str spelling (val.text bytes) = TextValue spelling bytes
LiteralValue slots LiteralKind.EnumLit spelling (member n) =
    (qualified : List ℕ) × EnumerationLiteral slots spelling qualified n
LiteralValue slots _ spelling _ = ⊥

-- the type of a whole number, Edm.Int32 or Edm.Int64
abbrev pub IntTyped : ℤ → ExprType → Type 0
IntTyped n type = (p : PrimitiveType) × IsIntLiteralType n p × (type ≡ single (primitive p))

-- the type of a literal that has a value
abbrev pub LiteralTyped : Slots → LiteralKind → List ℕ → ExprType → Type 0
LiteralTyped slots LiteralKind.Null spelling type = type ≡ null_type
LiteralTyped slots LiteralKind.Bool spelling type = (b : Bool) × BooleanValue spelling b × (type ≡ boolean_type)
LiteralTyped slots LiteralKind.Int spelling type = (n : ℤ) × IntValue spelling n × IntTyped n type
LiteralTyped slots LiteralKind.Date spelling type =
    (d : civil.Date) × DateValue spelling d × (type ≡ single (primitive PrimitiveType.Date))
LiteralTyped slots LiteralKind.Moment spelling type =
    (m : MomentParts) × MomentValue spelling m × (type ≡ single (primitive PrimitiveType.DateTimeOffset))
LiteralTyped slots LiteralKind.Guid spelling type =
    (bytes : List ℕ) × GuidValue spelling bytes × (type ≡ single (primitive PrimitiveType.Guid))
LiteralTyped slots LiteralKind.Str spelling type =
    (bytes : List ℕ) × TextValue spelling bytes × (type ≡ string_type)
LiteralTyped slots LiteralKind.EnumLit spelling type =
    (qualified : List ℕ) × (n : ℤ) × EnumerationLiteral slots spelling qualified n
    × (type ≡ single (enumeration qualified))
