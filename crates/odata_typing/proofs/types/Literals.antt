-- Literals that have been read have their value and their type.
use Rattle.odata_typing.proofs.Common.{◌≡◌, refl, ap, subst, ℕ, ℤ, Bool, List, Option, Some, None, sym, ◌∙◌, none-some, ExprType, SchemaModel, Slots}
use Rattle.std.proofs.Common.{w64, to_z, of_z}
use Rattle.std.proofs.Math.Facts.{to_z-of_z}
use Rattle.std.proofs.lemmas.Str.{IsUtf8-string_bytes}
use Rattle.std.specs.Prelude.{IsUtf8, string_bytes}
use Rattle.edm_values.specs.IntLiteral.{IntValue}
use Rattle.edm_values.specs.NumberTypes.{IsIntLiteralType}
use Rattle.edm_values.specs.StringLiteral.{StringValue}
use Rattle.edm_values.specs.Civil as civil
use Rattle.edm_values.specs.DateLiteral.{DateValue}
use Rattle.edm_values.specs.GuidLiteral.{GuidValue}
use Rattle.edm_values.specs.MomentLiteral.{MomentValue}
use Rattle.edm_values.specs.MomentParts.{MomentParts}
use Rattle.edm_values.specs.Val.{boolean, date, guid, moment, null, whole}
use Rattle.edm_values.specs.Val as val
use Rattle.edm_values.specs.declared.primitive.PrimitiveType.{PrimitiveType}
use Rattle.edm_values.specs.declared.value.Value as code
use Rattle.edm_values.specs.declared.value.Value.{Value}
use Rattle.odata_syntax.specs.declared.node.LiteralKind.{LiteralKind}
use Rattle.odata_signatures.specs.declared.edm_type.EdmType.{EdmType}
use Rattle.odata_signatures.specs.declared.edm_type.ValueType.{ValueType}
use Rattle.odata_signatures.specs.LiteralValue.{BooleanValue, LiteralTyped}
use Rattle.odata_typing.specs.private.Answer.{IsReading}

-- one value of a primitive type
abbrev pub plain : PrimitiveType → EdmType
plain p = EdmType.Single (ValueType.Prim p)

pub reads_truth : (schema : SchemaModel) (spelling : List ℕ) (b : Bool) → BooleanValue spelling b → IsReading schema LiteralKind.Bool spelling (code.Bool b) (plain PrimitiveType.Bool)
reads_truth schema spelling b value = record { value_of = record { val = boolean b; plain = refl; value_of = value }; typed = (b, value, refl) }

-- the code holds the number in 64 bits
pub reads_int :
    (schema : SchemaModel) (spelling : List ℕ) (n : ℤ) (p : PrimitiveType)
    → IntValue spelling n
    → IsIntLiteralType (to_z w64 (of_z w64 n)) p
    → IsReading schema LiteralKind.Int spelling (code.Int (to_z w64 (of_z w64 n))) (plain p)
reads_int schema spelling n p value typed =
    let same = to_z-of_z {w = w64} {z = n} value.1 in
    let right = rw same at typed in
    rw same (record { value_of = record { val = whole n; plain = refl; value_of = value }; typed = (n, value, (p, right, refl)) })

pub reads_text :
    (schema : SchemaModel) (spelling bytes : List ℕ) (text : _) → string_bytes text ≡ bytes → StringValue spelling bytes → IsReading schema LiteralKind.Str spelling (code.Text text) (plain PrimitiveType.String)
reads_text schema spelling bytes text same value =
    let utf8 : IsUtf8 bytes = subst IsUtf8 same (IsUtf8-string_bytes text) in
    record {
      value_of = record { val = val.text bytes; plain = ap (λ (b : List ℕ). Some (val.text b)) same; value_of = (value, utf8) };
      typed = (bytes, (value, utf8), refl);
    }

pub reads_null : (schema : SchemaModel) (spelling : List ℕ) → IsReading schema LiteralKind.Null spelling code.Null EdmType.Null
reads_null schema spelling = record { value_of = record { val = null; plain = refl; value_of = tt }; typed = refl }

pub reads_date : (schema : SchemaModel) (spelling : List ℕ) (d : civil.Date) → DateValue spelling d → IsReading schema LiteralKind.Date spelling (code.Date d) (plain PrimitiveType.Date)
reads_date schema spelling d value = record { value_of = record { val = date d; plain = refl; value_of = value }; typed = (d, value, refl) }

pub reads_moment : (schema : SchemaModel) (spelling : List ℕ) (m : MomentParts) → MomentValue spelling m → IsReading schema LiteralKind.Moment spelling (code.Moment m) (plain PrimitiveType.DateTimeOffset)
reads_moment schema spelling m value = record { value_of = record { val = moment m; plain = refl; value_of = value }; typed = (m, value, refl) }

pub reads_guid : (schema : SchemaModel) (spelling bytes : List ℕ) → GuidValue spelling bytes → IsReading schema LiteralKind.Guid spelling (code.Guid bytes) (plain PrimitiveType.Guid)
reads_guid schema spelling bytes value = record { value_of = record { val = guid bytes; plain = refl; value_of = value }; typed = (bytes, value, refl) }

-- what is known of a value and its type is known of equal ones
pub reads_as :
    (schema : SchemaModel) (kind other : LiteralKind) (spelling : List ℕ) (value given : Value) (type made : EdmType)
    → kind ≡ other
    → value ≡ given
    → type ≡ made
    → IsReading schema other spelling given made
    → IsReading schema kind spelling value type
reads_as schema kind other spelling value given type made is of by reading = rw (is, of, by) reading

-- a spelling without a value is of no type
pub no_value :
    {X : Type 0} (slots : Slots) (kind other : LiteralKind) (spelling : List ℕ) (found : Option X)
    → kind ≡ other
    → ((type : ExprType) → LiteralTyped slots other spelling type → (x : X) × (found ≡ Some x))
    → found ≡ None
    → (type : ExprType) → ¬ LiteralTyped slots kind spelling type
no_value slots kind other spelling found is has none type typed =
    let value = has type (subst (λ (k : LiteralKind). LiteralTyped slots k spelling type) is typed) in none-some value.0 (sym none ∙ value.1)
