-- The rows of the primitive types, by classes of types.
use Rattle.std.proofs.Common.{◌≡◌, ℤ, Some, None, String, Global, string_bytes, refl, rules}
use Rattle.serde_json.specs.Data.{Data}
use Rattle.edm_values.specs.Civil.{Date as CivilDate}
use Rattle.edm_values.specs.MomentParts.{MomentParts}
use Rattle.edm_values.specs.Val.{date, moment, member, text}
use Rattle.edm_values.specs.declared.primitive.PrimitiveType.{PrimitiveType}
use Rattle.edm_values.specs.declared.primitive.PrimitiveType.TheVariants.{Bool as EdmBoolean, Byte, SByte, Int16, Int32, Int64, String as EdmString, Date as EdmDate, DateTimeOffset as EdmDateTimeOffset, Guid as EdmGuid}
use Rattle.edm_values.specs.declared.value.Value.{Text, Date, Moment, Enum, the_lemmas}
use Rattle.csdl_schema.specs.ExprType.{ExprType}
use Rattle.csdl_schema.specs.SchemaModel.{Slots}
use Rattle.edm_entities.specs.FitsPrimitive.{IsPrimitiveFlaw, wrong_kind}
use Rattle.edm_entities.specs.Row.{val_of}
use Rattle.edm_entities.specs.private.Scalars.{IsScalar}
use Rattle.edm_entities.specs.declared.scalar.Scalar.TheVariants.{Other}

-- what is no truth value, number or text is of no primitive type's kind
pub other_flaw : (type : PrimitiveType) (json : Data) → IsScalar Other json → IsPrimitiveFlaw type json wrong_kind
other_flaw EdmBoolean json is = is.0
other_flaw Byte json is = rw is.1 refl
other_flaw SByte json is = rw is.1 refl
other_flaw Int16 json is = rw is.1 refl
other_flaw Int32 json is = rw is.1 refl
other_flaw Int64 json is = rw is.1 refl
other_flaw EdmString json is = is.2
other_flaw EdmDate json is = is.2
other_flaw EdmDateTimeOffset json is = is.2
other_flaw EdmGuid json is = is.2

pub val_of-Text : (slots : Slots) (type : ExprType) (s : String Global) → val_of (Text s) slots.properties type ≡ text (string_bytes s)
val_of-Text slots type s = search (rules, the_lemmas)

pub val_of-Date : (slots : Slots) (type : ExprType) (d : CivilDate) → val_of (Date d) slots.properties type ≡ date d
val_of-Date slots type d = search (rules, the_lemmas)

pub val_of-Moment : (slots : Slots) (type : ExprType) (m : MomentParts) → val_of (Moment m) slots.properties type ≡ moment m
val_of-Moment slots type m = search (rules, the_lemmas)

pub val_of-Enum : (slots : Slots) (type : ExprType) (n : ℤ) → val_of (Enum n) slots.properties type ≡ member n
val_of-Enum slots type n = search (rules, the_lemmas)

-- nothing is not something
pub none_some : {X : Type 0} {x : X} → None ≡ Some x → ⊥
none_some is = cc
