-- Operands of arithmetic lie within the type in which they are computed.
use Rattle.std.proofs.Common.{refl, sym, subst, Option, Some, None}
use Rattle.std.specs.Prelude.{IfSome}
use Rattle.edm_values.specs.NumberTypes.{IsNumberOf, IsNumberType}
use Rattle.edm_values.specs.Val.{Val, null, whole, fields, items}
use Rattle.edm_values.specs.declared.primitive.PrimitiveType.{PrimitiveType}
use Rattle.csdl_schema.specs.ExprType.{ExprType, null_type, single, primitive}
use Rattle.csdl_schema.specs.SchemaModel.{Slots}
use Rattle.edm_entities.specs.HasType.{HasType}
use Rattle.odata_functions.specs.Promotion.{negation_type, promotion, wider_type}
use Rattle.odata_signatures.specs.ExprTypes.{IsNumberOrNull, number_or_null}
use Rattle.odata_signatures.specs.OperatorTyped.{ArithmeticTyped, NegationTyped}
use Rattle.odata_filter_operations.specs.Operators.{AreNumbers, IsOneNumber}
use Rattle.odata_meaning.proofs.meaning.Kinds.{number_kind}
use Rattle.odata_meaning.specs.private.LawsBelow.{Promotes}
use Rattle.odata_meaning.proofs.meaning.TypeValues.{IsOfKind, ValueKind, null_value, number_within, primitive_kind, wholes}

-- a number of that type, or null
abbrev pub IsNumberIn : Option PrimitiveType → Val → Type 0
IsNumberIn number null = Unit {0}
IsNumberIn (Some p) (whole n) = IsNumberOf p n
IsNumberIn number _ = ⊥

-- the number type of an operand, if it has one, is one of numbers
pub are_numbers : (type : ExprType) (number : Option PrimitiveType) → IsNumberOrNull type number → IfSome number IsNumberType
are_numbers null_type number is = rw is tt
are_numbers (single (primitive p)) number is = rw is.1 is.0
are_numbers _ number is = absurd is

-- a value of that kind is a number
wholes_in : (slots : Slots) (p : PrimitiveType) (v : Val) → IsOfKind wholes v → HasType slots (single (primitive p)) v → IsNumberIn (Some p) v
wholes_in slots p null is has = tt
wholes_in slots p (whole n) is has = number_within slots p n has
wholes_in slots p (fields held) is has = absurd is
wholes_in slots p (items vs) is has = absurd is
wholes_in slots p _ is has = absurd (cc)

primitive_number : (slots : Slots) (p : PrimitiveType) (v : Val) → IsNumberType p → HasType slots (single (primitive p)) v → IsNumberIn (Some p) v
primitive_number slots p v is has =
    wholes_in slots p v (subst (λ (kind : ValueKind). IsOfKind kind v) (number_kind p is) (primitive_kind slots p v has)) has

null_number : (slots : Slots) (v : Val) → HasType slots null_type v → IsNumberIn None v
null_number slots v has = rw (null_value slots v has) tt

pub number_in : (slots : Slots) (type : ExprType) (number : Option PrimitiveType) (v : Val) → IsNumberOrNull type number → HasType slots type v → IsNumberIn number v
number_in slots null_type number v is has = rw is (null_number slots v has)
number_in slots (single (primitive p)) number v is has = rw is.1 (primitive_number slots p v is.0 has)
number_in slots _ number v is has = absurd is

module _ (laws : Promotes) where
  -- two operands, in the type to which theirs are promoted
  both_numbers : (left right : Option PrimitiveType) (l r : Val) → IfSome left IsNumberType → IfSome right IsNumberType
      → IsNumberIn left l → IsNumberIn right r → AreNumbers (number_or_null (promotion left right)) l r
  both_numbers left right null null p q of_l of_r = tt
  both_numbers left (Some q') null (whole b) p q of_l of_r = tt
  both_numbers (Some p') right (whole a) null p q of_l of_r = tt
  both_numbers (Some p') (Some q') (whole a) (whole b) p q of_l of_r = (
    laws.three (Some p') (Some q') (wider_type (Some p') (Some q')) refl,
    laws.left p' (wider_type (Some p') (Some q')) (Some q') a p q refl of_l,
    laws.right (Some p') q' (wider_type (Some p') (Some q')) b p q refl of_r,
  )
  both_numbers None right (whole a) r p q of_l of_r = absurd of_l
  both_numbers (Some p') None (whole a) (whole b) p q of_l of_r = absurd of_r
  both_numbers left None null (whole b) p q of_l of_r = absurd of_r
  both_numbers left right null _ p q of_l of_r = absurd of_r
  both_numbers left right (whole a) _ p q of_l of_r = absurd of_r
  both_numbers left right _ r p q of_l of_r = absurd of_l

  pub calculated_values : (slots : Slots) (left right type : ExprType) (l r : Val) → ArithmeticTyped left right type
      → HasType slots left l → HasType slots right r → AreNumbers type l r
  calculated_values slots left right type l r typed of_l of_r =
      subst (λ (t : ExprType). AreNumbers t l r) (sym typed.type_is)
      (both_numbers typed.left_number typed.right_number l r
      (are_numbers left typed.left_number typed.left_is) (are_numbers right typed.right_number typed.right_is)
      (number_in slots left typed.left_number l typed.left_is of_l) (number_in slots right typed.right_number r typed.right_is of_r))

  one_number : (number : Option PrimitiveType) (v : Val) → IfSome number IsNumberType → IsNumberIn number v → IsOneNumber (number_or_null (negation_type number)) v
  one_number number null p of_v = tt
  one_number (Some p') (whole a) p of_v = (
    laws.three (Some p') (Some PrimitiveType.Int16) (wider_type (Some p') (Some PrimitiveType.Int16)) refl,
    laws.negation p' (wider_type (Some p') (Some PrimitiveType.Int16)) a p refl of_v,
  )
  one_number None (whole a) p of_v = absurd of_v
  one_number number _ p of_v = absurd of_v

  pub negated_value : (slots : Slots) (operand type : ExprType) (v : Val) → NegationTyped operand type → HasType slots operand v → IsOneNumber type v
  negated_value slots operand type v typed of_v =
      subst (λ (t : ExprType). IsOneNumber t v) (sym typed.type_is)
      (one_number typed.number v (are_numbers operand typed.number typed.operand_is) (number_in slots operand typed.number v typed.operand_is of_v))
