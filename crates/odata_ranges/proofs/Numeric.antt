-- Arithmetic is in a number type, or in that of null.
use Rattle.odata_ranges.proofs.Common.{◌≡◌, inl, inr, ℕ, Bool, true, false, cond, ◌||◌, Option, Some, None, slice_get, subst, IfSome, IsNumberType, PrimitiveType, Int16, Int32, Int64, ExprType, SchemaModel, is_int32, is_int64, negation_type, promotion, wider_type, number_or_null, OperatorByTypes, IsEquality, expr_type, EdmType, ValueType, BinaryOperator, Arithmetic, ComparisonOperator, binary, negation, node, Filter, IsFilter, CheckedNode, NodeKind, IsNumericIn, IsNumeric}
use Rattle.odata_ranges.proofs.Layouts.{by_node, type_there}

chosen : (a b : Bool) → IsNumberType (cond a Int64 (cond b Int32 Int16))
chosen true b = tt
chosen false true = tt
chosen false false = tt

wider_number : (left right : Option PrimitiveType) → IsNumberType (wider_type left right)
wider_number left right = chosen (is_int64 left || is_int64 right) (is_int32 left || is_int32 right)

pub promoted : (left right : Option PrimitiveType) → IfSome (promotion left right) IsNumberType
promoted None None = tt
promoted left right = wider_number left right

pub negated : (number : Option PrimitiveType) → IfSome (negation_type number) IsNumberType
negated None = tt
negated (Some p) = promoted (Some p) (Some Int16)

numeric : (schema : SchemaModel) (type : EdmType) (number : Option PrimitiveType) → IfSome number IsNumberType → expr_type schema type ≡ number_or_null number → IsNumeric type
numeric schema EdmType.Null number is same = tt
numeric schema (EdmType.Single (ValueType.Prim p)) None is same = absurd (cc)
numeric schema (EdmType.Single (ValueType.Prim p)) (Some q) is same = let number : q ≡ p = cc in subst IsNumberType number is
numeric schema (EdmType.Collection s) None is same = absurd (cc)
numeric schema _ (Some q) is same = absurd (cc)
numeric schema (EdmType.Single _) None is same = absurd (cc)

class_numeric : (schema : SchemaModel) (type : EdmType) (class : BinaryOperator) (left right : ExprType) → OperatorByTypes class left right (expr_type schema type) → IsNumericIn class type
class_numeric schema type (Arithmetic arithmetic) left right typed = numeric schema type _ (promoted typed.left_number typed.right_number) typed.type_is
class_numeric schema type _ left right typed = tt

equality_numeric : (type : EdmType) (operator : BinaryOperator) → IsEquality operator → IsNumericIn operator type
equality_numeric type (BinaryOperator.Comparison ComparisonOperator.Eq) is = tt
equality_numeric type (BinaryOperator.Comparison ComparisonOperator.Ne) is = tt
equality_numeric type _ is = absurd is

module _ (filter : Filter) (is : IsFilter filter) (place : ℕ) (found : CheckedNode) (at : slice_get filter.list.nodes place ≡ Some found) where
  pub negation_numeric : found.kind ≡ NodeKind.Neg → IsNumeric found.edm_type
  negation_numeric kind_is = by_node filter is place found at NodeKind.Neg kind_is (IsNumeric found.edm_type)
      (λ scope operand s from to stands.
      let typed = type_there filter scope place found at s (node from to (negation operand)) stands in
      numeric filter.schema found.edm_type _ (negated typed.makes.number) typed.makes.type_is)

  pub operator_numeric : (operator : BinaryOperator) → found.kind ≡ NodeKind.Binary operator → IsNumericIn operator found.edm_type
  operator_numeric operator kind_is = by_node filter is place found at (NodeKind.Binary operator) kind_is (IsNumericIn operator found.edm_type)
      (λ scope left right s from to stands.
      let typed = type_there filter scope place found at s (node from to (binary operator left right)) stands in
      elim typed.makes [
        | inl by_class ↦ class_numeric filter.schema found.edm_type operator _ _ by_class
        | inr one ↦ equality_numeric found.edm_type operator one.0.0
      ])
