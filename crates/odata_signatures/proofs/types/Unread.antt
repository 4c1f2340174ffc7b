-- Operands that are not read go by their types.
use Rattle.std.proofs.Common.{inl, inr, ℕ, List, Option, Some, None}
use Rattle.csdl_schema.specs.ExprType.{ExprType, single, enumeration}
use Rattle.csdl_schema.specs.SchemaModel.{Slots}
use Rattle.odata_syntax.specs.declared.binary_operator.ComparisonOperator.{ComparisonOperator}
use Rattle.odata_syntax.specs.declared.binary_operator.BinaryOperator.{BinaryOperator}
use Rattle.odata_signatures.specs.OperatorTyped.{OfOneSide}
use Rattle.odata_signatures.specs.QuotedNumber.{HasNumber, IsResolvedBy}
use Rattle.odata_signatures.specs.Side.{Side}
use Rattle.odata_signatures.specs.Unread.{FlagsByTypes, ItemsByTypes, OperandsByTypes, TextsApart}

is_read : (slots : Slots) (type : ExprType) (quoted : Option (List ℕ)) → HasNumber slots type quoted → IsResolvedBy type quoted
is_read slots (single (enumeration name)) (Some spelling) has = tt
is_read slots (single (enumeration name)) None has = absurd has.1
is_read slots _ quoted has = absurd has.1

one_is_read : (slots : Slots) (operator : BinaryOperator) (left right : Side) → OfOneSide (HasNumber slots) operator left right
    → OfOneSide IsResolvedBy operator left right
one_is_read slots operator left right has = (
  has.0,
  elim has.1 [ inl n ↦ inl (is_read slots left.type_of right.quoted n) | inr n ↦ inr (is_read slots right.type_of left.quoted n) ],
)

pub operands_by_types : OperandsByTypes
operands_by_types slots operator left right type unread = (
  λ typed. elim typed [ inl plain ↦ plain | inr read ↦ absurd (unread (one_is_read slots operator left right read.0)) ],
  λ plain. inl plain,
)

pub flags_by_types : FlagsByTypes
flags_by_types slots left right type unread = (
  λ typed. (elim typed.0 [ inl plain ↦ plain | inr has ↦ absurd (unread (is_read slots left.type_of right.quoted has)) ], typed.1),
  λ plain. (inl plain.0, plain.1),
)

pub items_by_types : ItemsByTypes
items_by_types slots left item unread = (
  λ beside. elim beside [ inl plain ↦ plain | inr has ↦ absurd (unread (is_read slots left item.quoted has)) ],
  λ plain. inl plain,
)

pub texts_apart : TextsApart
texts_apart ComparisonOperator.Eq name = (λ x. x, λ x. x, λ x. x)
texts_apart ComparisonOperator.Ne name = (λ x. x, λ x. x, λ x. x)
texts_apart ComparisonOperator.Gt name = (λ x. x.0, λ x. x.0, λ x. x)
texts_apart ComparisonOperator.Ge name = (λ x. x.0, λ x. x.0, λ x. x)
texts_apart ComparisonOperator.Lt name = (λ x. x.0, λ x. x.0, λ x. x)
texts_apart ComparisonOperator.Le name = (λ x. x.0, λ x. x.0, λ x. x)
