-- Operands that are not read have one reason.
use Rattle.std.proofs.Common.{inl, inr}
use Rattle.csdl_schema.specs.SchemaModel.{Slots}
use Rattle.odata_syntax.specs.declared.binary_operator.BinaryOperator.{BinaryOperator}
use Rattle.odata_signatures.specs.OperatorTyped.{OfOneSide}
use Rattle.odata_signatures.specs.QuotedNumber.{IsResolvedBy, LacksNumber}
use Rattle.odata_signatures.specs.Side.{Side}
use Rattle.odata_signatures.specs.Laws.{UnreadReason}

one_is_read : (slots : Slots) (operator : BinaryOperator) (left right : Side) → OfOneSide (LacksNumber slots) operator left right
    → OfOneSide IsResolvedBy operator left right
one_is_read slots operator left right lacks =
    (lacks.0, elim lacks.1 [ inl one ↦ inl one.read | inr one ↦ inr one.read ])

pub unread_reason : UnreadReason
unread_reason slots operator left right code unread = (
  λ reason. elim reason [ inl lacks ↦ absurd (unread (one_is_read slots operator left right lacks.0)) | inr plain ↦ plain.1 ],
  λ same. inr (λ lacks. unread (one_is_read slots operator left right lacks), same),
)
