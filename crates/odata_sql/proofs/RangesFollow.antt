-- The ranges of a filter's nodes say what a translation goes by.
use Rattle.std.proofs.Common.{◌≡◌, List, true, false, arith}
use Rattle.edm_values.specs.MomentParts.{IsMoment}
use Rattle.edm_values.specs.declared.primitive.PrimitiveType.{PrimitiveType}
use Rattle.odata_signatures.specs.declared.edm_type.EdmType.{EdmType}
use Rattle.odata_signatures.specs.declared.edm_type.ValueType.{ValueType}
use Rattle.odata_ranges.specs.Faults.{IsQuietType}
use Rattle.odata_ranges.specs.Ranges.{AreEntitiesKept, AreRangesOf}
use Rattle.odata_ranges.specs.declared.range.Range.{Range}
use Rattle.sql_draft.specs.Kinds.{kind_of_type}
use Rattle.sql_draft.specs.Translated.{AreRanges, IsCarriedKind}
use Rattle.sql_draft.specs.World.{Question}
use Rattle.sql_outcomes.proofs.nodes.Contexts.{AreEntitiesRecords, range_holds}

-- a node of a type that is not quiet may be a fault
not_quiet : (type : EdmType) → (IsQuietType type → ⊥) → IsCarriedKind (kind_of_type type)
not_quiet EdmType.Null other = absurd (other tt)
not_quiet (EdmType.Collection kept) other = absurd (other tt)
not_quiet (EdmType.Single (ValueType.Enum id)) other = absurd (other tt)
not_quiet (EdmType.Single (ValueType.Structured id)) other = absurd (other tt)
not_quiet (EdmType.Single (ValueType.Prim PrimitiveType.Date)) other = absurd (other tt)
not_quiet (EdmType.Single (ValueType.Prim PrimitiveType.DateTimeOffset)) other = absurd (other tt)
not_quiet (EdmType.Single (ValueType.Prim PrimitiveType.Guid)) other = absurd (other tt)
not_quiet (EdmType.Single (ValueType.Prim _)) other = tt

may_and_not : (range : Range) → range.may_fault ≡ true → range.may_fault ≡ false → ⊥
may_and_not range may not = cc

pub ranges_follow : (question : Question) → IsMoment question.now.civil question.now.offset_minutes → AreEntitiesRecords → AreEntitiesKept → (ranges : List Range) → AreRangesOf question.filter ranges
    → AreRanges question ranges
ranges_follow question is_moment records entities ranges are = record {
  count = are.as_many;
  bounded = λ place range range_at. (are.each place range (omega arith) range_at).bounded;
  within = λ place range world o range_at seen has.
      range_holds question is_moment records entities world seen place range (are.each place range (omega arith) range_at).holds o has;
  inherits = λ place child node range inner at range_at inner_at behind before none.
      (are.reported place node range (omega arith) at range_at).inherits none child inner (omega (arith, behind)) before inner_at;
  carries = λ place node range at range_at may. not_quiet node.edm_type (λ quiet. may_and_not range may ((are.quiet place node range at range_at).0 quiet));
  plain = λ place node range at range_at kind. (are.quiet place node range at range_at).1 kind;
  entity = λ place node range at range_at is. (are.reported place node range (omega arith) at range_at).entity is;
}
