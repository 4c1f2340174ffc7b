-- Operands that are not read as literals of an enumeration go by their types (OData URL Conventions 4.01, section
-- 5.1.1.1).
use Rattle.std.specs.Prelude.{◌≡◌, ◌↔◌, ℕ, List}
use Rattle.csdl_schema.specs.ExprType.{ExprType, single, enumeration}
use Rattle.csdl_schema.specs.SchemaModel.{Slots}
use Rattle.odata_syntax.specs.declared.binary_operator.ComparisonOperator.{ComparisonOperator}
use Rattle.odata_syntax.specs.declared.binary_operator.BinaryOperator.{BinaryOperator}
use Rattle.odata_signatures.specs.CollectionTyped.{IsItemFor}
use Rattle.odata_signatures.specs.ComparableTypes.{AreComparable, AreComparedBy}
use Rattle.odata_signatures.specs.ExprTypes.{boolean_type, string_type}
use Rattle.odata_signatures.specs.HasTyped.{AreFlags, HasTyped}
use Rattle.odata_signatures.specs.OperatorTyped.{OperatorByTypes, OfOneSide, OperatorTyped}
use Rattle.odata_signatures.specs.QuotedNumber.{IsResolvedBy}
use Rattle.odata_signatures.specs.Side.{Side}

-- the operands of an operator
abbrev pub OperandsByTypes : Type 0
OperandsByTypes =
    (slots : Slots) (operator : BinaryOperator) (left right : Side) (type : ExprType)
    → ¬ OfOneSide IsResolvedBy operator left right
    → OperatorTyped slots operator left right type ↔ OperatorByTypes operator left.type_of right.type_of type

-- those of `has`
abbrev pub FlagsByTypes : Type 0
FlagsByTypes =
    (slots : Slots) (left right : Side) (type : ExprType)
    → ¬ IsResolvedBy left.type_of right.quoted
    → HasTyped slots left right type ↔ (AreFlags left.type_of right.type_of × (type ≡ boolean_type))

-- the items of a list
abbrev pub ItemsByTypes : Type 0
ItemsByTypes =
    (slots : Slots) (left : ExprType) (item : Side)
    → ¬ IsResolvedBy left item.quoted
    → IsItemFor slots left item ↔ AreComparable left item.type_of

-- by its type a String goes with no enumeration
abbrev pub TextsApart : Type 0
TextsApart =
    (comparison : ComparisonOperator) (name : List ℕ)
    → (¬ AreComparedBy comparison (single (enumeration name)) string_type)
    × (¬ AreComparedBy comparison string_type (single (enumeration name)))
    × (¬ AreFlags (single (enumeration name)) string_type)
