-- A comparison of values of types that its operator takes has an outcome.
use Rattle.edm_values.specs.Val.{Val, boolean}
use Rattle.csdl_schema.specs.ExprType.{ExprType}
use Rattle.csdl_schema.specs.SchemaModel.{Slots}
use Rattle.edm_entities.specs.HasType.{HasType}
use Rattle.odata_syntax.specs.declared.binary_operator.ComparisonOperator.{ComparisonOperator}
use Rattle.odata_syntax.specs.declared.binary_operator.BinaryOperator.{BinaryOperator}
use Rattle.odata_signatures.specs.ExprTypes.{boolean_type}
use Rattle.odata_signatures.specs.OperatorTyped.{OperatorByTypes}
use Rattle.odata_filter_operations.specs.CompareGives.{CompareGives}
use Rattle.odata_filter_operations.specs.Outcome.{gives}
use Rattle.odata_meaning.proofs.meaning.Ends.{Ends, typed_value}
use Rattle.odata_meaning.proofs.meaning.Kinds.{comparable_values}
use Rattle.odata_meaning.specs.private.LawsBelow.{SomeEach}
use Rattle.odata_meaning.proofs.meaning.TypeValues.{truth_has}

pub compare_ends : (some : SomeEach) (slots : Slots) (operator : ComparisonOperator) (left right type : ExprType) (l r : Val)
    → OperatorByTypes (BinaryOperator.Comparison operator) left right type → HasType slots left l → HasType slots right r
    → Ends slots type (CompareGives operator l r)
compare_ends some slots operator left right type l r typed of_l of_r =
    let answer = some.decided operator l r in
    (gives (boolean answer.0), ((comparable_values slots operator left right l r typed.0 of_l of_r, answer.1), typed_value slots boolean_type type (boolean answer.0) typed.1 (truth_has slots answer.0)))
