-- What operators of arithmetic make of the types of their operands.
use Rattle.std.proofs.Common.{◌≡◌, sym, subst, Option, Some, None, IfNone, IfSome}
use Rattle.odata_syntax.specs.declared.binary_operator.ArithmeticOperator.{ArithmeticOperator}
use Rattle.odata_syntax.specs.declared.binary_operator.BinaryOperator.{BinaryOperator}
use Rattle.csdl_schema.specs.ExprType.{ExprType}
use Rattle.csdl_schema.specs.SchemaModel.{SchemaModel}
use Rattle.odata_signatures.specs.declared.edm_type.EdmType.{EdmType}
use Rattle.odata_signatures.specs.OperatorTyped.{ArithmeticTyped, OperatorByTypes}
use Rattle.odata_signatures.specs.TypeView.{expr_type}

made : (operator : BinaryOperator) (a : ArithmeticOperator) (l r t : ExprType) → operator ≡ BinaryOperator.Arithmetic a
    → ArithmeticTyped l r t → OperatorByTypes operator l r t
made operator a l r t is typed = subst (λ (o : BinaryOperator). OperatorByTypes o l r t) (sym is) typed

pub arithmetic_some : (schema : SchemaModel) (operator : BinaryOperator) (a : ArithmeticOperator) (l r : ExprType) (found : Option EdmType)
    → operator ≡ BinaryOperator.Arithmetic a
    → IfSome found (λ t. ArithmeticTyped l r (expr_type schema t))
    → IfSome found (λ t. OperatorByTypes operator l r (expr_type schema t))
arithmetic_some schema operator a l r (Some t) is typed = made operator a l r (expr_type schema t) is typed
arithmetic_some schema operator a l r None is typed = tt

pub arithmetic_none : (operator : BinaryOperator) (a : ArithmeticOperator) (l r : ExprType) (found : Option EdmType)
    → operator ≡ BinaryOperator.Arithmetic a
    → IfNone found ((t : ExprType) → ¬ ArithmeticTyped l r t)
    → IfNone found ((t : ExprType) → ¬ OperatorByTypes operator l r t)
arithmetic_none operator a l r (Some t) is none = tt
arithmetic_none operator a l r None is none = λ t typed. none t (subst (λ (o : BinaryOperator). OperatorByTypes o l r t) is typed)
