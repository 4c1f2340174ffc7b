use Rattle.odata_signatures.specs.TypeView.{expr_type}
use Rattle.odata_signatures.proofs.types.Operators.{arithmetic_none, arithmetic_some}
use Rattle.odata_signatures.proofs.operator_types.binary_type.Goals as goal

pub returns-in-Arithmetic-clause-typed : goal.returns-in-Arithmetic-clause-typed
returns-in-Arithmetic-clause-typed c =
    arithmetic_some c.args.schema.now c.args.operator c.in-Arithmetic.field-0 (expr_type c.args.schema.now c.args.left.now) (expr_type c.args.schema.now c.args.right.now)
    c.promoted_type.result c.in-Arithmetic.is (c.promoted_type.ensures.typed c.args.schema.now)

pub returns-in-Arithmetic-clause-there : goal.returns-in-Arithmetic-clause-there
returns-in-Arithmetic-clause-there c = c.promoted_type.ensures.there c.args.schema.now

pub returns-in-Arithmetic-clause-none : goal.returns-in-Arithmetic-clause-none
returns-in-Arithmetic-clause-none c =
    arithmetic_none c.args.operator c.in-Arithmetic.field-0 (expr_type c.args.schema.now c.args.left.now) (expr_type c.args.schema.now c.args.right.now)
    c.promoted_type.result c.in-Arithmetic.is (c.promoted_type.ensures.none c.args.schema.now)
