use Rattle.odata_ranges.proofs.Common.{◌∙◌, subst, BinaryOperator, NodeKind, MakesNone}
use Rattle.odata_ranges.proofs.Flags.{both_faults, both_nulls, neither}
use Rattle.odata_ranges.proofs.operator_ranges.of_operator.Goals as goal

pub of_arithmetic-requires-clause-numeric : goal.of_arithmetic-requires-clause-numeric
of_arithmetic-requires-clause-numeric c = rw c.in-Arithmetic.is at c.requires.numeric

pub returns-in-Logical-clause-holds : goal.returns-in-Logical-clause-holds
returns-in-Logical-clause-holds c = rw c.in-Logical.is (
  both_faults c.truth.result c.args.left c.args.right c.either-faults.result c.either-faults.ensures (λ may. c.truth.ensures.fault ∙ may),
  both_nulls c.truth.result c.args.left c.args.right c.either-nulls.result c.either-nulls.ensures (λ may. c.truth.ensures.null ∙ may),
)

pub returns-in-Comparison-clause-holds : goal.returns-in-Comparison-clause-holds
returns-in-Comparison-clause-holds c =
    rw c.in-Comparison.is
    (both_faults c.truth-in-Comparison.result c.args.left c.args.right c.either-faults.result c.either-faults.ensures (λ may. c.truth-in-Comparison.ensures.fault ∙ may))

pub returns-in-Arithmetic-clause-holds : goal.returns-in-Arithmetic-clause-holds
returns-in-Arithmetic-clause-holds c = rw c.in-Arithmetic.is c.of_arithmetic.ensures.holds

pub returns-in-Logical-clause-quiet : goal.returns-in-Logical-clause-quiet
returns-in-Logical-clause-quiet c = λ makes left right.
    c.truth.ensures.fault ∙ neither c.either-faults.result c.args.left.may_fault c.args.right.may_fault c.either-faults.ensures left right

pub returns-in-Comparison-clause-quiet : goal.returns-in-Comparison-clause-quiet
returns-in-Comparison-clause-quiet c = λ makes left right.
    c.truth-in-Comparison.ensures.fault ∙ neither c.either-faults.result c.args.left.may_fault c.args.right.may_fault c.either-faults.ensures left right

pub returns-in-Arithmetic-clause-quiet : goal.returns-in-Arithmetic-clause-quiet
returns-in-Arithmetic-clause-quiet c = λ makes left right.
    c.of_arithmetic.ensures.quiet (subst (λ (k : BinaryOperator). MakesNone (NodeKind.Binary k) c.args.edm_type) c.in-Arithmetic.is makes) left right
