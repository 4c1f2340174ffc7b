use Rattle.odata_ranges.proofs.Common.{◌≡◌, ◌∙◌, sym, ap, EdmType, ValueType, Range}
use Rattle.odata_ranges.proofs.ArithmeticTypes.{in_null_type, in_number_type}
use Rattle.odata_ranges.proofs.Flags.{both_faults, neither, of_left, of_right}
use Rattle.odata_ranges.proofs.HoldingLines.{wider_within}
use Rattle.odata_ranges.proofs.operator_ranges.of_arithmetic.Goals as goal

pub returns-in-Some-clause-holds : goal.returns-in-Some-clause-holds
returns-in-Some-clause-holds c =
    let fault_is = ap (λ (r : Range). r.may_fault) c.with_faults.ensures in
    in_number_type c.args.operator c.args.edm_type c.in-Some.prim c.args.left c.args.right c.calculated.result c.with_faults.result c.in-Some.ensures.some c.calculated.ensures.within
    (both_faults c.with_faults.result c.args.left c.args.right c.either-faults.result c.either-faults.ensures
    (of_right c.with_faults.result.may_fault c.calculated.result.may_fault c.either-faults.result fault_is))
    (λ o. wider_within c.calculated.result c.with_faults.result o
    (of_left c.with_faults.result.may_fault c.calculated.result.may_fault c.either-faults.result fault_is)
    (λ may. ap (λ (r : Range). r.may_be_null) c.with_faults.ensures ∙ may) (ap (λ (r : Range). r.low) c.with_faults.ensures) (ap (λ (r : Range). r.high) c.with_faults.ensures))

pub returns-in-None-clause-holds : goal.returns-in-None-clause-holds
returns-in-None-clause-holds c =
    in_null_type c.args.operator c.args.edm_type c.args.left c.args.right c.truth.result c.in-None.ensures.none
    (both_faults c.truth.result c.args.left c.args.right c.either-faults.result c.either-faults.ensures (λ may. c.truth.ensures.fault ∙ may))
    c.truth.ensures.null

pub returns-in-Some-clause-quiet : goal.returns-in-Some-clause-quiet
returns-in-Some-clause-quiet c = λ is left right.
    let clash : EdmType.Single (ValueType.Prim c.in-Some.prim) ≡ EdmType.Null = sym c.in-Some.ensures.some ∙ is in
    absurd (cc)

pub returns-in-None-clause-quiet : goal.returns-in-None-clause-quiet
returns-in-None-clause-quiet c = λ is left right.
    c.truth.ensures.fault ∙ neither c.either-faults.result c.args.left.may_fault c.args.right.may_fault c.either-faults.ensures left right
