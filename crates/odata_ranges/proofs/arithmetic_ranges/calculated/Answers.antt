use Rattle.odata_ranges.proofs.Common.{Bool, true, ◌||◌, ◌∙◌, sym, ap, subst, rules, w128, FitsSigned, to_z-of_z, HoldsNumber, Range}
use Rattle.odata_ranges.proofs.Attained.{past_faults, span_ordered, zero_faults}
use Rattle.odata_ranges.proofs.Calculations.{calculated_within, from_span, from_type}
use Rattle.odata_ranges.proofs.arithmetic_ranges.calculated.Goals as goal

pub returns-in-Some-clause-within : goal.returns-in-Some-clause-within
returns-in-Some-clause-within c =
    let of_low : FitsSigned w128 c.in-Some.low = search rules in
    let of_high : FitsSigned w128 c.in-Some.high = search rules in
    let met_numbers = simp to_z-of_z at c.met.ensures.numbers in
    let met_faults = simp to_z-of_z at c.met.ensures.faults in
    let within = c.range_of_type-within.result in
    let numbers = c.range_of_type-within.ensures.numbers c.requires.number in
    calculated_within c.args.operator c.args.prim c.args.left c.args.right c.met.result
    (from_span c.args.operator c.args.prim c.args.left c.args.right within c.met.result (c.in-Some.low, c.in-Some.high)
    c.in-Some.ensures.reaches c.in-Some.ensures.apart (λ n. (numbers n).0) (λ n. (numbers n).1)
    met_numbers met_faults (c.met.ensures.null ∙ c.range_of_type-within.ensures.null ∙ c.either.ensures))

pub returns-in-None-clause-within : goal.returns-in-None-clause-within
returns-in-None-clause-within c =
    let numbers = c.range_of_type-within.ensures.numbers c.requires.number in
    calculated_within c.args.operator c.args.prim c.args.left c.args.right c.with_faults.result
    (from_type c.args.operator c.args.prim c.args.left c.args.right c.with_faults.result
    (ap (λ (r : Range). r.may_fault) c.with_faults.ensures ∙ ap (λ (b : Bool). b || true) c.range_of_type-within.ensures.faults)
    (λ n is. subst (λ (r : Range). HoldsNumber r n) (sym c.with_faults.ensures) ((numbers n).0 is))
    (ap (λ (r : Range). r.may_be_null) c.with_faults.ensures ∙ c.range_of_type-within.ensures.null ∙ c.either.ensures))

pub returns-in-Some-clause-faults : goal.returns-in-Some-clause-faults
returns-in-Some-clause-faults c = λ may other.
    let of_low : FitsSigned w128 c.in-Some.low = search rules in
    let of_high : FitsSigned w128 c.in-Some.high = search rules in
    let met_past = simp to_z-of_z at c.met.ensures.past in
    let numbers = c.range_of_type-within.ensures.numbers c.requires.number in
    let attains = c.in-Some.ensures.attains other in
    past_faults c.args.operator c.args.prim c.args.left c.args.right c.range_of_type-within.result (c.in-Some.low, c.in-Some.high) attains (λ n. (numbers n).0)
    (met_past (span_ordered c.args.operator c.args.left c.args.right (c.in-Some.low, c.in-Some.high) c.in-Some.ensures.reaches attains) may)

pub returns-in-None-clause-faults : goal.returns-in-None-clause-faults
returns-in-None-clause-faults c = λ may other.
    zero_faults c.args.operator c.args.prim c.args.left c.args.right c.requires.left c.in-None.ensures.zero.0 c.in-None.ensures.zero.1
