use Rattle.odata_ranges.proofs.Common.{sym, subst, ap, EdmType, ValueType, Range, HoldsValues}
use Rattle.odata_ranges.proofs.Values.{IsOther, other_values, prim_values}
use Rattle.odata_ranges.proofs.leaf_ranges.of_single.Goals as goal

pub returns-in-Prim-clause-within : goal.returns-in-Prim-clause-within
returns-in-Prim-clause-within c =
    subst (λ (t : ValueType). HoldsValues (EdmType.Single t) c.args.may_be_null c.range_of_type.result) (sym c.in-Prim.is)
    (prim_values c.in-Prim.prim c.args.may_be_null c.range_of_type.result c.range_of_type.ensures.numbers c.range_of_type.ensures.texts c.range_of_type.ensures.null)

pub returns-in-Enum-clause-within : goal.returns-in-Enum-clause-within
returns-in-Enum-clause-within c =
    other_values (EdmType.Single c.args.value_type) c.args.may_be_null c.plain.result (subst (λ (t : ValueType). IsOther (EdmType.Single t)) (sym c.in-Enum.is) tt)
    (ap (λ (r : Range). r.may_be_null) c.plain.ensures)

pub returns-in-Structured-clause-within : goal.returns-in-Structured-clause-within
returns-in-Structured-clause-within c =
    other_values (EdmType.Single c.args.value_type) c.args.may_be_null c.plain-in-Structured.result (subst (λ (t : ValueType). IsOther (EdmType.Single t)) (sym c.in-Structured.is) tt)
    (ap (λ (r : Range). r.may_be_null) c.plain-in-Structured.ensures)
