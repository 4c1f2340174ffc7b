use Rattle.odata_ranges.proofs.Common.{sym, subst, ap, Range}
use Rattle.odata_ranges.proofs.Values.{IsOther, other_values}
use Rattle.odata_ranges.proofs.leaf_ranges.of_value.Goals as goal

pub returns-in-Null-clause-within : goal.returns-in-Null-clause-within
returns-in-Null-clause-within c =
    other_values c.args.edm_type c.args.may_be_null c.plain.result (subst IsOther (sym c.in-Null.is) tt) (ap (λ (r : Range). r.may_be_null) c.plain.ensures)

pub returns-in-Collection-clause-within : goal.returns-in-Collection-clause-within
returns-in-Collection-clause-within c =
    other_values c.args.edm_type c.args.may_be_null c.plain-in-Collection.result (subst IsOther (sym c.in-Collection.is) tt) (ap (λ (r : Range). r.may_be_null) c.plain-in-Collection.ensures)
