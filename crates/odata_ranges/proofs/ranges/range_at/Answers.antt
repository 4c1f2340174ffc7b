use Rattle.odata_ranges.proofs.Common.{◌∙◌, ap, subst, CheckedNode, same_found, ReportsFaults, Range}
use Rattle.odata_ranges.proofs.Ends.{stop_inside}
use Rattle.odata_ranges.proofs.Flags.{both_none, neither, of_left}
use Rattle.odata_ranges.proofs.HoldingLines.{wider_within}
use Rattle.odata_ranges.proofs.Values.{bounded_alike}
use Rattle.odata_ranges.proofs.ranges.range_at.Goals as goal

pub any_fault-faults-requires : goal.any_fault-faults-requires
any_fault-faults-requires c = record {
  as_many = c.requires.known.as_many;
  inside = stop_inside c.args.checked.now c.node_at-node.ensures.right c.args.place c.node_at-node.result c.node_at-node.ensures.found;
  reported = c.requires.known.reported;
}

pub returns-clause-right : goal.returns-clause-right
returns-clause-right c =
    let own = c.own_range.ensures.right in
    let low = ap (λ (r : Range). r.low) c.with_faults.ensures in
    let high = ap (λ (r : Range). r.high) c.with_faults.ensures in
    let fault = ap (λ (r : Range). r.may_fault) c.with_faults.ensures in
    record {
      bounded = bounded_alike c.own_range.result c.with_faults.result low high own.bounded;
      holds = λ context tree stop o is stands means.
          wider_within c.own_range.result c.with_faults.result o
          (of_left c.with_faults.result.may_fault c.own_range.result.may_fault c.any_fault-faults.result fault)
          (λ may. ap (λ (r : Range). r.may_be_null) c.with_faults.ensures ∙ may) low high (own.holds context tree stop o is stands means);
    }

pub returns-clause-reported : goal.returns-clause-reported
returns-clause-reported c = λ node at.
    let own = c.own_range.ensures in
    let fault = ap (λ (r : Range). r.may_fault) c.with_faults.ensures in
    subst (λ (n : CheckedNode). ReportsFaults c.args.ranges.now c.args.place n c.with_faults.result)
    (same_found _ c.node_at-node.result node c.node_at-node.ensures.found at) (record {
      inherits = λ none. c.any_fault-faults.ensures.none (both_none c.with_faults.result.may_fault c.own_range.result.may_fault c.any_fault-faults.result fault none).1;
      owns = λ makes quiet.
          neither c.with_faults.result.may_fault c.own_range.result.may_fault c.any_fault-faults.result fault (own.quiet makes quiet) (c.any_fault-faults.ensures.one quiet);
      entity = λ is. ap (λ (r : Range). r.may_be_null) c.with_faults.ensures ∙ own.entity is;
    })
