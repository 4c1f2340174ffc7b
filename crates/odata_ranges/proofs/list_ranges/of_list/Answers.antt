use Rattle.odata_ranges.proofs.Common.{ap, rules, Range}
use Rattle.odata_ranges.proofs.Flags.{neither, of_right}
use Rattle.odata_ranges.proofs.HoldingLines.{list_holds}
use Rattle.odata_ranges.proofs.Inside.{list_kind, list_stands}
use Rattle.odata_ranges.proofs.Quiet.{own_above}
use Rattle.odata_ranges.proofs.list_ranges.of_list.Goals as goal

pub flags_between-flags-requires : goal.flags_between-flags-requires
flags_between-flags-requires c = record {
  as_many = c.requires.known.as_many;
  lie = list_stands c.args.checked.now c.requires.form.right c.args.place c.args.node c.requires.form.at (list_kind c.args.node.kind c.requires.form.is);
}

pub returns : goal.returns
returns c =
    let fault = ap (λ (r : Range). r.may_fault) c.with_faults.ensures in
    own_above c.requires.form tt (record {
      bounded = search rules;
      holds = list_holds c.args.checked.now c.args.place c.args.node c.requires.form.at c.args.ranges.now c.requires.known.after c.flags_between-flags.result
          c.with_faults.result c.flags_between-flags.ensures.covers (of_right c.with_faults.result.may_fault c.plain.result.may_fault c.flags_between-flags.result.may_fault fault)
          (list_kind c.args.node.kind c.requires.form.is);
    })
    (λ makes quiet. neither c.with_faults.result.may_fault c.plain.result.may_fault c.flags_between-flags.result.may_fault fault
    (ap (λ (r : Range). r.may_fault) c.plain.ensures) (c.flags_between-flags.ensures.quiet quiet))
