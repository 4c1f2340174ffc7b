use Rattle.odata_ranges.proofs.Common.{◌||◌, refl}
use Rattle.odata_ranges.proofs.Flags.{of_left, of_right}
use Rattle.odata_ranges.proofs.list_ranges.joined.Goals as goal

pub returns-clause-first : goal.returns-clause-first
returns-clause-first c = rw (c.with_null.ensures, c.with_faults.ensures) (record {
  fault = of_left (c.args.flags.may_fault || c.args.range.may_fault) c.args.flags.may_fault c.args.range.may_fault refl;
  null = of_left (c.args.flags.may_be_null || c.args.range.may_be_null) c.args.flags.may_be_null c.args.range.may_be_null refl;
})

pub returns-clause-second : goal.returns-clause-second
returns-clause-second c = rw (c.with_null.ensures, c.with_faults.ensures) (record {
  fault = of_right (c.args.flags.may_fault || c.args.range.may_fault) c.args.flags.may_fault c.args.range.may_fault refl;
  null = of_right (c.args.flags.may_be_null || c.args.range.may_be_null) c.args.flags.may_be_null c.args.range.may_be_null refl;
})
