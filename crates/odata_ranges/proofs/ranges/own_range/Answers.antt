use Rattle.odata_ranges.proofs.ranges.own_range.Goals as goal
