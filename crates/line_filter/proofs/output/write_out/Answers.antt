use Rattle.std.proofs.Common.{take, ◌++◌}
use Rattle.std.proofs.KnownBytes.{Appends-trans}
use Rattle.line_filter.proofs.DeviceLaws.Called.{stays_well_trans, stays_well_by_work}
use Rattle.line_filter.proofs.WriteLaws.HeldBack.{split_at}
use Rattle.line_filter.proofs.output.write_out.Goals as goal

pub loop-rest-preserved : goal.loop-rest-preserved
loop-rest-preserved g c =
    let (done, split, wrote, stays) = c.loop-rest.invariant in
    let rest = c.loop-rest.rest.now in
    let n = c.in_ok-taken.taken in
    (done ++ take n rest, split_at _ done rest n split, Appends-trans _ _ _ done (take n rest) wrote c.in_ok-taken.ensures.bytes, stays_well_trans _ _ _ stays (stays_well_by_work _ _ c.in_ok-taken.ensures.worked))
