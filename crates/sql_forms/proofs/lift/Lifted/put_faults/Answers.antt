use Rattle.sql_forms.proofs.Common.{arith, length, refl, slice_get_read}
use Rattle.sql_outcomes.proofs.outcomes.FaultWalk.{one_fault_put}
use Rattle.sql_forms.proofs.lift.Lifted.put_faults.Goals as goal

pub loop-place-preserved : goal.loop-place-preserved
loop-place-preserved c =
    let bound = c.args.self.now.bound.items in
    let at = slice_get_read bound (length bound) c.loop-place.place c.index.result.now refl (omega arith) c.index.ensures in
    record {
      grown =
          one_fault_put c.args.carrier c.args.self.now.level bound c.loop-place.place c.index.result.now c.args.draft.now c.loop-place.draft c.put_fault_of.new.draft at
          c.loop-place.invariant.grown c.in_ok-put_fault_of.ensures;
    }
