use Rattle.std.proofs.Common.{refl}
use Rattle.edm_rows.proofs.LeavesKept.{truth_puts, truth_rejected}
use Rattle.edm_rows.proofs.kept_leaf.take_truth.Goals as goal

pub returns-then-rejects_truth : goal.returns-then-rejects_truth
returns-then-rejects_truth c = (
  λ slots depth. truth_rejected c.args.line.now c.args.place c.in-Some.end c.args.slot.now.sieve slots depth c.in-Some.truth c.in-Some.ensures (c.rejects_truth.ensures.0 c.if-rejects_truth.true),
  refl,
)

pub returns : goal.returns
returns c = truth_puts c.args.line.now c.args.place c.in-Some.end c.put_truth.new.value c.in-Some.truth c.in-Some.ensures c.put_truth.ensures
