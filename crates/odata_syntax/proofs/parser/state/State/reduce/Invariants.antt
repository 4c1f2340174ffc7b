use Rattle.std.proofs.Common.{◌≡◌, vec_len}
use Rattle.odata_syntax.specs.PostOrder.{Texts}
use Rattle.odata_syntax.specs.private.Machine.{reduce}
use Rattle.odata_syntax.specs.private.ListSteps.{HasRead, read_tree, waiting_behind}
use Rattle.odata_syntax.proofs.parser.state.State.reduce.Given as goal

-- what is left grows to what was asked
abbrev pub invariant-loop-pending : goal.invariant-loop-pending
invariant-loop-pending l = record {
  read : HasRead l.self.frames.items l.self.nodes.items;
  same :
      (texts : Texts) → reduce l.level (waiting_behind texts l.self) (read_tree texts l.self)
      ≡ reduce l.level (waiting_behind texts l.initial.self) (read_tree texts l.initial.self);
}

abbrev pub decreases-loop-pending : goal.decreases-loop-pending
decreases-loop-pending l = vec_len l.self.frames
