use Rattle.std.proofs.Common.{◌-◌}
use Rattle.collection_reader.proofs.BlockLemmas.{IsPassed}
use Rattle.collection_reader.proofs.item_run.pass_block.Given as goal

-- the bytes before the offset are passed, and the mask has the others that stop
abbrev pub invariant-loop-stops : goal.invariant-loop-stops
invariant-loop-stops l = IsPassed l.depth l.in_text l.bytes l.from l.block l.end l.nested l.is_text l.stops

abbrev pub decreases-loop-stops : goal.decreases-loop-stops
decreases-loop-stops l = l.block - l.end
