use Rattle.std.proofs.Common.{◌-◌, arith}
use Rattle.collection_reader.proofs.BlockLemmas.{further, nothing}
use Rattle.collection_reader.proofs.item_run.pass_item.Goals as goal

pub loop-end-init : goal.loop-end-init
loop-end-init c = (omega arith, c.requires.within, nothing c.args.depth c.args.in_text c.args.bytes.now c.args.from c.requires.some c.requires.few)

pub loop-end-preserved : goal.loop-end-preserved
loop-end-preserved c =
    let l = c.loop-end in
    let run = c.pass_block-run in (
      omega arith,
      omega arith,
      further c.args.depth c.args.in_text c.args.bytes.now c.args.from l.end l.nested l.is_text run.result.end run.result.depth run.result.in_text l.invariant.0 run.ensures.within.0 l.invariant.2 run.ensures.passes,
    )

pub returns-then-end-block-clause-passes : goal.returns-then-end-block-clause-passes
returns-then-end-block-clause-passes c =
    let l = c.loop-end in
    let run = c.pass_block-run in
    further c.args.depth c.args.in_text c.args.bytes.now c.args.from l.end l.nested l.is_text run.result.end run.result.depth run.result.in_text l.invariant.0 run.ensures.within.0 l.invariant.2 run.ensures.passes
