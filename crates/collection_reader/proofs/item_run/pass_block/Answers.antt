use Rattle.std.proofs.Common.{◌≡◌, ◌+◌, ◌≤◌, ℕ, List, length, arith, refl, subst}
use Rattle.std.specs.Prelude.{slice_range}
use lib.Count.{count_trailing_zeros}
use Rattle.collection_reader.specs.private.ItemRuns.{PassesTo}
use Rattle.collection_reader.proofs.BlockLemmas.{begins, stopped, turned, whole}
use Rattle.collection_reader.proofs.item_run.pass_block.Goals as goal

pub loop-stops-init : goal.loop-stops-init
loop-stops-init c = begins c.args.depth c.args.in_text c.args.bytes.now c.args.from c.stops_16-stops.result c.requires.some c.requires.few c.stops_16-stops.ensures

pub loop-stops-preserved : goal.loop-stops-preserved
loop-stops-preserved c =
    let l = c.loop-stops in
    let at = l.end + count_trailing_zeros 64 l.stops in
    let ends = c.in-Some.ends in
    let within : c.args.from + 16 ≤ length c.args.bytes.now = c.requires.within in
    turned c.args.depth c.args.in_text c.args.bytes.now c.args.from (c.args.from + 16) l.end l.nested l.is_text l.stops at ends.depth ends.in_text l.invariant within (omega arith) refl (omega arith) c.in-Some.ensures

pub returns-after-loop-stops-clause-passes : goal.returns-after-loop-stops-clause-passes
returns-after-loop-stops-clause-passes c =
    let l = c.loop-stops in
    whole c.args.depth c.args.in_text c.args.bytes.now c.args.from (c.args.from + 16) l.end l.nested l.is_text l.stops l.invariant c.requires.within c.loop-stops-test.false

-- where a byte is past the block, none in it stops
pub returns-then-at-block-clause-passes : goal.returns-then-at-block-clause-passes
returns-then-at-block-clause-passes c =
    let l = c.loop-stops in
    let at = l.end + count_trailing_zeros 64 l.stops in
    let passed = stopped c.args.depth c.args.in_text c.args.bytes.now c.args.from (c.args.from + 16) l.end l.nested l.is_text l.stops at l.invariant c.requires.within (omega arith) refl in
    let same : at ≡ c.args.from + 16 = omega (arith, passed.0, c.if-at-block.true) in
    subst (λ (k : ℕ). PassesTo c.args.depth c.args.in_text (slice_range c.args.bytes.now c.args.from k) l.nested l.is_text) same passed.1

pub returns-in_default-clause-passes : goal.returns-in_default-clause-passes
returns-in_default-clause-passes c =
    let l = c.loop-stops in
    let at = l.end + count_trailing_zeros 64 l.stops in
    let passed = stopped c.args.depth c.args.in_text c.args.bytes.now c.args.from (c.args.from + 16) l.end l.nested l.is_text l.stops at l.invariant c.requires.within (omega arith) refl in
    passed.1
