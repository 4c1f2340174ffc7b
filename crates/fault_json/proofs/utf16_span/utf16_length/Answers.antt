use Rattle.std.proofs.Common.{arith}
use Rattle.fault_json.proofs.Utf16.{count-end, count-more, count-start}
use Rattle.fault_json.proofs.utf16_span.utf16_length.Goals as goal

pub loop-character-init : goal.loop-character-init
loop-character-init c = count-start c.args.text.now _ c.utf8.text cc

pub overflow_add-units : goal.overflow_add-units
overflow_add-units c =
    let more = count-more c.args.text.now _ _ c.loop-character.units c.in-Some.character _ c.loop-character.invariant c.in-Some.ensures.steps.0 c.len_utf16-units.ensures.bmp c.len_utf16-units.ensures.surrogate_pair in
    let room = more.room in
    omega (arith, room)

pub loop-character-preserved : goal.loop-character-preserved
loop-character-preserved c =
    count-more c.args.text.now _ _ c.loop-character.units c.in-Some.character _ c.loop-character.invariant c.in-Some.ensures.steps.0 c.len_utf16-units.ensures.bmp c.len_utf16-units.ensures.surrogate_pair

pub returns : goal.returns
returns c = count-end c.args.text.now _ c.loop-character.units c.loop-character.invariant c.in-None.ensures.steps.0.0
