use Rattle.std.proofs.Common.{refl, subst}
use Rattle.edm_rows.specs.private.KeptRows.{GoesOn, TakesValue}
use Rattle.edm_rows.proofs.ValuesKept.{root_primitive, value_from}
use Rattle.edm_rows.proofs.kept_value.take_other.Goals as goal

pub take_sure-sure-requires-clause-primitive : goal.take_sure-sure-requires-clause-primitive
take_sure-sure-requires-clause-primitive g c = root_primitive c.args.context.now c.args.slot.now c.requires.slot

pub returns-then-place-from-clause-taken : goal.returns-then-place-from-clause-taken
returns-then-place-from-clause-taken g c =
    value_from c.args.context.now c.args.slot.now c.args.context.now.depth c.args.from c.past_blanks-place.result c.args.value.now c.take_seldom.new.value c.take_seldom.result c.past_blanks-place.ensures c.take_seldom.ensures.taken

pub returns-in-Nothing-clause-taken : goal.returns-in-Nothing-clause-taken
returns-in-Nothing-clause-taken g c =
    let context = c.args.context.now in
    let slot = c.args.slot.now in
    let place = c.past_blanks-place.result in
    value_from context slot context.depth c.args.from place c.args.value.now c.take_seldom-in-Nothing.new.value c.take_seldom-in-Nothing.result c.past_blanks-place.ensures
    (subst (λ old. TakesValue context slot context.depth old c.take_seldom-in-Nothing.new.value place c.take_seldom-in-Nothing.result) (c.take_sure-sure.ensures.none c.in-Nothing.is) c.take_seldom-in-Nothing.ensures.taken)

pub returns-in-Nothing-clause-goes_on : goal.returns-in-Nothing-clause-goes_on
returns-in-Nothing-clause-goes_on g c whole =
    subst (λ old. GoesOn c.args.context.now c.args.slot.now old c.take_seldom-in-Nothing.new.value) (c.take_sure-sure.ensures.none c.in-Nothing.is) (c.take_seldom-in-Nothing.ensures.goes_on whole)

pub returns-clause-taken : goal.returns-clause-taken
returns-clause-taken g c =
    value_from c.args.context.now c.args.slot.now c.args.context.now.depth c.args.from c.past_blanks-place.result c.args.value.now c.take_sure-sure.new.value c.take_sure-sure.result c.past_blanks-place.ensures (c.take_sure-sure.ensures.taken c.args.context.now c.args.context.now.depth refl c.requires.slot)

pub returns-clause-goes_on : goal.returns-clause-goes_on
returns-clause-goes_on g c whole = c.take_sure-sure.ensures.goes_on c.args.context.now c.requires.slot whole
