use Rattle.std.proofs.Common.{refl, subst}
use Rattle.edm_rows.specs.private.KeptRows.{GoesOn, TakesValue}
use Rattle.edm_rows.proofs.ValuesKept.{root_primitive}
use Rattle.edm_rows.proofs.kept_value.take_value.Goals as goal

pub take_sure-sure-requires-clause-primitive : goal.take_sure-sure-requires-clause-primitive
take_sure-sure-requires-clause-primitive g c = root_primitive c.args.context.now c.args.slot.now c.requires.slot

pub returns-in-Nothing-clause-taken : goal.returns-in-Nothing-clause-taken
returns-in-Nothing-clause-taken g c =
    subst (λ old. TakesValue c.args.context.now c.args.slot.now c.args.context.now.depth old c.take_other.new.value c.args.place c.take_other.result) (c.take_sure-sure.ensures.none c.in-Nothing.is) c.take_other.ensures.taken

pub returns-in-Nothing-clause-goes_on : goal.returns-in-Nothing-clause-goes_on
returns-in-Nothing-clause-goes_on g c whole =
    subst (λ old. GoesOn c.args.context.now c.args.slot.now old c.take_other.new.value) (c.take_sure-sure.ensures.none c.in-Nothing.is) (c.take_other.ensures.goes_on whole)

pub returns-clause-taken : goal.returns-clause-taken
returns-clause-taken g c = c.take_sure-sure.ensures.taken c.args.context.now c.args.context.now.depth refl c.requires.slot

pub returns-clause-goes_on : goal.returns-clause-goes_on
returns-clause-goes_on g c whole = c.take_sure-sure.ensures.goes_on c.args.context.now c.requires.slot whole
