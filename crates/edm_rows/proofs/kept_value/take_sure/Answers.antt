use Rattle.std.proofs.Common.{ap}
use Rattle.edm_values.specs.declared.primitive.PrimitiveType.TheVariants as prim
use Rattle.edm_rows.specs.private.Held.{type_of}
use Rattle.edm_rows.specs.private.RowSlots.{kinds_of}
use Rattle.edm_rows.proofs.ValuesKept.{leaf_goes_on, leaf_value, nothing_stays, number_leaf, text_leaf, truth_leaf}
use Rattle.edm_rows.proofs.kept_value.take_sure.Goals as goal

pub take_digits-requires-clause-of_number : goal.take_digits-requires-clause-of_number
take_digits-requires-clause-of_number c = rw c.in-Number.is at c.requires.primitive

pub returns-in-Number-clause-taken : goal.returns-in-Number-clause-taken
returns-in-Number-clause-taken c context depth same root =
    let slot = c.args.slot.now in
    let leaf = number_leaf slot.task c.in-Number.is in
    leaf_value context slot root leaf.0 leaf.1 c.args.slot.now.prim (ap (type_of (kinds_of context.schema.now context.plan.now.plans.items slot)) c.in-Number.is) c.args.line.now depth c.args.place c.args.value.now c.take_digits.new.value c.take_digits.result same
    c.take_digits.ensures

pub returns-in-Number-clause-goes_on : goal.returns-in-Number-clause-goes_on
returns-in-Number-clause-goes_on c context root =
    let slot = c.args.slot.now in
    let leaf = number_leaf slot.task c.in-Number.is in
    leaf_goes_on context slot root leaf.0 leaf.1 slot.prim (ap (type_of (kinds_of context.schema.now context.plan.now.plans.items slot)) c.in-Number.is) c.args.line.now c.args.place c.args.value.now c.take_digits.new.value c.take_digits.result c.take_digits.ensures

pub returns-in-Number-clause-none : goal.returns-in-Number-clause-none
returns-in-Number-clause-none c = nothing_stays c.args.line.now c.args.slot.now.prim c.args.slot.now.sieve c.args.value.now c.take_digits.new.value c.args.place c.take_digits.result c.take_digits.ensures

pub returns-in-Truth-clause-taken : goal.returns-in-Truth-clause-taken
returns-in-Truth-clause-taken c context depth same root =
    let slot = c.args.slot.now in
    let leaf = truth_leaf slot.task c.in-Truth.is in
    leaf_value context slot root leaf.0 leaf.1 prim.Bool (ap (type_of (kinds_of context.schema.now context.plan.now.plans.items slot)) c.in-Truth.is) c.args.line.now depth c.args.place c.args.value.now c.take_truth.new.value c.take_truth.result same
    c.take_truth.ensures

pub returns-in-Truth-clause-goes_on : goal.returns-in-Truth-clause-goes_on
returns-in-Truth-clause-goes_on c context root =
    let slot = c.args.slot.now in
    let leaf = truth_leaf slot.task c.in-Truth.is in
    leaf_goes_on context slot root leaf.0 leaf.1 prim.Bool (ap (type_of (kinds_of context.schema.now context.plan.now.plans.items slot)) c.in-Truth.is) c.args.line.now c.args.place c.args.value.now c.take_truth.new.value c.take_truth.result c.take_truth.ensures

pub returns-in-Truth-clause-none : goal.returns-in-Truth-clause-none
returns-in-Truth-clause-none c = nothing_stays c.args.line.now prim.Bool c.args.slot.now.sieve c.args.value.now c.take_truth.new.value c.args.place c.take_truth.result c.take_truth.ensures

pub returns-in-Text-clause-taken : goal.returns-in-Text-clause-taken
returns-in-Text-clause-taken c context depth same root =
    let slot = c.args.slot.now in
    let leaf = text_leaf slot.task c.in-Text.is in
    leaf_value context slot root leaf.0 leaf.1 prim.String (ap (type_of (kinds_of context.schema.now context.plan.now.plans.items slot)) c.in-Text.is) c.args.line.now depth c.args.place c.args.value.now c.take_text.new.value c.take_text.result same
    c.take_text.ensures

pub returns-in-Text-clause-goes_on : goal.returns-in-Text-clause-goes_on
returns-in-Text-clause-goes_on c context root =
    let slot = c.args.slot.now in
    let leaf = text_leaf slot.task c.in-Text.is in
    leaf_goes_on context slot root leaf.0 leaf.1 prim.String (ap (type_of (kinds_of context.schema.now context.plan.now.plans.items slot)) c.in-Text.is) c.args.line.now c.args.place c.args.value.now c.take_text.new.value c.take_text.result c.take_text.ensures

pub returns-in-Text-clause-none : goal.returns-in-Text-clause-none
returns-in-Text-clause-none c = nothing_stays c.args.line.now prim.String c.args.slot.now.sieve c.args.value.now c.take_text.new.value c.args.place c.take_text.result c.take_text.ensures
