use Rattle.std.proofs.Common.{◌∙◌, subst}
use Rattle.edm_values.specs.Civil.{DateTime}
use Rattle.edm_values.specs.MomentParts.{IsFourDigitYear, IsOffset}
use Rattle.odata_eval.proofs.walking.PassedSlots.{outcome_true}
use Rattle.odata_eval.proofs.evaluator.is_true_by.Goals as goal

pub returns : goal.returns
returns c passes =
    let entity = c.value.ensures.entity in
    outcome_true c.args.checked.now c.args.entity.now c.args.now.now c.args.tests.now c.fields_of.result.now c.nodes-nodes.ensures.right c.requires.one_schema c.requires.one_type c.typed_trees_end_once_on_entities.ensures
    (subst (λ (d : DateTime). IsFourDigitYear d.date.year) c.civil-civil.ensures.value c.civil-civil.ensures.year, subst IsOffset c.offset_minutes-offset.ensures.value c.offset_minutes-offset.ensures.within)
    entity (c.fields_of.ensures entity.holds_slots.slots (c.value.ensures.value ∙ entity.holds_slots.value_is)) c.requires.whole (c.pass_all.ensures.some passes) (c.pass_all.ensures.pass passes)
