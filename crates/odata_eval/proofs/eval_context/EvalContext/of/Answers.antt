use Rattle.std.proofs.Common.{◌∙◌}
use Rattle.edm_entities.specs.Row.{IsEntity}
use Rattle.filter_context.proofs.Variables.{frames_in-Empty}
use Rattle.odata_eval.proofs.eval_context.EvalContext.of.Goals as goal

pub invariant_of-result : goal.invariant_of-result
invariant_of-result c =
    let entity : IsEntity c.args.entity.now = c.value.ensures.entity in
    let held = entity.holds_slots.slots in
    record {
      entity = entity;
      nodes_are = c.nodes.ensures.same;
      values_are = c.values.ensures;
      held = held;
      value_is = entity.holds_slots.value_is;
      slots_are = c.fields_of-slots.ensures held (c.value.ensures.value ∙ entity.holds_slots.value_is);
      now_is = c.requires;
      fitting = rw frames_in-Empty tt;
    }
