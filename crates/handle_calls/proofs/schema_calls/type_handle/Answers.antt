use Rattle.std.proofs.Common.{sym, ◌∙◌, subst}
use Rattle.csdl_schema.specs.SchemaModel.{SchemaModel}
use Rattle.edm_row_plans.specs.Plans.{IsPlanOf}
use Rattle.edm_rows.specs.RowLayout.{LayoutOfRows}
use Rattle.call_handles.specs.private.HeldType.{IsHeldType}
use Rattle.handle_calls.proofs.schema_calls.type_handle.Goals as goal

pub new-layout-requires : goal.new-layout-requires
new-layout-requires c = subst (λ (s : SchemaModel). IsPlanOf s c.new-plan.result) (c.deref.ensures ∙ sym c.in-Ok.ensures) c.new-plan.ensures.schema

pub invariant_of-result : goal.invariant_of-result
invariant_of-result c =
    let schema = c.args.schema.now.value in
    let id = c.args.id in
    let layout = c.new-layout.result in
    let held : IsHeldType (record { schema = schema; id = id }) layout =
    record { held = c.requires.held; entity = c.requires.entity; of_schema = c.new-layout.ensures.schema ∙ c.in-Ok.ensures; of_type = c.new-layout.ensures.type_id ∙ c.new-plan.ensures.type_id } in
    subst (λ (s : SchemaModel). IsHeldType (record { schema = s; id = id }) c.in-Ok-new.layout.value) (sym c.in-Ok-try_clone.ensures)
    (subst (λ (l : LayoutOfRows). IsHeldType (record { schema = schema; id = id }) l) (sym c.in-Ok-new.ensures.ok) held)
