use Rattle.std.proofs.Common.{◌≡◌, ◌∙◌, ap, subst}
use Rattle.csdl_schema.specs.SchemaModel.{SchemaModel}
use Rattle.handle_calls.specs.FilterCalls.{IsRefused}
use Rattle.call_handles.specs.HeldType.{EntityType}
use Rattle.handle_calls.proofs.filter_calls.filter_of_text.Goals as goal

pub returns-in-Err : goal.returns-in-Err
returns-in-Err c =
    let type_in : SchemaModel → EntityType = λ schema. record { schema = schema; id = c.held.inside.id } in
    let same : type_in c.deref.result.now ≡ c.args.held.now = ap type_in c.deref.ensures ∙ c.held.view_is in
    subst (λ (type : EntityType). IsRefused type c.args.text.now c.in-Err.refusal) same (c.in-Err.ensures.refusal, c.in-Err.ensures.none)
