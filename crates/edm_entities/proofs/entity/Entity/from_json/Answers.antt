use Rattle.std.proofs.Common.{◌≡◌, List, IfOk, IfErr, false, sym, ap, ◌∙◌, subst}
use Rattle.serde_json.specs.View.{view}
use Rattle.edm_values.specs.Val.{Val}
use Rattle.csdl_schema.specs.ExpansionView.{StepModel, paths_in}
use Rattle.csdl_schema.specs.PathSet.{PropertyPath}
use Rattle.csdl_schema.specs.SchemaModel.{Slots, type_name_at}
use Rattle.edm_entities.specs.Fits.{Fits}
use Rattle.edm_entities.specs.Row.{value_of}
use Rattle.edm_entities.specs.RowFaults.{IsMemory, IsRowFault}
use Rattle.edm_entities.proofs.SlotLemmas.FoundWalk.{ok_by}
use Rattle.edm_entities.proofs.SlotLemmas.ReadEntities.{unexpanded}
use Rattle.edm_entities.proofs.entity.Entity.from_json.Goals as goal

pub returns-clause-fits : goal.returns-clause-fits
returns-clause-fits c =
    subst (λ (slots : Slots). IfOk c.expanded_from_json.result (λ e. Fits slots (type_name_at c.args.schema.now c.args.type_id) (view c.args.row.now) (value_of e)))
    (sym (unexpanded c.args.schema.now c.none-nothing.result c.none-nothing.ensures)) c.expanded_from_json.ensures.fits

pub returns-clause-none_fits : goal.returns-clause-none_fits
returns-clause-none_fits c =
    subst (λ (slots : Slots). IfErr c.expanded_from_json.result (λ fault. ¬ (IsMemory fault) → (value : Val) → ¬ (Fits slots (type_name_at c.args.schema.now c.args.type_id) (view c.args.row.now) value)))
    (sym (unexpanded c.args.schema.now c.none-nothing.result c.none-nothing.ensures)) c.expanded_from_json.ensures.none_fits

pub returns-clause-first_fault : goal.returns-clause-first_fault
returns-clause-first_fault c =
    subst (λ (slots : Slots). IfErr c.expanded_from_json.result (λ fault. ¬ (IsMemory fault) → IsRowFault slots (type_name_at c.args.schema.now c.args.type_id) (view c.args.row.now) fault))
    (sym (unexpanded c.args.schema.now c.none-nothing.result c.none-nothing.ensures)) c.expanded_from_json.ensures.first_fault

pub returns-clause-expansion : goal.returns-clause-expansion
returns-clause-expansion c =
    ok_by c.expanded_from_json.result (λ e. e.expansion ≡ c.none-nothing.result) (λ e. (path : PropertyPath) → paths_in e.expansion path ≡ false)
    (λ e same path. ap (λ (steps : List StepModel). paths_in steps path) same ∙ c.none-nothing.ensures path) c.expanded_from_json.ensures.expansion
