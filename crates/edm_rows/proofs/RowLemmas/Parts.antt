-- The values of arrays and objects, from what was read of their items and members.
use Rattle.std.proofs.Common.{ℕ, List, [], ◌∷◌, ◌++◌, Bool, false, Option, Vec, Global, refl}
use Rattle.serde_json.specs.Data.{Data, Items, no_items, item, array, object, Members}
use Rattle.edm_values.specs.declared.value.Value.{Value, Record, List as ListOf}
use Rattle.csdl_schema.specs.ExprType.{single, collection, SingleType, structured}
use Rattle.csdl_schema.specs.ExpansionView.{StepModel}
use Rattle.csdl_schema.specs.SchemaModel.{SchemaModel, Slots, HasDistinctNames, type_name_at, properties_at}
use Rattle.edm_entities.specs.Fits.{FitsType}
use Rattle.edm_entities.specs.Row.{val_of}
use Rattle.edm_row_plans.specs.Expanded.{slots_at}
use Rattle.edm_rows.specs.private.Passed.{FitsNullable, FitsHoweverNullable}
use Rattle.json_room.specs.private.ItemTokens.{append_items}
use Rattle.edm_entities.specs.private.Walk.{FitList, FitSlots}
use Rattle.edm_entities.proofs.SlotLemmas.FoundWalk.{other_fits}
use Rattle.edm_entities.proofs.SlotLemmas.ReadEntities.{slots_fit}
use Rattle.edm_entities.proofs.SlotLemmas.ValueWalk.{array_fits}

-- one item more
pub fit_push : (slots : Slots) (nullable : Bool) (type : SingleType) (found : Items) (values : List Value) (json : Data) (v : Value)
    → FitList slots nullable type found values → FitsNullable slots nullable nullable (single type) v json → FitList slots nullable type (append_items found (item json no_items)) (values ++ v ∷ [])
fit_push slots nullable type no_items [] json v fits here = (here, tt)
fit_push slots nullable type no_items (w ∷ values) json v fits here = absurd fits
fit_push slots nullable type (item d found) [] json v fits here = absurd fits
fit_push slots nullable type (item d found) (w ∷ values) json v fits here = (fits.0, fit_push slots nullable type found values json v fits.1 here)

pub list_held : (slots : Slots) (nullable : Bool) (type : SingleType) (values : Vec Value Global) (jsons : Items) → FitList slots nullable type jsons values.items
    → FitsNullable slots false nullable (collection type) (ListOf values) (array jsons)
list_held slots nullable type values jsons fits = array_fits slots nullable type (array jsons) jsons values refl fits

pub record_held : (schema : SchemaModel) (steps : List StepModel) (node : Option ℕ) (id : ℕ) (values : Vec Value Global) (found : Members) → HasDistinctNames (properties_at schema id)
    → FitSlots (slots_at schema steps node) (object found) (properties_at schema id) values.items
    → FitsHoweverNullable (slots_at schema steps node) (single (structured (type_name_at schema id))) (Record values) (object found)
record_held schema steps node id values found distinct fits nullable =
    let slots = slots_at schema steps node in
    let type = single (structured (type_name_at schema id)) in
    other_fits (object found) nullable (val_of (Record values) slots.properties type) (λ json. FitsType slots nullable type json (val_of (Record values) slots.properties type)) refl
    (slots_fit slots (type_name_at schema id) nullable (object found) values distinct refl fits)
