-- Slots whose values fit make a value that fits, and an entity that conforms to its type.
use Rattle.std.proofs.Common.{◌≡◌, ℕ, List, Bool, false, map, Vec, Global, IsSome, refl, sym, ap, subst, rules}
use Rattle.serde_json.specs.Data.{Data}
use Rattle.serde_json.specs.Find.{get, as_object}
use Rattle.edm_values.specs.declared.value.Value.{Value, Record, List as ListOf, the_lemmas}
use mathlib.Core.Path.{fun_ext}
use Rattle.csdl_schema.specs.ExpansionView.{StepModel, paths_in}
use Rattle.csdl_schema.specs.PathSet.{PropertyPath, no_paths}
use Rattle.csdl_schema.specs.ExprType.{ExprType, single, structured}
use Rattle.csdl_schema.specs.SchemaModel.{SchemaModel, Slots, HasDistinctNames, HoldsType, expanded, slots_of, type_name_at, properties_at}
use Rattle.edm_entities.specs.Fits.{Fits, FitsType}
use Rattle.edm_entities.specs.Row.{IsEntity, expanded_by, val_of, record_of, list_of, value_of}
use Rattle.edm_entities.specs.private.Walk.{row_of}
use Rattle.edm_entities.specs.private.Walk.{FitsSlot, FitSlots}
use Rattle.edm_entities.proofs.SlotLemmas.EachSlot.{slots_held}
use Rattle.edm_entities.proofs.SlotLemmas.SlotsByName.{record_fits, as_many}

pub val_of-Record : (slots : Slots) (type : ExprType) (v : Vec Value Global) → val_of (Record v) slots.properties type ≡ record_of slots.properties type (map val_of v.items)
val_of-Record slots type v = search (rules, the_lemmas)

pub val_of-List : (slots : Slots) (type : ExprType) (v : Vec Value Global) → val_of (ListOf v) slots.properties type ≡ list_of slots.properties type (map val_of v.items)
val_of-List slots type v = search (rules, the_lemmas)

-- the values of a type's slots, as a record
pub slots_fit : (slots : Slots) (name : List ℕ) (nullable : Bool) (json : Data) (values : Vec Value Global) → HasDistinctNames (slots.properties name) → IsSome (as_object json)
    → FitSlots slots json (slots.properties name) values.items
    → FitsType slots nullable (single (structured name)) json (val_of (Record values) slots.properties (single (structured name)))
slots_fit slots name nullable json values distinct is_object fits =
    subst (FitsType slots nullable (single (structured name)) json) (sym (val_of-Record slots (single (structured name)) values))
    (record_fits slots json (slots.properties name) values.items distinct is_object fits)

pub entity_fits : (schema : SchemaModel) (id : ℕ) (expansion : List StepModel) (json : Data) (values : Vec Value Global) → HasDistinctNames (properties_at schema id) → IsSome (as_object json)
    → FitSlots (expanded_by schema expansion) json (properties_at schema id) values.items
    → Fits (expanded_by schema expansion) (type_name_at schema id) json (value_of (row_of schema id expansion values))
entity_fits schema id expansion json values distinct is_object fits = slots_fit (expanded_by schema expansion) (type_name_at schema id) false json values distinct is_object fits

pub is_entity : (schema : SchemaModel) (id : ℕ) (expansion : List StepModel) (json : Data) (values : Vec Value Global) → HoldsType schema id → HasDistinctNames (properties_at schema id) → IsSome (as_object json)
    → FitSlots (expanded_by schema expansion) json (properties_at schema id) values.items → IsEntity (row_of schema id expansion values)
is_entity schema id expansion json values held distinct is_object fits =
    record {
      held = held;
      holds_slots = record { slots = values; value_is = refl; as_many = as_many (FitsSlot (expanded_by schema expansion) (λ name. get name json)) (properties_at schema id) values.items fits };
      each_slot = slots_held (expanded_by schema expansion) (type_name_at schema id) (λ name. get name json) values fits;
      distinct = distinct;
      conforms = (json, entity_fits schema id expansion json values distinct is_object fits);
    }

-- where no path is in the set, the types are those of the schema
pub unexpanded : (schema : SchemaModel) (expansion : List StepModel) → ((path : PropertyPath) → paths_in expansion path ≡ false) → slots_of schema ≡ expanded_by schema expansion
unexpanded schema expansion none =
    let same : no_paths ≡ paths_in expansion = fun_ext (λ path. sym (none path)) in
    ap (expanded (slots_of schema)) same
