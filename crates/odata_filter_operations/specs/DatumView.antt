-- What the evaluator's values stand for.
use Rattle.std.specs.Prelude.{ℕ, ◌≡◌, ◌<◌, List, map, length, slice_get, Option, Some, Result, Ok, Err, IsSomeAnd}
use Rattle.edm_values.specs.Val.{Val, FieldVal, absent, Vals, no_items}
use Rattle.edm_values.specs.Sparse.{beside, by_slot}
use Rattle.edm_values.specs.declared.datum.Datum.{Datum}
use Rattle.edm_values.specs.declared.datum.Datum.TheVariants as datum
use Rattle.edm_values.specs.declared.value.Value.{Value, Null}
use Rattle.csdl_schema.specs.ExprType.{ExprType, single, collection, structured}
use Rattle.csdl_schema.specs.SchemaModel.{Slots}
use Rattle.edm_entities.specs.HoldsEachSlot.{slot_count}
use Rattle.edm_entities.specs.Row.{ValAtType, field_by_name, items_of, val_of}
use Rattle.odata_functions.specs.DatumVal.{Reading, datum_val}
use Rattle.odata_filter_operations.specs.declared.eval_fault.EvalFault.{EvalFault}
use Rattle.odata_filter_operations.specs.Outcome.{Outcome, gives}
use Rattle.odata_filter_operations.specs.FaultView.{fault_outcome}

-- what slots hold by name, at the type of their record
abbrev pub fields_at : Slots → ExprType → List ValAtType → List ℕ → FieldVal
fields_at slots (single (structured name)) held = field_by_name slots.properties (slots.properties name) held
fields_at slots type held = λ name. absent

-- what items there are, at the type of their list
abbrev pub items_at : Slots → ExprType → List ValAtType → Vals
items_at slots (collection type) held = items_of slots.properties type held
items_at slots type held = no_items

-- how a record or a list of that type is read
abbrev pub reading_at : Slots → ExprType → Reading
reading_at slots type = record {
  fields_of = λ held. fields_at slots type (map val_of held);
  fields_beside = λ held.
      fields_at slots type (map val_of (by_slot Null held 0 (slot_count slots.properties type)));
  items_of = λ held. items_at slots type (map val_of held);
}

-- the outcome that an answer reports, what it holds standing for such a value; none when out of memory
abbrev pub answer_outcome : {Held : Type 0} → (Held → Val) → Result Held EvalFault → Option Outcome
answer_outcome stands_for (Ok held) = Some (gives (stands_for held))
answer_outcome stands_for (Err fault) = fault_outcome fault

-- it is null, or a record that has the slot; one of few values has each
abbrev pub HasSlot : Datum → ℕ → Type 0
HasSlot datum.Null slot = Unit {0}
HasSlot (datum.Record held) slot = slot < length held.now
HasSlot (datum.Sparse held) slot = Unit {0}
HasSlot _ slot = ⊥

-- what stands for a stored value, at any type
abbrev pub IsDatumOf : Value → Datum → Type 0
IsDatumOf value made =
    (slots : Slots) (type : ExprType) → datum_val (reading_at slots type) made ≡ val_of value slots.properties type

-- null of null; of a record what stands in its slot
abbrev pub IsStepOf : Datum → ℕ → Datum → Type 0
IsStepOf datum.Null slot made = made ≡ datum.Null
IsStepOf (datum.Record held) slot made = IsSomeAnd (slice_get held.now slot) (λ value. IsDatumOf value made)
IsStepOf (datum.Sparse held) slot made = IsDatumOf (beside Null held.now slot) made
IsStepOf _ slot made = ⊥
