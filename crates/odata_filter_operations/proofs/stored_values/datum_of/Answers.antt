use Rattle.std.proofs.Common.{◌∙◌, ap, map, sym}
use Rattle.edm_values.specs.Sparse.{by_slot}
use Rattle.edm_values.specs.Val.{fields}
use Rattle.edm_values.specs.declared.value.Value.{Null}
use Rattle.edm_entities.specs.HoldsEachSlot.{slot_count}
use Rattle.edm_entities.specs.Row.{val_of}
use Rattle.odata_filter_operations.specs.DatumView.{fields_at}
use Rattle.odata_filter_operations.proofs.values.Beside.{few_read}
use Rattle.odata_filter_operations.proofs.stored_values.datum_of.Goals as goal

pub returns-in-Sparse : goal.returns-in-Sparse
returns-in-Sparse c = λ slots type.
    ap (λ held. fields (fields_at slots type (map val_of (by_slot Null held 0 (slot_count slots.properties type))))) c.as_slice-in-Sparse.ensures.value
    ∙ few_read c.in-Sparse.held slots type
    ∙ ap (λ value. val_of value slots.properties type) (sym c.in-Sparse.is)
