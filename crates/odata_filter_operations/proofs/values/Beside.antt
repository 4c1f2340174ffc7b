-- What stands beside a slot, looked for from the first on, and records of few values as they are read at a type.
use Rattle.std.proofs.Common.{◌≡◌, ◌≢◌, ◌==◌, ◌≤◌, ◌+◌, ℕ, zero, suc, Bool, true, false, List, [], ◌∷◌, Some, drop, length, map, slice_get, Vec, Global, refl, sym, ap, ◌∙◌, arith, add-one}
use Rattle.std.proofs.lemmas.Bool.{eqb-true, eqb-false}
use Rattle.edm_values.specs.Sparse.{beside, by_slot}
use Rattle.edm_values.specs.Val.{fields}
use Rattle.edm_values.specs.declared.datum.Datum.TheVariants as datum
use Rattle.edm_values.specs.declared.value.Value.{Value, Null, Sparse}
use Rattle.csdl_schema.specs.ExprType.{ExprType, null_type, single, collection, primitive, enumeration, structured}
use Rattle.csdl_schema.specs.SchemaModel.{Slots}
use Rattle.edm_entities.specs.HoldsEachSlot.{slot_count}
use Rattle.edm_entities.specs.Row.{ValAtType, record_of, val_of}
use Rattle.edm_entities.proofs.SlotLemmas.FewSlots.{few_val}
use Rattle.edm_entities.proofs.SlotLemmas.FoundWalk.{val_of-Null}
use Rattle.odata_filter_operations.specs.DatumView.{IsDatumOf, fields_at}

drop_there : (held : List (ℕ × Value)) (place : ℕ) (one : ℕ × Value) → slice_get held place ≡ Some one → drop place held ≡ one ∷ drop (suc place) held
drop_there [] place one at = absurd (cc)
drop_there (e ∷ held) zero one at = let same : e ≡ one = cc in ap (λ x. x ∷ held) same
drop_there (e ∷ held) (suc place) one at = drop_there held place one at

drop_all : (held : List (ℕ × Value)) (place : ℕ) → length held ≤ place → drop place held ≡ []
drop_all [] zero past = refl
drop_all [] (suc place) past = refl
drop_all (e ∷ held) zero past = absurd (omega (arith, past))
drop_all (e ∷ held) (suc place) past = drop_all held place (omega (arith, past))

module _ (held : List (ℕ × Value)) (slot place : ℕ) (so_far : beside Null held slot ≡ beside Null (drop place held) slot) where
  pub found_beside : (one : ℕ × Value) → slice_get held place ≡ Some one → one.0 ≡ slot → beside Null held slot ≡ one.1
  found_beside one at is = so_far ∙ ap (λ (xs : List (ℕ × Value)). beside Null xs slot) (drop_there held place one at) ∙ here (one.0 == slot) refl
    where
      here : (b : Bool) → (one.0 == slot) ≡ b → beside Null (one ∷ drop (suc place) held) slot ≡ one.1
      here true e = rw e refl
      here false e = absurd (eqb-false one.0 slot e is)

  pub none_beside : (one : ℕ × Value) → slice_get held place ≡ Some one → one.0 ≢ slot → beside Null held slot ≡ beside Null (drop (place + 1) held) slot
  none_beside one at other = rw add-one (so_far ∙ ap (λ (xs : List (ℕ × Value)). beside Null xs slot) (drop_there held place one at) ∙ further (one.0 == slot) refl)
    where
      further : (b : Bool) → (one.0 == slot) ≡ b → beside Null (one ∷ drop (suc place) held) slot ≡ beside Null (drop (suc place) held) slot
      further true e = absurd (other (eqb-true one.0 slot e))
      further false e = rw e refl

  pub never_beside : length held ≤ place → beside Null held slot ≡ Null
  never_beside past = so_far ∙ ap (λ (xs : List (ℕ × Value)). beside Null xs slot) (drop_all held place past)

-- null stands for null
pub null_datum : IsDatumOf Null datum.Null
null_datum slots type = sym (val_of-Null slots type)

-- ---- a record of few values

record_read : (slots : Slots) (type : ExprType) (held : List ValAtType) → fields (fields_at slots type held) ≡ record_of slots.properties type held
record_read slots null_type held = refl
record_read slots (single (primitive p)) held = refl
record_read slots (single (enumeration name)) held = refl
record_read slots (single (structured name)) held = refl
record_read slots (collection t) held = refl

pub few_read : (v : Vec (ℕ × Value) Global) (slots : Slots) (type : ExprType)
    → fields (fields_at slots type (map val_of (by_slot Null v.items 0 (slot_count slots.properties type)))) ≡ val_of (Sparse v) slots.properties type
few_read v slots type =
    record_read slots type (map val_of (by_slot Null v.items 0 (slot_count slots.properties type))) ∙ sym (few_val slots type v)
