-- The walk over the slots of a type: what it has read fits, and the fault at which it stops is the first.
use Rattle.std.proofs.Common.{◌≡◌, ℕ, zero, suc, List, [], ◌∷◌, ◌++◌, Bool, take, drop, Option, Some, None, option_map, map, slice_get, IfSome, IsSome, refl, ap, sym, subst}
use Rattle.std.specs.List.{AllByRecursion}
use Rattle.serde_json.specs.Data.{Data}
use Rattle.serde_json.specs.Find.{get, as_object}
use Rattle.edm_values.specs.declared.value.Value.{Value}
use Rattle.csdl_schema.specs.ExprType.{single, structured}
use Rattle.csdl_schema.specs.PathSet.{PathSet}
use Rattle.csdl_schema.specs.PropertyView.{IsReadAs, property_type}
use Rattle.csdl_schema.specs.SchemaModel.{SchemaModel, Slots, PropertyModel, PropertyType, expanded, slots_behind, slots_of, type_name_at, properties_at}
use Rattle.csdl_schema.specs.declared.property.Property.{Property}
use Rattle.edm_entities.specs.Fits.{FitsProperty}
use Rattle.edm_entities.specs.FitsPrimitive.{Flaw}
use Rattle.edm_entities.specs.Row.{field_of, val_of}
use Rattle.edm_entities.specs.RowFaults.{Path, HasFitting, IsValueFault}
use Rattle.edm_entities.specs.private.Walk.{IsPropertyFault}
use Rattle.edm_entities.specs.private.Faults.{IsFaultOf, IsBelow}
use Rattle.edm_entities.specs.private.Walk.{HoldEach, FitsSlot, FitSlots, HoldsInSlot}
use Rattle.edm_entities.specs.declared.flaw.ReadFault.{ReadFault}
use Rattle.edm_entities.proofs.SlotLemmas.FaultsBelow.{fault_below}

-- one slot more
pub hold_push : (Q : PropertyModel → Value → Type 0) (properties : List PropertyModel) (n : ℕ) (values : List Value) (v : Value) (p : PropertyModel) → slice_get properties n ≡ Some p
    → HoldEach Q (take n properties) values → Q p v → HoldEach Q (take (suc n) properties) (values ++ v ∷ [])
hold_push Q [] n values v p at holds here = absurd (cc)
hold_push Q (q ∷ ps) zero [] v p at holds here = let same : p ≡ q = cc in (subst (λ (r : PropertyModel). Q r v) same here, tt)
hold_push Q (q ∷ ps) zero (w ∷ values) v p at holds here = absurd holds
hold_push Q (q ∷ ps) (suc n) [] v p at holds here = absurd holds
hold_push Q (q ∷ ps) (suc n) (w ∷ values) v p at holds here = (holds.0, hold_push Q ps n values v p at holds.1 here)

-- slots that hold values that fit have members that fit
some_fit : (slots : Slots) (json : Data) (properties : List PropertyModel) (values : List Value) → FitSlots slots json properties values
    → AllByRecursion (HasFitting slots json) properties
some_fit slots json [] values fits = tt
some_fit slots json (p ∷ ps) [] fits = absurd fits
some_fit slots json (p ∷ ps) (v ∷ values) fits = ((field_of slots.properties p.type_of (val_of v), fits.0.0), some_fit slots json ps values fits.1)

cut_at : (properties : List PropertyModel) (n : ℕ) (p : PropertyModel) → slice_get properties n ≡ Some p → properties ≡ take n properties ++ p ∷ drop (suc n) properties
cut_at [] n p at = absurd (cc)
cut_at (q ∷ ps) zero p at = let same : q ≡ p = cc in ap (λ (r : PropertyModel). r ∷ ps) same
cut_at (q ∷ ps) (suc n) p at = ap (λ (rest : List PropertyModel). q ∷ rest) (cut_at ps n p at)

-- a slot as the code reads it
record IsSlotRead (schema : SchemaModel) (id n : ℕ) (name : List ℕ) (property : Property) : Type 0 where
  model : PropertyModel
  at_slot : slice_get (properties_at schema id) n ≡ Some model
  named : model.name ≡ name
  type_of : property_type schema property ≡ model.type_of
  nullable : property.nullable ≡ model.nullable

read_model : (schema : SchemaModel) (id n : ℕ) (name : List ℕ) (property : Property) (o : Option PropertyModel) → o ≡ slice_get (properties_at schema id) n
    → option_map (λ p. p.name) o ≡ Some name → IfSome o (λ p. IsReadAs schema p property) → IsSlotRead schema id n name property
read_model schema id n name property None is named read = absurd (cc)
read_model schema id n name property (Some p) is named read =
    record { model = p; at_slot = sym is; named = (let same : p.name ≡ name = cc in same); type_of = read.type_of; nullable = read.nullable }

name_at : (properties : List PropertyModel) (n : ℕ) → option_map (λ p. p.name) (slice_get properties n) ≡ slice_get (map (λ p. p.name) properties) n
name_at [] n = refl
name_at (p ∷ ps) zero = refl
name_at (p ∷ ps) (suc n) = name_at ps n

slot_read : (schema : SchemaModel) (id n : ℕ) (name : List ℕ) (property : Property) → slice_get (map (λ p. p.name) (properties_at schema id)) n ≡ Some name
    → IfSome (slice_get (properties_at schema id) n) (λ p. IsReadAs schema p property) → IsSlotRead schema id n name property
slot_read schema id n name property named read =
    read_model schema id n name property (slice_get (properties_at schema id) n) refl (let is = name_at (properties_at schema id) n in cc) read

module _ (schema : SchemaModel) (paths : PathSet) (id n : ℕ) (json : Data) (values : List Value) (name : List ℕ) (property : Property)
    (named : slice_get (map (λ p. p.name) (properties_at schema id)) n ≡ Some name)
    (read : IfSome (slice_get (properties_at schema id) n) (λ p. IsReadAs schema p property))
    (fits : FitSlots (expanded (slots_of schema) paths) json (take n (properties_at schema id)) values) where
  slot : IsSlotRead schema id n name property
  slot = slot_read schema id n name property named read

  abbrev whole : Slots
  whole = expanded (slots_of schema) paths

  abbrev inner : List ℕ → Slots
  inner step = slots_behind whole step

  -- a value that fits its property takes its slot
  pub slot_pushed : (v : Value)
      → FitsProperty (slots_behind (expanded (slots_of schema) paths) name) property.nullable (property_type schema property) (get name json)
      (field_of (slots_of schema).properties (property_type schema property) (val_of v))
      → HoldsInSlot (slots_behind (expanded (slots_of schema) paths) name) (property_type schema property) v
      → FitSlots (expanded (slots_of schema) paths) json (take (suc n) (properties_at schema id)) (values ++ v ∷ [])
  slot_pushed v here holds =
      let by_type : FitsProperty (inner name) property.nullable slot.model.type_of (get name json) (field_of whole.properties slot.model.type_of (val_of v)) =
      subst (λ (t : PropertyType). FitsProperty (inner name) property.nullable t (get name json) (field_of whole.properties t (val_of v))) slot.type_of here in
      let by_null = subst (λ (b : Bool). FitsProperty (inner name) b slot.model.type_of (get name json) (field_of whole.properties slot.model.type_of (val_of v))) slot.nullable by_type in
      let by_name = subst (λ (s : List ℕ). FitsProperty (inner s) slot.model.nullable slot.model.type_of (get s json) (field_of whole.properties slot.model.type_of (val_of v))) (sym slot.named) by_null in
      let held = subst (λ (t : PropertyType). HoldsInSlot (inner name) t v) slot.type_of holds in
      hold_push (FitsSlot whole (λ s. get s json)) (properties_at schema id) n values v slot.model slot.at_slot fits
      (by_name, subst (λ (s : List ℕ). HoldsInSlot (inner s) slot.model.type_of v) (sym slot.named) held)

  -- a fault of a property is the first of the object
  slot_fault : (nullable : Bool) (path : Path) (flaw : Flaw) → IsSome (as_object json)
      → IsPropertyFault (inner name) property.nullable (property_type schema property) (get name json) path flaw
      → IsValueFault whole nullable (name ∷ path) (single (structured (type_name_at schema id))) json flaw
  slot_fault nullable path flaw is_object fault =
      let by_type = subst (λ (t : PropertyType). IsPropertyFault (inner name) property.nullable t (get name json) path flaw) slot.type_of fault in
      let by_null = subst (λ (b : Bool). IsPropertyFault (inner name) b slot.model.type_of (get name json) path flaw) slot.nullable by_type in
      let by_name = subst (λ (s : List ℕ). IsPropertyFault (inner s) slot.model.nullable slot.model.type_of (get s json) path flaw) (sym slot.named) by_null in
      record {
        is_object = is_object;
        before = take n (properties_at schema id);
        faulty = slot.model;
        behind = drop (suc n) (properties_at schema id);
        split = cut_at (properties_at schema id) n slot.model slot.at_slot;
        before_fit = some_fit whole json (take n (properties_at schema id)) values fits;
        step_is = sym slot.named;
        fault = by_name;
      }

  pub slots_fault : (nullable : Bool) (reported result : ReadFault) → IsSome (as_object json) → IsBelow name reported result
      → IsFaultOf (IsPropertyFault (slots_behind (expanded (slots_of schema) paths) name) property.nullable (property_type schema property) (get name json)) reported
      → IsFaultOf (λ path flaw. IsValueFault (expanded (slots_of schema) paths) nullable path (single (structured (type_name_at schema id))) json flaw) result
  slots_fault nullable reported result is_object below fault =
      fault_below (IsPropertyFault (inner name) property.nullable (property_type schema property) (get name json))
      (λ path flaw. IsValueFault whole nullable path (single (structured (type_name_at schema id))) json flaw) name reported result below
      (λ path flaw here. slot_fault nullable path flaw is_object here) fault
