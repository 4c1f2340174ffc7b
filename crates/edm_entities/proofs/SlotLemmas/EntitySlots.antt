-- What an entity holds at a slot: the value that its record has under the property's name, and of the property's type.
use Rattle.std.proofs.Common.{◌≡◌, ◌≢◌, ℕ, zero, suc, List, [], ◌∷◌, map, length, Some, None, slice_get, refl, ap, ◌∙◌, subst, arith}
use Rattle.std.specs.List.{AllByRecursion}
use Rattle.serde_json.specs.Find.{get}
use Rattle.edm_values.specs.Val.{Val, fields, FieldVal, present}
use Rattle.edm_values.specs.declared.value.Value.{Value}
use Rattle.csdl_schema.specs.ExprType.{ExprType, single, structured}
use Rattle.csdl_schema.specs.ExpansionView.{paths_in}
use Rattle.csdl_schema.specs.PathSet.{PathSet, below}
use Rattle.csdl_schema.specs.SchemaModel.{Slots, PropertyModel, PropertyType, declared, opaque, navigation, expanded, slots_of, type_name_at, properties_at, HasDistinctNames}
use Rattle.edm_entities.specs.Fits.{Fits, FitsProperty, FitsRecord}
use Rattle.edm_entities.specs.HasType.{HasPropertyType, HasType}
use Rattle.edm_entities.specs.Row.{PropertiesByType, Row, IsEntity, ValAtType, slots_for, val_of, value_of, field_of, field_by_name}
use Rattle.edm_entities.specs.SlotValue.{IsSeenAs, IsSlotValue}
use Rattle.edm_entities.proofs.FitLemmas.FitsHasType.{held_has_type}
use Rattle.edm_entities.proofs.SlotLemmas.ReadEntities.{val_of-Record}
use Rattle.edm_entities.proofs.SlotLemmas.SlotsByName.{here, behind, other_name}

-- what holds of each item holds of the one at an index
each_at : {X : Type 0} (P : X → Type 0) (xs : List X) (n : ℕ) (x : X) → AllByRecursion P xs → slice_get xs n ≡ Some x → P x
each_at P [] n x all at = absurd (cc)
each_at P (y ∷ ys) zero x all at = let same : y ≡ x = cc in subst P same all.0
each_at P (y ∷ ys) (suc n) x all at = each_at P ys n x all.1 at

-- what a record has under a property's name is what its slot holds
record IsFound (slots : Slots) (properties : List PropertyModel) (values : List Value) (n : ℕ) (p : PropertyModel) : Type 0 where
  value : Value
  at_slot : slice_get values n ≡ Some value
  by_name : field_by_name slots.properties properties (map val_of values) p.name ≡ field_of slots.properties p.type_of (val_of value)

others_at : (name : List ℕ) (ps : List PropertyModel) (n : ℕ) (p : PropertyModel) → AllByRecursion (λ q. q.name ≢ name) ps → slice_get ps n ≡ Some p → p.name ≢ name
others_at name ps n p others at = each_at (λ q. q.name ≢ name) ps n p others at

slot_found : (slots : Slots) (properties : List PropertyModel) (values : List Value) (n : ℕ) (p : PropertyModel) → HasDistinctNames properties
    → length values ≡ length properties → slice_get properties n ≡ Some p → IsFound slots properties values n p
slot_found slots [] values n p distinct long at = absurd (cc)
slot_found slots (q ∷ ps) [] n p distinct long at = absurd (omega arith)
slot_found slots (q ∷ ps) (v ∷ values) zero p distinct long at =
    let same : q ≡ p = cc in
    record { value = v; at_slot = refl; by_name = subst (λ (r : PropertyModel). field_by_name slots.properties (q ∷ ps) (map val_of (v ∷ values)) r.name ≡ field_of slots.properties r.type_of (val_of v)) same (here slots q ps (val_of v) (map val_of values)) }
slot_found slots (q ∷ ps) (v ∷ values) (suc n) p distinct long at =
    let rest = slot_found slots ps values n p distinct.1 (omega (arith, long)) at in
    record { value = rest.value; at_slot = rest.at_slot; by_name = behind slots q ps (val_of v) (map val_of values) p.name (other_name q.name p.name (others_at q.name ps n p distinct.0 at)) ∙ rest.by_name }

-- what a slot holds of a property that expressions see
seen_field : (properties : PropertiesByType) (type : PropertyType) (wanted : ExprType) (seen : ValAtType) → IsSeenAs type wanted → field_of properties type seen ≡ present (seen properties wanted)
seen_field properties (declared type) wanted seen is = ap (λ t. present (seen properties t)) is
seen_field properties opaque wanted seen is = absurd is
seen_field properties (navigation None) wanted seen is = absurd is
seen_field properties (navigation (Some type)) wanted seen is = ap (λ t. present (seen properties t)) is

seen_type : (slots : Slots) (type : PropertyType) (wanted : ExprType) (v : Val) → IsSeenAs type wanted → HasPropertyType slots type (present v) → HasType slots wanted v
seen_type slots (declared type) wanted v is typed = subst (λ t. HasType slots t v) is typed
seen_type slots opaque wanted v is typed = absurd is
seen_type slots (navigation None) wanted v is typed = absurd is
seen_type slots (navigation (Some type)) wanted v is typed = subst (λ t. HasType slots t v) is typed

pub slot_value : (row : Row) (entity : IsEntity row) (slot : ℕ) (p : PropertyModel) (type : ExprType)
    → slice_get (properties_at row.schema row.type_id) slot ≡ Some p → IsSeenAs p.type_of type
    → IsSlotValue row entity.holds_slots.slots.items slot p.name type
slot_value row entity slot p type at seen =
    let slots : Slots = slots_of row.schema in
    let expansion : PathSet = paths_in row.expansion in
    let properties : List PropertyModel = properties_at row.schema row.type_id in
    let values : List Value = entity.holds_slots.slots.items in
    let name : List ℕ = type_name_at row.schema row.type_id in
    let f : (List ℕ → FieldVal) = field_by_name slots.properties properties (map val_of values) in
    let record_is : value_of row ≡ fields f =
    ap (λ (v : Value). val_of v slots.properties (single (structured name))) entity.holds_slots.value_is ∙ val_of-Record slots (single (structured name)) entity.holds_slots.slots in
    let fits : FitsRecord properties entity.conforms.0 f (λ p. FitsProperty (expanded slots (below expansion p.name)) p.nullable p.type_of (get p.name entity.conforms.0) (f p.name)) =
    subst (Fits (slots_for row) name entity.conforms.0) record_is entity.conforms.1 in
    let here_found = slot_found slots properties values slot p entity.distinct entity.holds_slots.as_many at in
    let under : f p.name ≡ present (val_of here_found.value slots.properties type) = here_found.by_name ∙ seen_field slots.properties p.type_of type (val_of here_found.value) seen in
    let fits_here : FitsProperty (expanded slots (below expansion p.name)) p.nullable p.type_of (get p.name entity.conforms.0) (f p.name) =
    each_at (λ q. FitsProperty (expanded slots (below expansion q.name)) q.nullable q.type_of (get q.name entity.conforms.0) (f q.name)) properties slot p fits.each_fits at in
    let typed : HasPropertyType slots p.type_of (f p.name) = held_has_type slots (below expansion p.name) p.nullable p.type_of (get p.name entity.conforms.0) (f p.name) fits_here in
    record {
      value = here_found.value;
      at_slot = here_found.at_slot;
      has_type = seen_type slots p.type_of type (val_of here_found.value slots.properties type) seen (subst (HasPropertyType slots p.type_of) under typed);
      by_name = f;
      is_record = record_is;
      under_name = under;
    }
