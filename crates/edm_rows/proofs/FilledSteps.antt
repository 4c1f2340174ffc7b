-- One member more of an object that fills a record, by what its slot is.
use Rattle.std.proofs.Common.{◌≡◌, ⊎_elim, ◌^◌, ℕ, ◌<◌, ◌≤◌, List, length, map, slice_get, slice_set, Bool, false, Option, None, Some, IfSome, Bor, bit_or, sym, ap, ◌∙◌, subst, arith}
use Rattle.std.specs.Prelude.{option_map}
use Rattle.serde_json.specs.Data.{Data}
use Rattle.csdl_schema.specs.PropertyView.{property_type}
use Rattle.csdl_schema.specs.SchemaModel.{HasDistinctNames, PropertyType, Slots, properties_at, slots_behind}
use Rattle.edm_values.specs.declared.value.Value.{Value}
use Rattle.edm_row_plans.specs.Expanded.{slots_at}
use Rattle.edm_row_plans.specs.declared.type_plan.TypePlan.{TypePlan}
use Rattle.edm_entities.specs.Row.{ValAtType, val_of}
use Rattle.edm_rows.specs.private.Held.{IsHeldTo}
use Rattle.edm_rows.specs.private.KeptRows.{names_passed}
use Rattle.edm_rows.specs.private.Passed.{FitsSeen, FitsSomeProperty, SeenAlike}
use Rattle.edm_entities.specs.private.Walk.{HoldsInSlot}
use Rattle.edm_rows.proofs.RowLemmas.SlotTexts.{slot_declared}
use Rattle.edm_rows.proofs.SlotsHeld.{slot_within}
use Rattle.edm_rows.specs.declared.members.Found.{Found}
use Rattle.edm_rows.specs.declared.passed_value.ReadContext.{ReadContext}
use Rattle.edm_rows.specs.declared.row_types.RowSlot.{RowSlot}
use Rattle.edm_rows.specs.declared.row_types.RowType.{RowType}
use Rattle.edm_rows.specs.private.Filled.{FilledRead, FilledUpTo, FillsSlot, IsAmongTypes, IsFilledIn, IsFilledInBut}
use Rattle.json_room.specs.private.ValuesStand.{NamesTo}
use Rattle.edm_rows.specs.private.Members.{PassesOther}
use Rattle.edm_rows.specs.private.RowSlots.{IsRowType, IsSlotOf, IsTaskOf, kinds_of}
use Rattle.edm_rows.specs.private.SeenSlots.{HasMark}
use Rattle.edm_rows.specs.private.Contexts.{FindsMember, FindsSlot, slots_behind_node}
use Rattle.edm_rows.proofs.FilledMembers.{filled_slot, passed_slot}
use Rattle.edm_rows.proofs.NextMembers.{at_within, slot_there}
use Rattle.edm_rows.proofs.SlotMarks.{mapped_at}
use Rattle.edm_rows.proofs.ValuesBut.{property_but}

-- JSON that a slot's task holds to
abbrev pub IsPassedIn : ReadContext → RowSlot → Data → Type 0
IsPassedIn context slot json =
    IsHeldTo (slots_behind_node context slot.node) (kinds_of context.schema.now context.plan.now.plans.items slot) slot.is_nullable slot.item slot.task json

-- a member whose slot was found: its name, and what its slot is
pub record SlotFound (context : ReadContext) (type : RowType) (place value : ℕ) (slot : RowSlot) : Type 0 where
  pub name : List ℕ
  pub names : NamesTo context.line place name value
  pub named : slice_get (map (λ p. p.name) (properties_at context.schema.now type.type_id)) slot.index ≡ Some name
  pub within : slot.index < length (properties_at context.schema.now type.type_id)
  pub is_slot : slice_get type.slots.items slot.index ≡ Some slot
  pub agrees : IsSlotOf context.plan.now.plans.items slot
  pub task : IsTaskOf slot slot.task
  pub order : slot.order < 1024
  pub passes : (json : Data) → IsPassedIn context slot json
      → IfSome (slice_get (properties_at context.schema.now type.type_id) slot.index) (λ p. FitsSomeProperty (slots_behind (slots_behind_node context type.node) p.name) p.nullable p.type_of (Some json))
  pub fits : (v : Value) (json : Data) → IsFilledIn context slot slot.task v json
      → IfSome (slice_get (properties_at context.schema.now type.type_id) slot.index) (λ p. FitsSeen (slots_behind (slots_behind_node context type.node) p.name) p.nullable p.type_of (Some json) (val_of v))
      × IfSome (slice_get (properties_at context.schema.now type.type_id) slot.index) (λ p. HoldsInSlot (slots_behind (slots_behind_node context type.node) p.name) p.type_of v)
  pub alike : (v : Value) (json : Data) → IsFilledInBut context slot slot.task v json
      → (seen : ValAtType) × IfSome (slice_get (properties_at context.schema.now type.type_id) slot.index) (λ p. FitsSeen (slots_behind (slots_behind_node context type.node) p.name) p.nullable p.type_of (Some json) seen)
      × IfSome (slice_get (properties_at context.schema.now type.type_id) slot.index) (λ p. SeenAlike (slots_behind (slots_behind_node context type.node) p.name) (names_passed context) p.type_of (val_of v) seen)
  pub mark : (words : ℕ) → length type.slots.items ≤ words → HasMark words slot

pub slot_found_in : (context : ReadContext) (plan : TypePlan) (type : RowType) (depth place : ℕ) (found : Found) (slot : Bor RowSlot) → found.slot ≡ Some slot → IsRowType context.schema.now context.plan.now.expansion context.plan.now.plans.items plan type
    → FindsMember context type depth place found → SlotFound context type place found.place slot.now
slot_found_in context plan type depth place found slot is_slot is finds = go (subst (λ (o : Option (Bor RowSlot)). FindsSlot context type depth place (option_map (λ s. s.now) o) found.place) is_slot finds)
  where
    go : FindsSlot context type depth place (Some slot.now) found.place → SlotFound context type place found.place slot.now
    go (index, at, (name, names, named)) =
        let schema = context.schema.now in
        let steps = context.plan.now.expansion in
        let plans = context.plan.now.plans.items in
        let made = slot_there schema steps plans plan type index slot.now is at in
        let same = sym made.row.index_is in
        let here : slice_get (map (λ p. p.name) (properties_at schema type.type_id)) slot.now.index ≡ Some name = subst (λ (k : ℕ). slice_get (map (λ p. p.name) (properties_at schema type.type_id)) k ≡ Some name) same named in
        let Declared : (Slots → Bool → PropertyType → Type 0) → Type 0 = λ P. IfSome (slice_get (properties_at schema type.type_id) slot.now.index) (λ p. P (slots_behind (slots_at schema steps type.node) p.name) p.nullable p.type_of) in
        let declared : (P : Slots → Bool → PropertyType → Type 0) → P (slots_at schema steps made.slot_plan.node) made.slot_plan.property.nullable (property_type schema made.slot_plan.property) → Declared P = λ P holds.
        subst (λ (k : ℕ). IfSome (slice_get (properties_at schema type.type_id) k) (λ p. P (slots_behind (slots_at schema steps type.node) p.name) p.nullable p.type_of)) same
        (subst (λ (node : Option ℕ). IfSome (slice_get (properties_at schema type.type_id) index) (λ p. P (slots_behind (slots_at schema steps node) p.name) p.nullable p.type_of)) (sym is.of_type.1)
        (subst (λ (id : ℕ). IfSome (slice_get (properties_at schema id) index) (λ p. P (slots_behind (slots_at schema steps plan.node) p.name) p.nullable p.type_of)) (sym is.of_type.0)
        (slot_declared schema steps plan index made.slot_plan P made.planned holds))) in
        record {
          name = name;
          names = names;
          named = here;
          within = slot_within (properties_at schema type.type_id) slot.now.index name here;
          is_slot = subst (λ (k : ℕ). slice_get type.slots.items k ≡ Some slot.now) same at;
          agrees = made.row.agrees;
          task = made.row.task;
          order = made.row.order;
          passes = λ json held. declared (λ slots nullable t. FitsSomeProperty slots nullable t (Some json)) (made.row.fits json held);
          fits = λ v json filled.
              let fits = made.row.fills v json filled in
              (declared (λ slots nullable t. FitsSeen slots nullable t (Some json) (val_of v)) fits.0, declared (λ slots nullable t. HoldsInSlot slots t v) fits.1);
          alike = λ v json filled.
              let but = property_but schema steps plans index made.slot_plan slot.now made.row (names_passed context) v json filled in
              (but.0, declared (λ slots nullable t. FitsSeen slots nullable t (Some json) but.0) but.1, declared (λ slots nullable t. SeenAlike slots (names_passed context) t (val_of v) but.0) but.2);
          mark = λ words room. record {
            within = omega (arith, room, subst (λ (k : ℕ). k < length type.slots.items) same (at_within type.slots.items index slot.now at));
            bit = made.row.bit;
          };
        }

module _ (context : ReadContext) (plan : TypePlan) (type : RowType) (depth from place value end seen : ℕ) (slot : RowSlot) (values : List Value) (v : Value) (is : IsRowType context.schema.now context.plan.now.expansion context.plan.now.plans.items plan type)
    (among : IsAmongTypes context type) (found : SlotFound context type place value slot) (so_far : FilledUpTo context type depth from place seen values) where
  distinct : HasDistinctNames (properties_at context.schema.now type.type_id)
  distinct = subst (λ id. HasDistinctNames (properties_at context.schema.now id)) (sym is.of_type.0) is.is_plan.distinct

  -- the name of a slot that is not kept is passed over
  passed_name : slot.is_kept ≡ false → names_passed context found.name
  passed_name unkept = (among.0, type, among.1, (slot.index, mapped_at (λ s. s.is_kept) type.slots.items slot.index slot found.is_slot ∙ ap Some unkept, found.named))

  pub slot_filled_read : FillsSlot context slot depth v value end → FilledRead context type depth from end (bit_or seen (2 ^ slot.index)) (slice_set values slot.index v)
  slot_filled_read fills =
      let json = fills.1.0 in
      let both = found.fits v json fills.1.1 in
      ⊎_elim
      (λ stands. filled_slot context type depth from place value end seen slot.index found.name values v distinct found.within found.named json both.0 both.1 so_far found.names (IsFilledInBut context slot slot.task v) (found.alike v) stands)
      (λ passed. passed_slot context type depth from place value end seen slot.index found.name values v distinct found.within found.named json both.0 both.1 so_far found.names (IsPassedIn context slot) (passed_name passed.0) found.passes passed.1) fills.0

-- where a slot's value ends
pub slot_bounds : (context : ReadContext) (slot : RowSlot) (depth : ℕ) (v : Value) (from to : ℕ) → FillsSlot context slot depth v from to → from < to
slot_bounds context slot depth v from to fills = ⊎_elim (λ stands. stands.bounds.0) (λ passed. passed.1.bounds.0) fills.0

-- a member of no slot
pub no_slot_in : (context : ReadContext) (type : RowType) (depth place : ℕ) (found : Found) → found.slot ≡ None → FindsMember context type depth place found → PassesOther depth context.line (properties_at context.schema.now type.type_id) place found.place
no_slot_in context type depth place found is finds = subst (λ (o : Option (Bor RowSlot)). FindsSlot context type depth place (option_map (λ s. s.now) o) found.place) is finds
