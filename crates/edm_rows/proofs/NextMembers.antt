-- The next member of an object: its name, and the slot that has it.
use Rattle.std.proofs.Common.{◌≡◌, inl, inr, ℕ, zero, suc, ◌+◌, ◌<◌, ◌≤◌, List, [], ◌∷◌, length, map, Option, Some, IfSome, slice_get, refl, sym, ap, ◌∙◌, subst, arith, get_or}
use Rattle.csdl_schema.specs.ExpansionView.{StepModel}
use Rattle.csdl_schema.specs.SchemaModel.{SchemaModel, PropertyModel, properties_at, slots_behind}
use Rattle.json_room.specs.private.Lexemes.{BeginsKey, PassesSpaces}
use Rattle.serde_json.specs.Data.{Data}
use Rattle.csdl_schema.specs.PropertyView.{property_type}
use Rattle.edm_row_plans.specs.Expanded.{slots_at}
use Rattle.edm_row_plans.specs.Plans.{IsSlotPlan}
use Rattle.edm_row_plans.specs.declared.type_plan.SlotPlan.{SlotPlan}
use Rattle.edm_row_plans.specs.declared.type_plan.TypePlan.{TypePlan}
use Rattle.edm_rows.specs.private.Passed.{FitsSeen, FitsSomeProperty}
use Rattle.edm_rows.proofs.RowLemmas.Passes.{slot_seen}
use Rattle.edm_rows.proofs.Indexes.{each_at}
use Rattle.edm_rows.proofs.RowLemmas.Plans.{slot_planned}
use Rattle.edm_rows.specs.declared.row_types.RowSlot.{RowSlot}
use Rattle.edm_rows.specs.declared.row_types.RowType.{RowType}
use Rattle.json_room.specs.ValueStands.{ValueStands}
use Rattle.edm_rows.specs.private.Members.{EndsMember, FindsName, NamesSlot, NextMember, PassesOther}
use Rattle.edm_rows.specs.private.RowSlots.{IsRowSlot, IsRowType}
use Rattle.edm_rows.specs.declared.members.After.{After}
use Rattle.json_room.proofs.Places.{close_ends, comma_ends, object_ends, names_behind, names_to, reads_behind}
use Rattle.edm_rows.proofs.Values.{some_by}
use Rattle.json.specs.Lex.{after_value}

-- ---- lists by their indexes

pub some_there : {X : Type 0} (xs : List X) (k : ℕ) → k < length xs → (x : X) × (slice_get xs k ≡ Some x)
some_there [] k within = absurd (omega (arith, within))
some_there (x ∷ xs) zero within = (x, refl)
some_there (x ∷ xs) (suc k) within = some_there xs k (omega (arith, within))

pub at_within : {X : Type 0} (xs : List X) (k : ℕ) (x : X) → slice_get xs k ≡ Some x → k < length xs
at_within [] zero x is = absurd (cc)
at_within [] (suc k) x is = absurd (cc)
at_within (y ∷ xs) zero x is = omega arith
at_within (y ∷ xs) (suc k) x is = omega (arith, at_within xs k x is)

-- ---- slots of a type

-- a slot of a type, and the slot of the plan that it is
pub record IsSlotThere (schema : SchemaModel) (steps : List StepModel) (plans : List TypePlan) (plan : TypePlan) (index : ℕ) (slot : RowSlot) : Type 0 where
  pub slot_plan : SlotPlan
  pub planned : IsSlotPlan schema steps plan.type_id plan.node index slot_plan
  pub row : IsRowSlot schema steps plans index slot_plan slot

pub slot_there : (schema : SchemaModel) (steps : List StepModel) (plans : List TypePlan) (plan : TypePlan) (type : RowType) (index : ℕ) (slot : RowSlot) → IsRowType schema steps plans plan type
    → slice_get type.slots.items index ≡ Some slot → IsSlotThere schema steps plans plan index slot
slot_there schema steps plans plan type index slot is at =
    let within : index < length type.slots.items = at_within type.slots.items index slot at in
    let p = some_there plan.slots.items index (omega (arith, is.count, within)) in
    let both = each_at (λ k s. IfSome (slice_get plan.slots.items k) (λ q. IsRowSlot schema steps plans k q s)) type.slots.items index slot is.each at in
    record {
      slot_plan = p.0;
      planned = slot_planned schema steps plan index p.0 is.is_plan p.1;
      row = subst (λ o. IfSome o (λ q. IsRowSlot schema steps plans index q slot)) p.1 both;
    }

-- of a slot of a type the property has the slot's name
pub slot_named : (schema : SchemaModel) (steps : List StepModel) (plans : List TypePlan) (plan : TypePlan) (type : RowType) (index : ℕ) (slot : RowSlot) → IsRowType schema steps plans plan type
    → slice_get type.slots.items index ≡ Some slot → slice_get (map (λ p. p.name) (properties_at schema type.type_id)) index ≡ Some slot.key
slot_named schema steps plans plan type index slot is at =
    each_at (λ k (s : RowSlot). slice_get (map (λ q. q.name) (properties_at schema type.type_id)) k ≡ Some s.key) type.slots.items index slot is.named at

-- what fits the property of a slot's plan fits that of its type
pub property_fits : (schema : SchemaModel) (steps : List StepModel) (plan : TypePlan) (type : RowType) (index : ℕ) (p : SlotPlan) (plans : List TypePlan) → IsRowType schema steps plans plan type
    → IsSlotPlan schema steps plan.type_id plan.node index p → (found : Option Data) → FitsSomeProperty (slots_at schema steps p.node) p.property.nullable (property_type schema p.property) found
    → IfSome (slice_get (properties_at schema type.type_id) index) (λ q. FitsSomeProperty (slots_behind (slots_at schema steps type.node) q.name) q.nullable q.type_of found)
property_fits schema steps plan type index p plans is planned found fits =
    subst (λ node. IfSome (slice_get (properties_at schema type.type_id) index) (λ q. FitsSomeProperty (slots_behind (slots_at schema steps node) q.name) q.nullable q.type_of found)) (sym is.of_type.1)
    (subst (λ id. IfSome (slice_get (properties_at schema id) index) (λ q. FitsSomeProperty (slots_behind (slots_at schema steps plan.node) q.name) q.nullable q.type_of found)) (sym is.of_type.0)
    (some_by (slice_get (properties_at schema plan.type_id) index) (λ q. FitsSeen (slots_behind (slots_at schema steps plan.node) q.name) q.nullable q.type_of found fits.0)
    (λ q. FitsSomeProperty (slots_behind (slots_at schema steps plan.node) q.name) q.nullable q.type_of found) (λ q seen. (fits.0, seen)) (slot_seen schema steps plan index p found fits.0 planned fits.1)))

-- where its name stands
pub slot_stands : (line : List ℕ) (ps : List PropertyModel) (index from to : ℕ) (name : List ℕ) → from < to → BeginsKey line from name to → slice_get (map (λ p. p.name) ps) index ≡ Some name → NamesSlot line ps from index to
slot_stands line ps index from to name further begins at = (name, names_to line from name to further begins, at)

pub slot_behind : (line : List ℕ) (ps : List PropertyModel) (index from place to : ℕ) → PassesSpaces line from place → NamesSlot line ps place index to → NamesSlot line ps from index to
slot_behind line ps index from place to passed (name, named, at) = (name, names_behind line from place name to passed named, at)

-- ---- the next member

-- its name was found, and where that is no slot's its value is passed
pub name_next : (depth : ℕ) (line : List ℕ) (ps : List PropertyModel) (slot from place value : ℕ) → PassesSpaces line from place → slot < length ps → FindsName line ps slot place value → NextMember depth line ps slot from value
name_next depth line ps slot from place value passed within (name, named, inl (is, at)) = inl (within, (name, names_behind line from place name value passed named, at))
name_next depth line ps slot from place value passed within (name, named, inr (past, others)) = absurd (omega (arith, past, within))

pub other_next : (depth : ℕ) (line : List ℕ) (ps : List PropertyModel) (slot from place value begin to : ℕ) → PassesSpaces line from place → length ps ≤ slot → FindsName line ps slot place value → PassesSpaces line value begin
    → ValueStands depth line begin to (λ json. Unit {0}) → NextMember depth line ps slot from to
other_next depth line ps slot from place value begin to passed past (name, named, inl (within, at)) spaces reads = absurd (omega (arith, past, within))
other_next depth line ps slot from place value begin to passed past (name, named, inr (_, others)) spaces reads =
    inr (past, (name, value, names_behind line from place name value passed named, others, reads_behind depth line value begin to (λ json. Unit {0}) spaces reads))

-- which of the two it is
pub slot_of_next : (depth : ℕ) (line : List ℕ) (ps : List PropertyModel) (slot from to : ℕ) → slot < length ps → NextMember depth line ps slot from to → NamesSlot line ps from slot to
slot_of_next depth line ps slot from to within (inl next) = next.1
slot_of_next depth line ps slot from to within (inr next) = absurd (omega (arith, within, next.0))

pub other_of_next : (depth : ℕ) (line : List ℕ) (ps : List PropertyModel) (slot from to : ℕ) → length ps ≤ slot → NextMember depth line ps slot from to → PassesOther depth line ps from to
other_of_next depth line ps slot from to past (inl next) = absurd (omega (arith, past, next.0))
other_of_next depth line ps slot from to past (inr next) = next.1

-- as many slots as properties
pub as_many : (schema : SchemaModel) (steps : List StepModel) (plans : List TypePlan) (plan : TypePlan) (type : RowType) → IsRowType schema steps plans plan type → length type.slots.items ≡ length (properties_at schema type.type_id)
as_many schema steps plans plan type is = is.count ∙ is.is_plan.planned.count ∙ ap (λ id. length (properties_at schema id)) (sym is.of_type.0)

-- what comes after a member
pub comma_member : (line : List ℕ) (end place : ℕ) → PassesSpaces line end place → place < length line → get_or line place 32 ≡ 44 → EndsMember line end (After.Comma (place + 1))
comma_member line end place passed within is =
    let ended = comma_ends line end place passed within is in
    (omega (arith, passed.bounds.0), omega (arith, within), ended.0, ended.1)

pub brace_member : (line : List ℕ) (end place : ℕ) → PassesSpaces line end place → place < length line → get_or line place 32 ≡ 125 → EndsMember line end (After.Brace (place + 1))
brace_member line end place passed within is =
    (omega (arith, passed.bounds.0), omega (arith, within), close_ends line end place 125 passed within is (inl refl), object_ends after_value line end place refl passed within is)
