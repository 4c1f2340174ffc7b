-- One member more of a row, by what its slot is.
use Rattle.std.proofs.Common.{◌≡◌, ◌≢◌, ◌⊎◌, ◌+◌, ◌^◌, ◌<◌, ◌≤◌, ℕ, zero, suc, List, [], ◌∷◌, inl, inr, length, get_or, map, Bool, true, false, Option, None, Some, IfSome, Bor, slice_get, slice_set, bit_or, refl, sym, ap, ◌∙◌, subst, arith}
use Rattle.std.proofs.lemmas.Bool.{true≢false}
use Rattle.std.specs.Int.{bit_at}
use Rattle.std.specs.Prelude.{option_map}
use Rattle.csdl_schema.specs.SchemaModel.{HasDistinctNames, PropertyModel, SchemaModel, properties_at, slots_behind}
use Rattle.json_room.specs.private.Lexemes.{PassesSpaces}
use Rattle.edm_values.specs.declared.value.Value.{Value}
use Rattle.edm_row_plans.specs.Plans.{IsPlanOf, IsSlotPlan}
use Rattle.edm_row_plans.specs.declared.row_plan.RowPlan.{RowPlan}
use Rattle.edm_row_plans.specs.declared.type_plan.TypePlan.{TypePlan}
use Rattle.edm_entities.specs.Row.{val_of}
use Rattle.edm_rows.specs.private.Passed.{FitsSomeProperty}
use Rattle.edm_rows.specs.declared.kept_leaf.Taken.{Taken}
use Rattle.edm_rows.specs.declared.members.After.{After}
use Rattle.edm_rows.specs.declared.members.Found.{Found}
use Rattle.edm_rows.specs.declared.passed_value.ReadContext.{ReadContext}
use Rattle.edm_rows.specs.declared.row_types.RowSlot.{RowSlot}
use Rattle.edm_rows.specs.declared.row_types.RowType.{RowType}
use Rattle.json_room.specs.ValueStands.{ValueStands}
use Rattle.json_room.specs.private.ValuesStand.{NamesTo}
use Rattle.edm_rows.specs.private.Held.{IsHeldTo}
use Rattle.edm_rows.specs.private.HeldRows.{AreTypesOf, HasFirstType}
use Rattle.edm_rows.specs.private.KeptRows.{GoesOn, IsRejectedIn, IsRootSlot, IsRootType, IsTakenAs, ReadsRow, RowConforms, TakesValue, root_properties, root_slots}
use Rattle.edm_rows.specs.private.Members.{EndsMember, NamesSlot, PassesOther}
use Rattle.edm_rows.specs.private.RowSlots.{AreRowTypes, IsRowSlot, IsRowType, kinds_of}
use Rattle.edm_rows.specs.private.Contexts.{FindsMember, FindsSlot, IsContext, PassesValue, slots_behind_node}
use Rattle.edm_rows.specs.private.KeptSoFar.{FillsAbsent, KeptRead, KeptUpTo}
use Rattle.edm_rows.specs.private.SeenSlots.{HasMark}
use Rattle.edm_rows.proofs.KeptMembers.{kept_brace, kept_empty, other_taken, passed_left_out, passed_unkept, rejected_now, taken}
use Rattle.edm_rows.proofs.RootEnds.{rows_long}
use Rattle.edm_rows.proofs.KeptSlots.{conforms_set, slot_stays}
use Rattle.json_room.proofs.Places.{reads_to_as}
use Rattle.edm_rows.proofs.NextMembers.{at_within, slot_there}
use Rattle.edm_rows.proofs.ValuesKept.{in_slot}

-- a slot of the row's own type
abbrev pub root_slot : (context : ReadContext) (type : RowType) (index : ℕ) (slot : RowSlot) → IsRootType context type → slice_get type.slots.items index ≡ Some slot → IsRootSlot context slot
root_slot context type index slot root at =
    let schema = context.schema.now in
    let steps = context.plan.now.expansion in
    let plans = context.plan.now.plans.items in
    let there = slot_there schema steps plans root.plan type index slot root.is at in
    record {
      plan = root.plan;
      node = sym root.is.of_type.1 ∙ root.node;
      type_id = sym root.is.of_type.0 ∙ root.type_id;
      planned = there.slot_plan;
      of_plan = root.of_plan;
      is_planned = subst (λ (k : ℕ). IsSlotPlan schema steps root.plan.type_id root.plan.node k there.slot_plan) (sym there.row.index_is) there.planned;
      is = subst (λ (k : ℕ). IsRowSlot schema steps plans k there.slot_plan slot) (sym there.row.index_is) there.row;
    }

first_there : {X : Type 0} (xs : List X) → 0 < length xs → (x : X) × (slice_get xs 0 ≡ Some x)
first_there [] less = absurd (omega (arith, less))
first_there (x ∷ xs) less = (x, refl)

-- the first of a context's types is the row's own
pub root_type : (context : ReadContext) → IsContext context → (first : HasFirstType context.plan.now context.types.now) → IsPlanOf context.schema.now context.plan.now → IsRootType context first.type
root_type context is first of_plan =
    let plans = context.plan.now.plans.items in
    let p = first_there plans (subst (λ (n : ℕ). 0 < n) is.0.count (at_within context.types.now 0 first.type first.at)) in
    let both = subst (λ (o : Option RowType). IfSome o (λ t. IfSome (slice_get plans 0) (λ q. IsRowType context.schema.now context.plan.now.expansion plans q t))) first.at (is.0.each 0) in
    record {
      plan = p.0;
      of_plan = of_plan;
      is = subst (λ (o : Option TypePlan). IfSome o (λ q. IsRowType context.schema.now context.plan.now.expansion plans q first.type)) p.1 both;
      node = first.node;
      type_id = first.type_id;
    }

-- which stands first
pub root_first : (context : ReadContext) (type : RowType) → slice_get context.types.now 0 ≡ Some type → IsContext context → HasFirstType context.plan.now context.types.now → IsPlanOf context.schema.now context.plan.now → IsRootType context type
root_first context type at is first of_plan = subst (IsRootType context) (some_same first.type type (sym first.at ∙ at)) (root_type context is first of_plan)
  where
    some_same : (x y : RowType) → Some x ≡ Some y → x ≡ y
    some_same x y e = cc

-- the types of a plan whose first is that of its rows
pub types_of_plan : (schema : SchemaModel) (plan : RowPlan) (types : List RowType) (p : TypePlan) → AreRowTypes schema plan.expansion plan.plans.items types → slice_get plan.plans.items 0 ≡ Some p → p.type_id ≡ plan.type_id → p.node ≡ Some 0
    → plan.is_whole ≡ true → AreTypesOf schema plan types
types_of_plan schema plan types p are at of_type of_node whole =
    let t = first_there types (subst (λ (n : ℕ). 0 < n) (sym are.count) (at_within plan.plans.items 0 p at)) in
    let both = subst (λ (o : Option RowType). IfSome o (λ x. IfSome (slice_get plan.plans.items 0) (λ q. IsRowType schema plan.expansion plan.plans.items q x))) t.1 (are.each 0) in
    let is = subst (λ (o : Option TypePlan). IfSome o (λ q. IsRowType schema plan.expansion plan.plans.items q t.0)) at both in
    record { is_whole = whole; each = are; first = record { type = t.0; at = t.1; type_id = is.of_type.0 ∙ of_type; node = is.of_type.1 ∙ of_node } }

-- ---- a member whose slot was found

pub record FoundSlot (context : ReadContext) (rows : List RowSlot) (place value : ℕ) (slot : RowSlot) : Type 0 where
  pub distinct : HasDistinctNames (root_properties context)
  pub root : IsRootSlot context slot
  pub is_slot : slice_get rows slot.index ≡ Some slot
  pub name : List ℕ
  pub names : NamesTo context.line place name value
  pub named : slice_get (map (λ p. p.name) (root_properties context)) slot.index ≡ Some name
  pub within : slot.index < length (root_properties context)
  pub mark : (words : ℕ) → length rows ≤ words → HasMark words slot

pub found_slot : (context : ReadContext) (type : RowType) (index place value : ℕ) (slot : RowSlot) → IsRootType context type → slice_get type.slots.items index ≡ Some slot → NamesSlot context.line (properties_at context.schema.now type.type_id) place index value
    → FoundSlot context type.slots.items place value slot
found_slot context type index place value slot root at (name, names, named) =
    let is = root_slot context type index slot root at in
    let same : index ≡ slot.index = sym (slot_there context.schema.now context.plan.now.expansion context.plan.now.plans.items root.plan type index slot root.is at).row.index_is in
    let here = subst (λ (k : ℕ). slice_get (map (λ p. p.name) (root_properties context)) k ≡ Some name) same (subst (λ (i : ℕ). slice_get (map (λ p. p.name) (properties_at context.schema.now i)) index ≡ Some name) root.type_id named) in
    record {
      distinct = subst (λ (i : ℕ). HasDistinctNames (properties_at context.schema.now i)) is.type_id root.is.is_plan.distinct;
      root = is;
      is_slot = subst (λ (k : ℕ). slice_get type.slots.items k ≡ Some slot) same at;
      name = name;
      names = names;
      named = here;
      within = named_within (root_properties context) slot.index name here;
      mark = λ words room. record {
        within = omega (arith, room, subst (λ (k : ℕ). k < length type.slots.items) same (at_within type.slots.items index slot at));
        bit = is.is.bit;
      };
    }
  where
    named_within : (ps : List PropertyModel) (n : ℕ) (s : List ℕ) → slice_get (map (λ p. p.name) ps) n ≡ Some s → n < length ps
    named_within [] n s e = absurd (cc)
    named_within (p ∷ ps) zero s e = omega arith
    named_within (p ∷ ps) (suc n) s e = omega (arith, named_within ps n s e)

module _ (context : ReadContext) (rows : List RowSlot) (from place value end seen : ℕ) (slot : RowSlot) (found : FoundSlot context rows place value slot) where
  -- what the task holds to fits the property
  passes : (depth : ℕ) → PassesValue context slot slot.task depth value end
      → ValueStands depth context.line value end (λ json. IfSome (slice_get (root_properties context) slot.index) (λ p. FitsSomeProperty (slots_behind (root_slots context) p.name) p.nullable p.type_of (Some json)))
  passes depth passed =
      reads_to_as depth context.line value end (IsHeldTo (slots_behind_node context slot.node) (kinds_of context.schema.now context.plan.now.plans.items slot) slot.is_nullable slot.item slot.task)
      (λ json. IfSome (slice_get (root_properties context) slot.index) (λ p. FitsSomeProperty (slots_behind (root_slots context) p.name) p.nullable p.type_of (Some json)))
      (λ json held. in_slot context slot found.root (λ slots nullable type. FitsSomeProperty slots nullable type (Some json)) (found.root.is.fits json held)) passed

  pub put_read : (values : List Value) (v : Value) → KeptUpTo context rows from place seen false values → ValueStands context.depth context.line value end (IsTakenAs context slot (val_of v)) → KeptRead context rows from end (bit_or seen (2 ^ slot.index)) false (slice_set values slot.index v)
  put_read values v so_far reads = taken context rows found.distinct from place value end seen slot found.name found.is_slot found.named found.names found.within values v so_far reads

  pub rejected_read : (values : List Value) → slot.is_kept ≡ true → KeptUpTo context rows from place seen false values → ValueStands context.depth context.line value end (IsRejectedIn context slot slot.sieve) → KeptRead context rows from end (bit_or seen (2 ^ slot.index)) true values
  rejected_read values kept so_far reads = rejected_now context rows found.distinct from place value end seen slot found.name found.is_slot found.named found.names found.within values kept so_far reads

  pub unkept_read : (values : List Value) → slot.is_kept ≡ false → length values ≡ length (root_properties context) → KeptUpTo context rows from place seen false values → PassesValue context slot slot.task context.depth value end
      → KeptRead context rows from end (bit_or seen (2 ^ slot.index)) false values
  unkept_read values unkept long so_far passed =
      passed_unkept context rows found.distinct from place value end seen slot found.name found.is_slot found.named found.names found.within values unkept long so_far (passes context.depth passed)

  pub left_out_read : (values : List Value) → (slot.is_kept ≡ true → bit_at seen slot.index ≡ 0) → KeptUpTo context rows from place seen true values → PassesValue context slot slot.task context.depth value end → KeptRead context rows from end (bit_or seen (2 ^ slot.index)) true values
  left_out_read values fresh so_far passed =
      passed_left_out context rows found.distinct from place value end seen slot found.name found.is_slot found.named found.names found.within values fresh so_far (passes context.depth passed)

  -- the values go on to conform
  pub conforms_on : (values : List Value) (old v : Value) → slice_get values slot.index ≡ Some old → GoesOn context slot old v → RowConforms (root_slots context) (root_properties context) values
      → RowConforms (root_slots context) (root_properties context) (slice_set values slot.index v)
  conforms_on values old v there (inl same) conforms = subst (RowConforms (root_slots context) (root_properties context)) (sym (slot_stays values slot.index v (there ∙ ap Some (sym same)))) conforms
  conforms_on values old v there (inr put) conforms =
      conforms_set (root_slots context) (root_properties context) found.distinct values slot.index v found.name found.named put.0 put.1 put.2 conforms

-- ---- what a member that was found makes of the row

-- a member of no slot
pub none_read : (context : ReadContext) (type : RowType) (from place value seen : ℕ) (is_left_out : Bool) (values : List Value) → IsRootType context type → FindsSlot context type context.depth place None value → KeptUpTo context type.slots.items from place seen is_left_out values
    → KeptRead context type.slots.items from value seen is_left_out values
none_read context type from place value seen is_left_out values root passes so_far =
    other_taken context type.slots.items from place value seen is_left_out values so_far (subst (λ (i : ℕ). PassesOther context.depth context.line (properties_at context.schema.now i) place value) root.type_id passes)

-- the slot of one
pub slot_found : (context : ReadContext) (type : RowType) (place value : ℕ) (slot : RowSlot) → IsRootType context type → FindsSlot context type context.depth place (Some slot) value → FoundSlot context type.slots.items place value slot
slot_found context type place value slot root (index, at, names) = found_slot context type index place value slot root at names

pub slot_in : (context : ReadContext) (type : RowType) (place : ℕ) (found : Found) (slot : Bor RowSlot) → found.slot ≡ Some slot → IsRootType context type → FindsMember context type context.depth place found → FoundSlot context type.slots.items place found.place slot.now
slot_in context type place found slot is root finds =
    slot_found context type place found.place slot.now root (subst (λ (o : Option (Bor RowSlot)). FindsSlot context type context.depth place (option_map (λ s. s.now) o) found.place) is finds)

pub none_in : (context : ReadContext) (type : RowType) (from place seen : ℕ) (is_left_out : Bool) (values : List Value) (found : Found) → found.slot ≡ None → IsRootType context type → FindsMember context type context.depth place found → KeptUpTo context type.slots.items from place seen is_left_out values
    → KeptRead context type.slots.items from found.place seen is_left_out values
none_in context type from place seen is_left_out values found is root finds so_far =
    none_read context type from place found.place seen is_left_out values root (subst (λ (o : Option (Bor RowSlot)). FindsSlot context type context.depth place (option_map (λ s. s.now) o) found.place) is finds) so_far

pub none_bounds : (context : ReadContext) (type : RowType) (place : ℕ) (found : Found) → found.slot ≡ None → FindsMember context type context.depth place found → (place < found.place) × (found.place ≤ length context.line)
none_bounds context type place found is finds = go (subst (λ (o : Option (Bor RowSlot)). FindsSlot context type context.depth place (option_map (λ s. s.now) o) found.place) is finds)
  where
    go : FindsSlot context type context.depth place None found.place → (place < found.place) × (found.place ≤ length context.line)
    go (name, value, names, others, reads) = (omega (arith, names.bounds.0, reads.bounds.0), reads.bounds.1)

-- where a value ends that was passed
pub further_on : (context : ReadContext) (slot : RowSlot) (place value end order : ℕ) → place < value → PassesValue context slot slot.task context.depth value end → order < 1024 → (place < end) × (end ≤ length context.line) × (order < 1024)
further_on context slot place value end order less passed of_order = (omega (arith, less, passed.bounds.0), passed.bounds.1, of_order)

module _ (context : ReadContext) (type : RowType) (from place value seen : ℕ) (slot : RowSlot) (found : FoundSlot context type.slots.items place value slot) (values : List Value) (long : length values ≡ length (root_properties context)) where
  passed_by : (b : Bool) (end : ℕ) → (slot.is_kept ≡ false) ⊎ ((b ≡ true) × (bit_at seen slot.index ≡ 0)) → KeptUpTo context type.slots.items from place seen b values → PassesValue context slot slot.task context.depth value end
      → KeptRead context type.slots.items from end (bit_or seen (2 ^ slot.index)) b values
  passed_by true end (inl unkept) so_far passed = left_out_read context type.slots.items from place value end seen slot found values (λ kept. absurd (true≢false (sym kept ∙ unkept))) so_far passed
  passed_by true end (inr both) so_far passed = left_out_read context type.slots.items from place value end seen slot found values (λ _. both.1) so_far passed
  passed_by false end (inl unkept) so_far passed = unkept_read context type.slots.items from place value end seen slot found values unkept long so_far passed
  passed_by false end (inr both) so_far passed = absurd (true≢false (sym both.0))

  -- a value that was passed, and its slot is marked
  pub passed_at : (b : Bool) (end more : ℕ) → (slot.is_kept ≡ false) ⊎ ((b ≡ true) × (bit_at seen slot.index ≡ 0)) → KeptUpTo context type.slots.items from place seen b values
      → PassesValue context slot slot.task context.depth value end → more ≡ bit_or seen (2 ^ slot.index) → KeptRead context type.slots.items from end more b values
  passed_at b end more why so_far passed is = subst (λ (k : ℕ). KeptRead context type.slots.items from end k b values) (sym is) (passed_by b end why so_far passed)

  -- a value that was rejected leaves the row as it was
  pub rejected_on : (old v : Value) (end : ℕ) → slice_get values slot.index ≡ Some old → slot.is_kept ≡ true → KeptUpTo context type.slots.items from place seen false values → TakesValue context slot context.depth old v value (Taken.Rejected end)
      → KeptRead context type.slots.items from end (bit_or seen (2 ^ slot.index)) true (slice_set values slot.index v)
  rejected_on old v end there kept so_far takes =
      subst (λ (vs : List Value). KeptRead context type.slots.items from end (bit_or seen (2 ^ slot.index)) true vs) (sym (slot_stays values slot.index v (there ∙ ap Some (sym takes.1))))
      (rejected_read context type.slots.items from place value end seen slot found values kept so_far takes.0)

-- a row without members
pub row_empty : (context : ReadContext) (type : RowType) (from brace : ℕ) (old new : List Value) → IsRootType context type → FillsAbsent context type.slots.items 0 old new → length old ≡ length (root_properties context)
    → PassesSpaces context.line from brace → brace < length context.line → get_or context.line brace 32 ≡ 125 → ReadsRow context type false new from (brace + 1)
row_empty context type from brace old new root fills long passed within closes =
    ((omega (arith, passed.bounds.0), omega (arith, within)), kept_empty context type.slots.items from brace old new (rows_long context type root) fills long passed within closes)

-- a brace ends the row
pub row_ends : (context : ReadContext) (type : RowType) (b : Bool) (from end next seen : ℕ) (old new : List Value) → IsRootType context type → KeptRead context type.slots.items from end seen b old → FillsAbsent context type.slots.items seen old new
    → EndsMember context.line end (After.Brace next) → ReadsRow context type b new from next
row_ends context type b from end next seen old new root kept fills ends =
    ((omega (arith, kept.members.bounds.0, ends.0), ends.1), kept_brace context type.slots.items from end next seen b old new (rows_long context type root) fills kept ends)
