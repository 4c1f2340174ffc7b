-- Values of a row's own slots: what a leaf is fits the property of its slot.
use Rattle.std.proofs.Common.{◌≡◌, ◌≢◌, inl, inr, ℕ, List, Bool, false, Option, None, Some, IfSome, slice_get, refl, sym, ◌∙◌, subst}
use Rattle.serde_json.specs.Data.{Data}
use Rattle.json_room.specs.private.Lexemes.{PassesSpaces}
use Rattle.csdl_schema.specs.ExprType.{SingleType, primitive, single}
use Rattle.csdl_schema.specs.PropertyView.{property_type}
use Rattle.csdl_schema.specs.SchemaModel.{PropertyModel, PropertyType, Slots, declared, properties_at, slots_behind}
use Rattle.edm_values.specs.SieveMeaning.{Rejects}
use Rattle.edm_values.specs.Val.{FieldVal, Val, absent, present}
use Rattle.edm_values.specs.Val as val
use Rattle.edm_values.specs.declared.primitive.PrimitiveType.{PrimitiveType}
use Rattle.edm_values.specs.declared.sieve.Sieve.{Sieve}
use Rattle.edm_values.specs.declared.value.Value.{Value}
use Rattle.edm_row_plans.specs.Expanded.{slots_at}
use Rattle.edm_entities.specs.Fits.{FitsProperty, FitsType}
use Rattle.edm_entities.specs.Row.{val_of}
use Rattle.edm_rows.specs.private.Passed.{FitsSeen, FitsHoweverNullable, SeenAlike}
use Rattle.edm_entities.specs.private.Walk.{HoldsInSlot}
use Rattle.edm_rows.proofs.AlikeValues.{seen_alike}
use Rattle.edm_rows.proofs.ValuesBut.{property_but}
use Rattle.edm_rows.proofs.RowLemmas.Leaves.{not_null_fits}
use Rattle.edm_rows.proofs.RowLemmas.SlotTexts.{slot_declared}
use Rattle.edm_entities.proofs.SlotLemmas.EachSlot.{primitive_holds}
use Rattle.edm_rows.specs.declared.kept_leaf.Taken.{Taken}
use Rattle.edm_rows.specs.declared.kept_leaf.Taken.TheVariants.{Broken, Nothing, Put, Rejected}
use Rattle.edm_rows.specs.declared.passed_value.ReadContext.{ReadContext}
use Rattle.edm_rows.specs.declared.row_types.RowSlot.{RowSlot}
use Rattle.edm_rows.specs.declared.row_types.Task.{Task}
use Rattle.edm_rows.specs.declared.row_types.Task.TheVariants.{Any, Items, Number, Record, Text, Truth}
use Rattle.json_room.specs.ValueStands.{ValueStands}
use Rattle.edm_rows.specs.private.Filled.{FillsValue, IsFilledIn, IsFilledInBut}
use Rattle.edm_rows.specs.private.Held.{IsLeaf, type_of}
use Rattle.edm_rows.specs.private.KeptLeaves.{IsLeafOf, IsLeafRejected, PutsLeaf, TakesLeaf}
use Rattle.edm_rows.specs.private.KeptRows.{ConformsInSlot, FitsSlotAs, GoesOn, IsRejectedIn, IsRootSlot, IsTakenAs, OfSlotProperty, TakesValue, names_passed, root_properties, root_slots}
use Rattle.json_room.proofs.Places.{reads_behind, reads_to_as}
use Rattle.edm_rows.specs.private.RowSlots.{HasPrimitive, IsTaskOf, kinds_of}

-- a value that is stored as it is seen
taken_same : (context : ReadContext) (slot : RowSlot) (v : Value) (json : Data) → FitsSlotAs context slot (val_of v) json → IsTakenAs context slot (val_of v) json
taken_same context slot v json fits = (val_of v, fits, alike (slice_get (root_properties context) slot.index))
  where
    alike : (o : Option PropertyModel) → IfSome o (λ p. SeenAlike (slots_behind (root_slots context) p.name) (names_passed context) p.type_of (val_of v) (val_of v))
    alike None = tt
    alike (Some p) = seen_alike (slots_behind (root_slots context) p.name) (names_passed context) p.type_of (val_of v) (val_of v) refl

module _ (context : ReadContext) (slot : RowSlot) (root : IsRootSlot context slot) where
  abbrev inner : Slots
  inner = slots_at context.schema.now context.plan.now.expansion root.planned.node

  -- what holds of the slot's plan holds of its property
  pub in_slot : (P : Slots → Bool → PropertyType → Type 0) → P inner root.planned.property.nullable (property_type context.schema.now root.planned.property) → OfSlotProperty context slot (λ slots p. P slots p.nullable p.type_of)
  in_slot P holds =
      let schema = context.schema.now in
      let steps = context.plan.now.expansion in
      subst (λ (i : ℕ). IfSome (slice_get (properties_at schema i) slot.index) (λ p. P (slots_behind (slots_at schema steps (Some 0)) p.name) p.nullable p.type_of)) root.type_id
      (subst (λ (node : Option ℕ). IfSome (slice_get (properties_at schema root.plan.type_id) slot.index) (λ p. P (slots_behind (slots_at schema steps node) p.name) p.nullable p.type_of)) root.node
      (slot_declared schema steps root.plan slot.index root.planned P root.is_planned holds))

  module _ (leaf : IsLeaf slot.task) (some : slot.task ≢ Any) where
    abbrev task_type : SingleType
    task_type = type_of (kinds_of context.schema.now context.plan.now.plans.items slot) slot.task

    -- where the property is of the task's type
    in_leaf : (P : Slots → Bool → PropertyType → Type 0) → P inner slot.is_nullable (declared (single task_type)) → OfSlotProperty context slot (λ slots p. P slots p.nullable p.type_of)
    in_leaf P holds =
        let typed = root.is.typed leaf some in
        in_slot P (subst (λ (b : Bool). P inner b (property_type context.schema.now root.planned.property)) (sym typed.1) (subst (P inner slot.is_nullable) (sym typed.0) holds))

    pub leaf_fits : (v : Value) (json : Data) → FitsHoweverNullable inner (single task_type) v json → FitsSlotAs context slot (val_of v) json
    leaf_fits v json fits = in_leaf (λ slots nullable type. FitsSeen slots nullable type (Some json) (val_of v)) (fits slot.is_nullable)

    pub leaf_rejected : (sieve : Sieve) (json : Data) → IsLeafRejected inner task_type sieve json → IsRejectedIn context slot sieve json
    leaf_rejected sieve json is = (
      (λ properties type. (is.0 slot.is_nullable).0, in_leaf (λ slots nullable type. FitsSeen slots nullable type (Some json) (λ properties t. (is.0 slot.is_nullable).0)) (is.0 slot.is_nullable).1),
      λ held. in_leaf (λ slots nullable type. FitsProperty slots nullable type (Some json) held → (value : Val) × (held ≡ present value) × Rejects sieve value) (by held),
    )
      where
        by : (held : FieldVal) → FitsProperty inner slot.is_nullable (declared (single task_type)) (Some json) held → (value : Val) × (held ≡ present value) × Rejects sieve value
        by absent fits = absurd fits
        by (present v) fits = (v, refl, is.1 slot.is_nullable v fits)

    leaf_conforms : (v : Value) (json : Data) → FitsHoweverNullable inner (single task_type) v json → HoldsInSlot inner (declared (single task_type)) v → ConformsInSlot context slot v
    leaf_conforms v json fits holds = (json, leaf_fits v json fits, in_leaf (λ slots nullable type. HoldsInSlot slots type v) holds)

    -- a leaf of a primitive type, or of the slot's enumeration
    module _ (type : PrimitiveType) (is : task_type ≡ primitive type) where
      pub primitive_put : (line : List ℕ) (depth from to : ℕ) (v : Value) → PutsLeaf line (primitive type) v from to → ValueStands depth line from to (IsTakenAs context slot (val_of v))
      primitive_put line depth from to v puts =
          reads_to_as depth line from to (FitsHoweverNullable inner (single task_type) v) (IsTakenAs context slot (val_of v)) (λ json fits. taken_same context slot v json (leaf_fits v json fits))
          (subst (λ t. ValueStands depth line from to (FitsHoweverNullable inner (single t) v)) (sym is) (puts.1 inner depth))

      pub primitive_rejected : (line : List ℕ) (depth from to : ℕ) (sieve : Sieve) → ((slots : Slots) (d : ℕ) → ValueStands d line from to (IsLeafRejected slots (primitive type) sieve)) → ValueStands depth line from to (IsRejectedIn context slot sieve)
      primitive_rejected line depth from to sieve reads =
          reads_to_as depth line from to (IsLeafRejected inner task_type sieve) (IsRejectedIn context slot sieve) (leaf_rejected sieve)
          (subst (λ t. ValueStands depth line from to (IsLeafRejected inner t sieve)) (sym is) (reads inner depth))

      pub primitive_conforms : (new : Value) → IsLeafOf (primitive type) new → ConformsInSlot context slot new
      primitive_conforms new put =
          let fits : FitsHoweverNullable inner (single (primitive type)) new put.0 = put.1 inner in
          let holds = primitive_holds inner type put.0 new
          (not_null_fits put.0 (val_of new inner.properties (single (primitive type))) (λ found. FitsType inner false (single (primitive type)) found (val_of new inner.properties (single (primitive type)))) (fits false)) in
          leaf_conforms new put.0 (subst (λ t. FitsHoweverNullable inner (single t) new put.0) (sym is) fits) (subst (λ t. HoldsInSlot inner (declared (single t)) new) (sym is) holds)

-- ---- values that are filled where they are

module _ (context : ReadContext) (slot : RowSlot) (root : IsRootSlot context slot) where
  filled_there : (v : Value) (json : Data) → IsFilledIn context slot slot.task v json → FitsSlotAs context slot (val_of v) json × OfSlotProperty context slot (λ slots p. HoldsInSlot slots p.type_of v)
  filled_there v json filled =
      let both = root.is.fills v json filled in
      (in_slot context slot root (λ slots nullable type. FitsSeen slots nullable type (Some json) (val_of v)) both.0, in_slot context slot root (λ slots nullable type. HoldsInSlot slots type v) both.1)

  -- a value that was filled is alike to what is seen of its property
  filled_taken : (v : Value) (json : Data) → IsFilledInBut context slot slot.task v json → IsTakenAs context slot (val_of v) json
  filled_taken v json filled =
      let but = property_but context.schema.now context.plan.now.expansion context.plan.now.plans.items slot.index root.planned slot root.is (names_passed context) v json filled in (
        but.0,
        in_slot context slot root (λ slots nullable type. FitsSeen slots nullable type (Some json) but.0) but.1,
        in_slot context slot root (λ slots nullable type. SeenAlike slots (names_passed context) type (val_of v) but.0) but.2,
      )

  -- what was filled stands there
  pub filled_put : (depth now place end : ℕ) (v : Value) → now ≡ depth → FillsValue context slot slot.task now v place end → ValueStands depth context.line place end (IsTakenAs context slot (val_of v))
  filled_put depth now place end v same fills =
      reads_to_as depth context.line place end (IsFilledInBut context slot slot.task v) (IsTakenAs context slot (val_of v)) (filled_taken v) (subst (λ n. FillsValue context slot slot.task n v place end) same fills).0

  -- and its slot conforms
  pub filled_conforms : (v : Value) → (json : Data) × IsFilledIn context slot slot.task v json → ConformsInSlot context slot v
  filled_conforms v some = let both = filled_there v some.0 some.1 in (some.0, both.0, both.1)

-- ---- what became of a value

-- a task of texts, numbers or truth values
pub leaf_task : (task leaf : Task) → task ≡ leaf → leaf ≢ Record → leaf ≢ Items → leaf ≢ Any → IsLeaf task × (task ≢ Any)
leaf_task task leaf is no_record no_items no_any = ((λ e. no_record (sym is ∙ e), λ e. no_items (sym is ∙ e)), λ e. no_any (sym is ∙ e))

module _ (context : ReadContext) (slot : RowSlot) (root : IsRootSlot context slot) (leaf : IsLeaf slot.task) (some : slot.task ≢ Any) (type : PrimitiveType)
    (is : type_of (kinds_of context.schema.now context.plan.now.plans.items slot) slot.task ≡ primitive type) where
  pub leaf_value : (line : List ℕ) (depth place : ℕ) (old new : Value) (taken : Taken) → context.line ≡ line → TakesLeaf line (primitive type) slot.sieve old new place taken → TakesValue context slot depth old new place taken
  leaf_value line depth place old new Nothing same takes = tt
  leaf_value line depth place old new Broken same takes = tt
  leaf_value line depth place old new (Put to) same takes =
      subst (λ l. ValueStands depth l place to (IsTakenAs context slot (val_of new))) (sym same) (primitive_put context slot root leaf some type is line depth place to new takes)
  leaf_value line depth place old new (Rejected to) same takes =
      (subst (λ l. ValueStands depth l place to (IsRejectedIn context slot slot.sieve)) (sym same) (primitive_rejected context slot root leaf some type is line depth place to slot.sieve takes.0), takes.1)

  -- and what was put conforms
  pub leaf_goes_on : (line : List ℕ) (place : ℕ) (old new : Value) (taken : Taken) → TakesLeaf line (primitive type) slot.sieve old new place taken → taken ≢ Broken → GoesOn context slot old new
  leaf_goes_on line place old new Nothing takes whole = inl takes
  leaf_goes_on line place old new Broken takes whole = absurd (whole refl)
  leaf_goes_on line place old new (Put to) takes whole = inr (primitive_conforms context slot root leaf some type is new takes.0)
  leaf_goes_on line place old new (Rejected to) takes whole = inl takes.1

-- where it was not read the old value stays
pub nothing_stays : (line : List ℕ) (type : PrimitiveType) (sieve : Sieve) (old new : Value) (place : ℕ) (taken : Taken) → TakesLeaf line (primitive type) sieve old new place taken → taken ≡ Nothing → new ≡ old
nothing_stays line type sieve old new place taken takes none = subst (TakesLeaf line (primitive type) sieve old new place) none takes

-- after white space
pub value_from : (context : ReadContext) (slot : RowSlot) (depth from place : ℕ) (old new : Value) (taken : Taken) → PassesSpaces context.line from place → TakesValue context slot depth old new place taken → TakesValue context slot depth old new from taken
value_from context slot depth from place old new Nothing passed takes = tt
value_from context slot depth from place old new Broken passed takes = tt
value_from context slot depth from place old new (Put to) passed takes = reads_behind depth context.line from place to (IsTakenAs context slot (val_of new)) passed takes
value_from context slot depth from place old new (Rejected to) passed takes = (reads_behind depth context.line from place to (IsRejectedIn context slot slot.sieve) passed takes.0, takes.1)

-- a root slot has the primitive type of its task
pub root_primitive : (context : ReadContext) (slot : RowSlot) → IsRootSlot context slot → HasPrimitive slot.prim slot.sure slot.task
root_primitive context slot root = go root.is.task
  where
    go : IsTaskOf slot slot.task → HasPrimitive slot.prim slot.sure slot.task
    go (inl one) = subst (HasPrimitive slot.prim slot.sure) (sym one.1) root.is.agrees.primitive
    go (inr many) = subst (HasPrimitive slot.prim slot.sure) (sym many.0) tt

pub number_leaf : (task : Task) → task ≡ Number → IsLeaf task × (task ≢ Any)
number_leaf task is = leaf_task task Number is (λ e. absurd (cc)) (λ e. absurd (cc)) (λ e. absurd (cc))

pub truth_leaf : (task : Task) → task ≡ Truth → IsLeaf task × (task ≢ Any)
truth_leaf task is = leaf_task task Truth is (λ e. absurd (cc)) (λ e. absurd (cc)) (λ e. absurd (cc))

pub text_leaf : (task : Task) → task ≡ Text → IsLeaf task × (task ≢ Any)
text_leaf task is = leaf_task task Text is (λ e. absurd (cc)) (λ e. absurd (cc)) (λ e. absurd (cc))
