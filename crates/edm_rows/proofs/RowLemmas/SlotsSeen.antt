-- Slots of plans as slots of types: the values that their tasks see fit their properties, which have the types that the
-- tasks read.
use Rattle.std.proofs.Common.{◌≡◌, ◌≢◌, ◌⊎◌, inl, inr, ℕ, List, [], Bool, cond, true, false, Option, Some, None, sym, ap, ◌∙◌, subst, ⊎_elim, refl}
use Rattle.serde_json.specs.Data.{Data}
use Rattle.csdl_schema.specs.ExpansionView.{StepModel}
use Rattle.csdl_schema.specs.ExprType.{ExprType, collection, single}
use Rattle.csdl_schema.specs.PropertyView.{property_type, target_of}
use Rattle.csdl_schema.specs.SchemaModel.{PropertyType, SchemaModel, Slots, declared, navigation, opaque, slots_of}
use Rattle.csdl_schema.specs.declared.property.Property.{Property}
use Rattle.edm_values.specs.Val.{Val, present}
use Rattle.edm_row_plans.specs.Expanded.{may_hold_null, slots_at, wanted_with}
use Rattle.edm_entities.specs.private.Walk.{wanted_of, wanted_single}
use Rattle.edm_row_plans.specs.Plans.{IsSlotPlan}
use Rattle.edm_row_plans.specs.declared.type_plan.SlotPlan.{SlotPlan}
use Rattle.edm_row_plans.specs.declared.type_plan.TypePlan.{TypePlan}
use Rattle.edm_row_plans.specs.declared.wanted.Wanted.{Wanted}
use Rattle.edm_entities.specs.Row.{ValAtType, field_of}
use Rattle.edm_rows.specs.private.Passed.{FitsSeen}
use Rattle.edm_rows.proofs.RowLemmas.Passes.{property_as, single_as}
use Rattle.edm_entities.proofs.SlotLemmas.EachSlot.{IsLookedAt}
use Rattle.edm_entities.proofs.SlotLemmas.FoundWalk.{items_as, seen_as, type_wanted}
use Rattle.edm_rows.specs.declared.row_types.RowSlot.{RowSlot}
use Rattle.edm_rows.specs.declared.row_types.Task.{Task}
use Rattle.edm_rows.specs.declared.row_types.Task.TheVariants.{Text, Number, Truth, Date, Moment, Guid, Member, Record, Items, Any}
use Rattle.edm_rows.specs.private.Held.{IsSeenAs, IsSeenOf, IsSingle, Kinds, read_type, type_of}
use Rattle.edm_rows.specs.private.RowSlots.{kinds_of, name_at}
use Rattle.edm_rows.specs.private.RowTypes.{HasRecord, IsKindOf, IsMadeOf, IsTaskAs, nullable_as}
use Rattle.edm_rows.proofs.RowLemmas.RowTypes.{kind_single, kind_type, record_type}

-- ---- a single task

of_seen : (slots : Slots) (kinds : Kinds) (nullable : Bool) (inner task : Task) (v : Val) (json : Data) → IsSingle task → IsSeenAs slots kinds nullable inner task v json
    → IsSeenOf slots nullable nullable (single (type_of kinds task)) v json
of_seen slots kinds nullable inner Text v json some seen = seen
of_seen slots kinds nullable inner Number v json some seen = seen
of_seen slots kinds nullable inner Truth v json some seen = seen
of_seen slots kinds nullable inner Date v json some seen = seen
of_seen slots kinds nullable inner Moment v json some seen = seen
of_seen slots kinds nullable inner Guid v json some seen = seen
of_seen slots kinds nullable inner Member v json some seen = seen
of_seen slots kinds nullable inner Record v json some seen = seen
of_seen slots kinds nullable inner Items v json some seen = absurd (some.0 refl)
of_seen slots kinds nullable inner Any v json some seen = absurd (some.1 refl)

read_single : (kinds : Kinds) (inner task : Task) → IsSingle task → read_type kinds inner task ≡ single (type_of kinds task)
read_single kinds inner Text some = refl
read_single kinds inner Number some = refl
read_single kinds inner Truth some = refl
read_single kinds inner Date some = refl
read_single kinds inner Moment some = refl
read_single kinds inner Guid some = refl
read_single kinds inner Member some = refl
read_single kinds inner Record some = refl
read_single kinds inner Items some = absurd (some.0 refl)
read_single kinds inner Any some = absurd (some.1 refl)

-- ---- properties

-- what is there of a property that is looked at
field_seen : (slots : Slots) (type : PropertyType) (wanted : ExprType) (seen : ValAtType) → IsLookedAt slots type wanted → field_of slots.properties type seen ≡ present (seen slots.properties wanted)
field_seen slots (declared type) wanted seen is = ap (λ (t : ExprType). present (seen slots.properties t)) is
field_seen slots opaque wanted seen is = absurd is
field_seen slots (navigation None) wanted seen is = absurd is
field_seen slots (navigation (Some type)) wanted seen is = ap (λ (t : ExprType). present (seen slots.properties t)) is.1

module _ (schema : SchemaModel) (slots : Slots) (p : Property) (wanted : Wanted) (is : wanted_of p.kind (slots.needed []) (target_of p) ≡ Some wanted) where
  -- many values, or a single one
  looked_many : p.many ≡ true → IsLookedAt slots (property_type schema p) (collection (wanted_single schema wanted))
  looked_many many = subst (IsLookedAt slots (property_type schema p)) (ap (type_wanted schema wanted) many) (seen_as schema slots p.kind (target_of p) p.many wanted is)

  looked_one : p.many ≡ false → IsLookedAt slots (property_type schema p) (single (wanted_single schema wanted))
  looked_one one = subst (IsLookedAt slots (property_type schema p)) (ap (type_wanted schema wanted) one) (seen_as schema slots p.kind (target_of p) p.many wanted is)

  many_seen : (json : Data) (v : Val) → p.many ≡ true → IsSeenOf slots false (nullable_as p) (collection (wanted_single schema wanted)) v json → FitsSeen slots p.nullable (property_type schema p) (Some json) (λ _ _. v)
  many_seen json v many seen =
      let inner = may_hold_null p.kind p.nullable in
      let same : nullable_as p ≡ inner = ap (λ (b : Bool). cond b inner p.nullable) many in
      property_as slots p.nullable (property_type schema p) (collection (wanted_single schema wanted)) false inner json v (looked_many many) refl
      (items_as schema slots p.kind (target_of p) p.many p.nullable wanted is) (subst (λ b. IsSeenOf slots false b (collection (wanted_single schema wanted)) v json) same seen)

  one_seen : (json : Data) (v : Val) → p.many ≡ false → IsSeenOf slots (nullable_as p) (nullable_as p) (single (wanted_single schema wanted)) v json → FitsSeen slots p.nullable (property_type schema p) (Some json) (λ _ _. v)
  one_seen json v one seen =
      let same : nullable_as p ≡ p.nullable = ap (λ (b : Bool). cond b (may_hold_null p.kind p.nullable) p.nullable) one in
      single_as slots p.nullable (property_type schema p) (wanted_single schema wanted) json v (looked_one one) (subst (λ b. IsSeenOf slots b b (single (wanted_single schema wanted)) v json) same seen)

-- ---- a slot by its plan

module _ (schema : SchemaModel) (steps : List StepModel) (plans : List TypePlan) (plan : SlotPlan) (slot : RowSlot) (name : List ℕ) (index : ℕ)
    (id : ℕ) (place : Option ℕ) (planned : IsSlotPlan schema steps id place index plan) (made : IsMadeOf index name plan slot) (has : HasRecord plans plan) where
  abbrev slots : Slots
  slots = slots_at schema steps plan.node

  abbrev p : Property
  p = plan.property

  abbrev kinds : Kinds
  kinds = kinds_of schema plans slot

  is_wanted : (o : Option Wanted) → wanted_with plan.property.kind plan.target ≡ o → wanted_of plan.property.kind ((slots_at schema steps plan.node).needed []) (target_of plan.property) ≡ o
  is_wanted o e = ap (wanted_with p.kind) (sym planned.leads) ∙ e

  of_type : (w : Wanted) → wanted_with plan.property.kind plan.target ≡ Some w → IsKindOf (Some w) made.values.kind → type_of (kinds_of schema plans slot) slot.item ≡ wanted_single schema w
  of_type w e is =
      ap (type_of kinds) made.values.item
      ∙ kind_type schema w made.values.kind kinds is made.values.prim (ap (name_at schema) made.values.member_of) (λ t same. record_type schema steps plans plan slot name index t made has (e ∙ ap Some same))

  single_item : (w : Wanted) → IsKindOf (Some w) made.values.kind → IsSingle slot.item
  single_item w is = subst IsSingle (sym made.values.item) (kind_single w made.values.kind is)

  is_one : (w : Wanted) → IsKindOf (Some w) made.values.kind → (plan.property.many ≡ false) ⊎ (slot.item ≡ Any) → plan.property.many ≡ false
  is_one w is or = ⊎_elim (λ one. one) (λ any. absurd ((single_item w is).1 any)) or

  -- where nothing is wanted, nothing is asked
  any_task : IsTaskAs slot.item plan.property.many slot.task → IsKindOf None made.values.kind → slot.task ≡ Any
  any_task (inl seen) is = absurd (seen.1 (made.values.item ∙ is))
  any_task (inr seen) is = seen.1 ∙ made.values.item ∙ is

  -- what its task sees fits the property
  pub sees_fits : (v : Val) (json : Data) → IsSeenAs (slots_at schema steps slot.node) (kinds_of schema plans slot) slot.is_nullable slot.item slot.task v json
      → FitsSeen (slots_at schema steps plan.node) plan.property.nullable (property_type schema plan.property) (Some json) (λ _ _. v)
  sees_fits v json seen = go (wanted_with plan.property.kind plan.target) refl made.values.is_kind
    where
      here : IsSeenAs (slots_at schema steps plan.node) (kinds_of schema plans slot) slot.is_nullable slot.item slot.task v json
      here = subst (λ n. IsSeenAs (slots_at schema steps n) kinds slot.is_nullable slot.item slot.task v json) made.behind seen

      by : (w : Wanted) → wanted_with plan.property.kind plan.target ≡ Some w → IsKindOf (Some w) made.values.kind → IsTaskAs slot.item plan.property.many slot.task
          → FitsSeen (slots_at schema steps plan.node) plan.property.nullable (property_type schema plan.property) (Some json) (λ _ _. v)
      by w e is (inl many) =
          many_seen schema slots p w (is_wanted (Some w) e) json v many.0 (subst (λ t. IsSeenOf slots false (nullable_as p) (collection t) v json) (of_type w e is)
          (subst (λ b. IsSeenOf slots false b (collection (type_of kinds slot.item)) v json) made.values.nullable (subst (λ t. IsSeenAs slots kinds slot.is_nullable slot.item t v json) many.2 here)))
      by w e is (inr one) =
          one_seen schema slots p w (is_wanted (Some w) e) json v (is_one w is one.0) (subst (λ t. IsSeenOf slots (nullable_as p) (nullable_as p) (single t) v json) (of_type w e is)
          (subst (λ b. IsSeenOf slots b b (single (type_of kinds slot.item)) v json) made.values.nullable
          (of_seen slots kinds slot.is_nullable slot.item slot.item v json (single_item w is) (subst (λ t. IsSeenAs slots kinds slot.is_nullable slot.item t v json) one.1 here))))

      go : (o : Option Wanted) → wanted_with plan.property.kind plan.target ≡ o → IsKindOf o made.values.kind
          → FitsSeen (slots_at schema steps plan.node) plan.property.nullable (property_type schema plan.property) (Some json) (λ _ _. v)
      go None e is = absurd (subst (λ t. IsSeenAs slots kinds slot.is_nullable slot.item t v json) (any_task made.values.task is) here)
      go (Some w) e is = by w e is made.values.task

  -- the property has the type that its task reads
  pub seen_there : slot.task ≢ Any → (seen : ValAtType)
      → field_of (slots_of schema).properties (property_type schema plan.property) seen ≡ present (seen (slots_of schema).properties (read_type (kinds_of schema plans slot) slot.item slot.task))
  seen_there some seen = go (wanted_with plan.property.kind plan.target) refl made.values.is_kind
    where
      read_as : (t : ExprType) → IsLookedAt (slots_at schema steps plan.node) (property_type schema plan.property) t → read_type (kinds_of schema plans slot) slot.item slot.task ≡ t
          → field_of (slots_of schema).properties (property_type schema plan.property) seen ≡ present (seen (slots_of schema).properties (read_type (kinds_of schema plans slot) slot.item slot.task))
      read_as t looked same = field_seen slots (property_type schema p) t seen looked ∙ ap (λ (e : ExprType). present (seen (slots_of schema).properties e)) (sym same)

      by : (w : Wanted) → wanted_with plan.property.kind plan.target ≡ Some w → IsKindOf (Some w) made.values.kind → IsTaskAs slot.item plan.property.many slot.task
          → field_of (slots_of schema).properties (property_type schema plan.property) seen ≡ present (seen (slots_of schema).properties (read_type (kinds_of schema plans slot) slot.item slot.task))
      by w e is (inl many) =
          read_as (collection (wanted_single schema w)) (looked_many schema slots p w (is_wanted (Some w) e) many.0) (ap (read_type kinds slot.item) many.2 ∙ ap collection (of_type w e is))
      by w e is (inr one) =
          read_as (single (wanted_single schema w)) (looked_one schema slots p w (is_wanted (Some w) e) (is_one w is one.0))
          (ap (read_type kinds slot.item) one.1 ∙ read_single kinds slot.item slot.item (single_item w is) ∙ ap single (of_type w e is))

      go : (o : Option Wanted) → wanted_with plan.property.kind plan.target ≡ o → IsKindOf o made.values.kind
          → field_of (slots_of schema).properties (property_type schema plan.property) seen ≡ present (seen (slots_of schema).properties (read_type (kinds_of schema plans slot) slot.item slot.task))
      go None e is = absurd (some (any_task made.values.task is))
      go (Some w) e is = by w e is made.values.task
