-- Slots of plans as slots of types: what their tasks hold to fits their properties.
use Rattle.std.proofs.Common.{◌≡◌, ◌≢◌, inl, inr, ℕ, zero, suc, ◌<◌, ◌+◌, List, [], ◌∷◌, ◌++◌, Bool, cond, true, false, Option, Some, None, IfSome, length, slice_get, refl, sym, ap, ◌∙◌, subst, ⊎_elim, arith}
use Rattle.std.proofs.lemmas.Int.{ints}
use Rattle.serde_json.specs.Data.{Data}
use Rattle.csdl_schema.specs.ExpansionView.{StepModel}
use Rattle.csdl_schema.specs.ExprType.{collection, enumeration, primitive, single, structured}
use Rattle.csdl_schema.specs.PropertyView.{property_type, target_of, type_of_kind}
use Rattle.csdl_schema.specs.SchemaModel.{SchemaModel, Slots, declared, type_name_at}
use Rattle.csdl_schema.specs.declared.property.Property.{Property}
use Rattle.csdl_schema.specs.declared.property.PropertyKind.{PropertyKind}
use Rattle.csdl_schema.specs.declared.property.PropertyKind.TheVariants as kind
use Rattle.edm_values.specs.NumberTypes.{IsNumberType}
use Rattle.edm_values.specs.declared.primitive.PrimitiveType.{PrimitiveType}
use Rattle.edm_values.specs.declared.primitive.PrimitiveType.TheVariants as prim
use Rattle.edm_values.specs.declared.value.Value.{Null}
use Rattle.edm_row_plans.specs.Expanded.{may_hold_null, slots_at, wanted_with}
use Rattle.edm_entities.specs.private.Walk.{wanted_of}
use Rattle.edm_row_plans.specs.Plans.{IsSlotPlan}
use Rattle.edm_row_plans.specs.declared.type_plan.SlotPlan.{SlotPlan}
use Rattle.edm_row_plans.specs.declared.type_plan.TypePlan.{TypePlan}
use Rattle.edm_row_plans.specs.declared.wanted.Wanted.{Wanted}
use Rattle.edm_row_plans.specs.declared.wanted.Wanted.TheVariants.{Prim, Enum, Complex}
use Rattle.edm_entities.specs.Row.{val_of}
use Rattle.edm_rows.specs.private.Passed.{FitsSome, FitsSomeProperty}
use Rattle.edm_entities.specs.private.Walk.{wanted_single}
use Rattle.edm_rows.proofs.RowLemmas.Passes.{property_some, single_some}
use Rattle.edm_entities.proofs.SlotLemmas.EachSlot.{IsLookedAt}
use Rattle.edm_entities.proofs.SlotLemmas.FoundWalk.{items_as, seen_as, type_wanted, unwanted_fits}
use Rattle.edm_rows.specs.declared.row_types.RowSlot.{RowSlot}
use Rattle.edm_rows.specs.declared.row_types.SlotKind.{SlotKind}
use Rattle.edm_rows.specs.declared.row_types.Task.{Task}
use Rattle.edm_rows.specs.declared.row_types.Task.TheVariants.{Text, Number, Truth, Date, Moment, Guid, Member, Record, Items, Any}
use Rattle.edm_rows.specs.private.Held.{IsHeldTo, IsLeaf, IsSingle, Kinds, type_of}
use Rattle.edm_rows.specs.private.RowSlots.{HasPrimitive, IsSlotHeld, IsSlotOf, IsTaskOf, LeadsTo, id_at, kinds_of, name_at}
use Rattle.edm_rows.specs.private.RowTypes.{AreSureDigits, HasRecord, IsKindOf, IsMadeOf, IsPrimitiveTask, IsTaskAs, nullable_as}

-- ---- tasks

text_single : IsSingle Text
text_single = (λ e. absurd (cc), λ e. absurd (cc))

number_single : IsSingle Number
number_single = (λ e. absurd (cc), λ e. absurd (cc))

truth_single : IsSingle Truth
truth_single = (λ e. absurd (cc), λ e. absurd (cc))

date_single : IsSingle Date
date_single = (λ e. absurd (cc), λ e. absurd (cc))

moment_single : IsSingle Moment
moment_single = (λ e. absurd (cc), λ e. absurd (cc))

guid_single : IsSingle Guid
guid_single = (λ e. absurd (cc), λ e. absurd (cc))

member_single : IsSingle Member
member_single = (λ e. absurd (cc), λ e. absurd (cc))

record_single : IsSingle Record
record_single = (λ e. absurd (cc), λ e. absurd (cc))

module _ (type : PrimitiveType) where
  pub text_task : type ≡ prim.String → IsPrimitiveTask type Text
  text_task is = record { of_type = λ kinds same. ap primitive (sym is); has = λ count sure. is; single = text_single }

  pub truth_task : type ≡ prim.Bool → IsPrimitiveTask type Truth
  truth_task is = record { of_type = λ kinds same. ap primitive (sym is); has = λ count sure. is; single = truth_single }

  pub date_task : type ≡ prim.Date → IsPrimitiveTask type Date
  date_task is = record { of_type = λ kinds same. ap primitive (sym is); has = λ count sure. is; single = date_single }

  pub moment_task : type ≡ prim.DateTimeOffset → IsPrimitiveTask type Moment
  moment_task is = record { of_type = λ kinds same. ap primitive (sym is); has = λ count sure. is; single = moment_single }

  pub guid_task : type ≡ prim.Guid → IsPrimitiveTask type Guid
  guid_task is = record { of_type = λ kinds same. ap primitive (sym is); has = λ count sure. is; single = guid_single }

  pub number_task : (known : PrimitiveType) → type ≡ known → IsNumberType known → IsPrimitiveTask type Number
  number_task known is of =
      record { of_type = λ kinds same. ap primitive same; has = λ count sure. sure (subst IsNumberType (sym is) of); single = number_single }

  -- where the type is known
  pub sure_as : (known : PrimitiveType) (count : ℕ) → type ≡ known → AreSureDigits known count → AreSureDigits type count
  sure_as known count is sure = subst (λ t. AreSureDigits t count) (sym is) sure

-- ---- digits

pub sure_byte : AreSureDigits prim.Byte 2
sure_byte of n less = (omega (arith, ints), omega (arith, ints, less))

pub sure_sbyte : AreSureDigits prim.SByte 2
sure_sbyte of n less = omega (arith, ints, less)

pub sure_int16 : AreSureDigits prim.Int16 4
sure_int16 of n less = omega (arith, ints, less)

pub sure_int32 : AreSureDigits prim.Int32 9
sure_int32 of n less = omega (arith, ints, less)

pub sure_int64 : AreSureDigits prim.Int64 16
sure_int64 of n less = omega (arith, ints, less)

pub sure_none : (type : PrimitiveType) (count : ℕ) → (IsNumberType type → ⊥) → AreSureDigits type count
sure_none type count other of = absurd (other of)

-- ---- what is wanted

-- the task and the kinds are of the type that is wanted
pub kind_single : (wanted : Wanted) (kind : SlotKind) → IsKindOf (Some wanted) kind → IsSingle kind.task
kind_single (Prim p) kind is = is.1.single
kind_single (Enum e) kind is = subst IsSingle (sym is.0) member_single
kind_single (Complex t) kind is = subst IsSingle (sym is) record_single

pub kind_type : (schema : SchemaModel) (wanted : Wanted) (kind : SlotKind) (kinds : Kinds) → IsKindOf (Some wanted) kind → kinds.primitive ≡ kind.prim → kinds.enumeration ≡ name_at schema kind.member_of
    → ((t : ℕ) → wanted ≡ Complex t → kinds.record_type ≡ type_name_at schema t) → type_of kinds kind.task ≡ wanted_single schema wanted
kind_type schema (Prim p) kind kinds is same named leads = is.1.of_type kinds (same ∙ is.0)
kind_type schema (Enum e) kind kinds is same named leads = ap (type_of kinds) is.0 ∙ ap enumeration (named ∙ ap (name_at schema) is.1)
kind_type schema (Complex t) kind kinds is same named leads = ap (type_of kinds) is ∙ ap structured (leads t refl)

kind_primitive : (o : Option Wanted) (kind : SlotKind) → IsKindOf o kind → HasPrimitive kind.prim kind.sure kind.task
kind_primitive None kind is = subst (HasPrimitive kind.prim kind.sure) (sym is) tt
kind_primitive (Some (Prim p)) kind is = subst (λ t. HasPrimitive t kind.sure kind.task) (sym is.0) (is.1.has kind.sure is.2)
kind_primitive (Some (Enum e)) kind is = subst (HasPrimitive kind.prim kind.sure) (sym is.0) tt
kind_primitive (Some (Complex t)) kind is = subst (HasPrimitive kind.prim kind.sure) (sym is) tt

kind_record : (o : Option Wanted) (kind : SlotKind) → IsKindOf o kind → kind.task ≡ Record → (t : ℕ) × (o ≡ Some (Complex t))
kind_record None kind is record_task = absurd (let none : Any ≡ Record = sym is ∙ record_task in cc)
kind_record (Some (Prim p)) kind is record_task = absurd (no_record p kind is record_task)
  where
    no_record : (type : PrimitiveType) (k : SlotKind) → (k.prim ≡ type) × IsPrimitiveTask type k.task × AreSureDigits type k.sure → k.task ≡ Record → ⊥
    no_record type k held task_is =
        let one : Kinds = record { primitive = type; enumeration = []; record_type = [] } in
        let same : structured [] ≡ primitive type = ap (type_of one) (sym task_is) ∙ held.1.of_type one refl in
        absurd (cc)
kind_record (Some (Enum e)) kind is record_task = absurd (let none : Member ≡ Record = sym is.0 ∙ record_task in cc)
kind_record (Some (Complex t)) kind is record_task = (t, refl)

-- ---- a slot by its plan

-- the type of a single value that is no record
single_typed : (schema : SchemaModel) (k : PropertyKind) (target leads : Option ℕ) (w : Wanted) → wanted_with k target ≡ Some w → ((t : ℕ) → w ≢ Complex t)
    → type_of_kind (type_name_at schema) k leads false ≡ declared (single (wanted_single schema w))
single_typed schema (kind.Prim p) target leads w is other = let same : Prim p ≡ w = cc in ap (λ v. declared (single (wanted_single schema v))) same
single_typed schema (kind.Enum e) target leads w is other = let same : Enum e ≡ w = cc in ap (λ v. declared (single (wanted_single schema v))) same
single_typed schema (kind.Complex t) target leads w is other = absurd (other t (let same : Complex t ≡ w = cc in sym same))
single_typed schema kind.Opaque target leads w is other = absurd (cc)
single_typed schema kind.Navigation None leads w is other = absurd (cc)
single_typed schema kind.Navigation (Some t) leads w is other = absurd (other t (let same : Complex t ≡ w = cc in sym same))

pub made_task : (slot : RowSlot) (many : Bool) → slot.item ≢ Items → IsTaskAs slot.item many slot.task → IsTaskOf slot slot.task
made_task slot many apart (inl seen) = inr (seen.2, (apart, seen.1))
made_task slot many apart (inr seen) = inl (λ e. apart (sym seen.1 ∙ e), seen.1)

-- what a single task holds to
pub of_single : (slots : Slots) (kinds : Kinds) (nullable : Bool) (inner task : Task) (json : Data) → IsSingle task → IsHeldTo slots kinds nullable inner task json
    → FitsSome slots nullable nullable (single (type_of kinds task)) json
of_single slots kinds nullable inner Text json some held = held
of_single slots kinds nullable inner Number json some held = held
of_single slots kinds nullable inner Truth json some held = held
of_single slots kinds nullable inner Date json some held = held
of_single slots kinds nullable inner Moment json some held = held
of_single slots kinds nullable inner Guid json some held = held
of_single slots kinds nullable inner Member json some held = held
of_single slots kinds nullable inner Record json some held = held
of_single slots kinds nullable inner Items json some held = absurd (some.0 refl)
of_single slots kinds nullable inner Any json some held = absurd (some.1 refl)

module _ (schema : SchemaModel) (slots : Slots) (p : Property) (json : Data) where
  -- nothing is wanted
  none_fits : wanted_of p.kind (slots.needed []) (target_of p) ≡ None → FitsSomeProperty slots p.nullable (property_type schema p) (Some json)
  none_fits never = (val_of Null, unwanted_fits schema slots p.nullable p.kind (target_of p) p.many (Some json) Null never refl)

  -- many values, or a single one
  many_fit : (wanted : Wanted) → wanted_of p.kind (slots.needed []) (target_of p) ≡ Some wanted → p.many ≡ true
      → FitsSome slots false (nullable_as p) (collection (wanted_single schema wanted)) json → FitsSomeProperty slots p.nullable (property_type schema p) (Some json)
  many_fit wanted is many some =
      let inner = may_hold_null p.kind p.nullable in
      let seen = subst (IsLookedAt slots (property_type schema p)) (ap (type_wanted schema wanted) many) (seen_as schema slots p.kind (target_of p) p.many wanted is) in
      let same : nullable_as p ≡ inner = ap (λ (b : Bool). cond b inner p.nullable) many in
      property_some slots p.nullable (property_type schema p) (collection (wanted_single schema wanted)) false inner json seen refl
      (items_as schema slots p.kind (target_of p) p.many p.nullable wanted is) (subst (λ b. FitsSome slots false b (collection (wanted_single schema wanted)) json) same some)

  one_fits : (wanted : Wanted) → wanted_of p.kind (slots.needed []) (target_of p) ≡ Some wanted → p.many ≡ false
      → FitsSome slots (nullable_as p) (nullable_as p) (single (wanted_single schema wanted)) json → FitsSomeProperty slots p.nullable (property_type schema p) (Some json)
  one_fits wanted is one some =
      let seen = subst (IsLookedAt slots (property_type schema p)) (ap (type_wanted schema wanted) one) (seen_as schema slots p.kind (target_of p) p.many wanted is) in
      let same : nullable_as p ≡ p.nullable = ap (λ (b : Bool). cond b (may_hold_null p.kind p.nullable) p.nullable) one in
      single_some slots p.nullable (property_type schema p) (wanted_single schema wanted) json seen (subst (λ b. FitsSome slots b b (single (wanted_single schema wanted)) json) same some)

module _ (schema : SchemaModel) (steps : List StepModel) (plans : List TypePlan) (plan : SlotPlan) (slot : RowSlot) (name : List ℕ) (index : ℕ) where
  -- the name of the type of its records
  pub record_type : (id : ℕ) → IsMadeOf index name plan slot → HasRecord plans plan → wanted_with plan.property.kind plan.target ≡ Some (Complex id) → name_at schema (id_at plans slot.record) ≡ type_name_at schema id
  record_type id made has is =
      let there = has id is in
      ap (λ r. name_at schema (id_at plans r)) made.points ∙ ap (name_at schema) (at plans plan.record there)
    where
      at : (ps : List TypePlan) (r : ℕ) → (r < length ps) × IfSome (slice_get ps r) (λ p. (p.type_id ≡ id) × (p.node ≡ plan.node)) → id_at ps r ≡ Some id
      at [] r both = absurd (omega (arith, both.0))
      at (p ∷ ps) zero both = ap Some both.1.0
      at (p ∷ ps) (suc r) both = at ps r (omega (arith, both.0), both.1)

  leads_to : (id : ℕ) → IsMadeOf index name plan slot → HasRecord plans plan → wanted_with plan.property.kind plan.target ≡ Some (Complex id) → LeadsTo plans slot
  leads_to id made has is =
      let there = has id is in
      record {
        within = subst (λ r. r < length plans) (sym made.points) there.0;
        behind = subst (λ r. IfSome (slice_get plans r) (λ p. p.node ≡ slot.node)) (sym made.points) (behind_as (slice_get plans plan.record) there.1);
      }
    where
      behind_as : (o : Option TypePlan) → IfSome o (λ p. (p.type_id ≡ id) × (p.node ≡ plan.node)) → IfSome o (λ p. p.node ≡ slot.node)
      behind_as None both = tt
      behind_as (Some p) both = both.1 ∙ sym made.behind

  pub agrees : IsMadeOf index name plan slot → HasRecord plans plan → IsSlotOf plans slot
  agrees made has =
      let v = made.values in
      record {
        leads = λ is. let complex = kind_record (wanted_with plan.property.kind plan.target) v.kind v.is_kind (sym v.item ∙ is) in leads_to complex.0 made has complex.1;
        primitive = subst (λ t. HasPrimitive slot.prim slot.sure t) (sym v.item) (subst (λ n. HasPrimitive slot.prim n v.kind.task) (sym v.sure)
            (subst (λ t. HasPrimitive t v.kind.sure v.kind.task) (sym v.prim) (kind_primitive (wanted_with plan.property.kind plan.target) v.kind v.is_kind)));
      }

  -- what its task holds to fits the property
  pub held_fits : (id : ℕ) (place : Option ℕ) → IsSlotPlan schema steps id place index plan → IsMadeOf index name plan slot → HasRecord plans plan → (json : Data) → IsSlotHeld schema steps plans slot json
      → FitsSomeProperty (slots_at schema steps plan.node) plan.property.nullable (property_type schema plan.property) (Some json)
  held_fits id place planned made has json held = go (wanted_with plan.property.kind plan.target) refl made.values.is_kind
    where
      slots : Slots
      slots = slots_at schema steps plan.node

      p : Property
      p = plan.property

      kinds : Kinds
      kinds = kinds_of schema plans slot

      is_wanted : (o : Option Wanted) → wanted_with plan.property.kind plan.target ≡ o → wanted_of p.kind (slots.needed []) (target_of p) ≡ o
      is_wanted o e = ap (wanted_with p.kind) (sym planned.leads) ∙ e

      of_type : (w : Wanted) → wanted_with plan.property.kind plan.target ≡ Some w → IsKindOf (Some w) made.values.kind → type_of kinds slot.item ≡ wanted_single schema w
      of_type w e is =
          ap (type_of kinds) made.values.item
          ∙ kind_type schema w made.values.kind kinds is made.values.prim (ap (name_at schema) made.values.member_of) (λ t same. record_type t made has (e ∙ ap Some same))

      by : (w : Wanted) → wanted_with plan.property.kind plan.target ≡ Some w → IsKindOf (Some w) made.values.kind → IsHeldTo slots kinds slot.is_nullable slot.item slot.task json → IsTaskAs slot.item p.many slot.task
          → FitsSomeProperty slots p.nullable (property_type schema p) (Some json)
      by w e is there (inl seen) =
          many_fit schema slots p json w (is_wanted (Some w) e) seen.0 (subst (λ t. FitsSome slots false (nullable_as p) (collection t) json) (of_type w e is)
          (subst (λ b. FitsSome slots false b (collection (type_of kinds slot.item)) json) made.values.nullable (subst (λ t. IsHeldTo slots kinds slot.is_nullable slot.item t json) seen.2 there)))
      by w e is there (inr seen) =
          let some : IsSingle slot.item = subst IsSingle (sym made.values.item) (kind_single w made.values.kind is) in
          let one : p.many ≡ false = ⊎_elim (λ is_one. is_one) (λ any. absurd (some.1 any)) seen.0 in
          one_fits schema slots p json w (is_wanted (Some w) e) one (subst (λ t. FitsSome slots (nullable_as p) (nullable_as p) (single t) json) (of_type w e is)
          (subst (λ b. FitsSome slots b b (single (type_of kinds slot.item)) json) made.values.nullable
          (of_single slots kinds slot.is_nullable slot.item slot.item json some (subst (λ t. IsHeldTo slots kinds slot.is_nullable slot.item t json) seen.1 there))))

      go : (o : Option Wanted) → wanted_with plan.property.kind plan.target ≡ o → IsKindOf o made.values.kind → FitsSomeProperty slots p.nullable (property_type schema p) (Some json)
      go None e is = none_fits schema slots p json (is_wanted None e)
      go (Some w) e is = by w e is (subst (λ n. IsHeldTo (slots_at schema steps n) kinds slot.is_nullable slot.item slot.task json) made.behind held) made.values.task

  -- a single value without parts is of its task's type
  pub typed : IsMadeOf index name plan slot → HasRecord plans plan → IsLeaf slot.task → slot.task ≢ Any
      → (property_type schema plan.property ≡ declared (single (type_of (kinds_of schema plans slot) slot.task))) × (plan.property.nullable ≡ slot.is_nullable)
  typed made has leaf some = go (wanted_with plan.property.kind plan.target) refl made.values.is_kind made.values.task
    where
      p : Property
      p = plan.property

      kinds : Kinds
      kinds = kinds_of schema plans slot

      Typed : Type 0
      Typed = (property_type schema p ≡ declared (single (type_of kinds slot.task))) × (p.nullable ≡ slot.is_nullable)

      go : (o : Option Wanted) → wanted_with p.kind plan.target ≡ o → IsKindOf o made.values.kind → IsTaskAs slot.item p.many slot.task → Typed
      go o e is (inl seen) = absurd (leaf.1 seen.2)
      go None e is (inr seen) = absurd (some (seen.1 ∙ made.values.item ∙ is))
      go (Some w) e is (inr seen) =
          let single_kind : IsSingle slot.item = subst IsSingle (sym made.values.item) (kind_single w made.values.kind is) in
          let one : p.many ≡ false = ⊎_elim (λ is_one. is_one) (λ any. absurd (single_kind.1 any)) seen.0 in
          let other : (t : ℕ) → w ≢ Complex t = λ t same. absurd (leaf.0 (seen.1 ∙ made.values.item ∙ subst (λ v. IsKindOf (Some v) made.values.kind) same is)) in
          let of_type : type_of kinds slot.task ≡ wanted_single schema w =
          ap (type_of kinds) (seen.1 ∙ made.values.item) ∙ kind_type schema w made.values.kind kinds is made.values.prim (ap (name_at schema) made.values.member_of) (λ t same. absurd (other t same)) in (
            ap (type_of_kind (type_name_at schema) p.kind (target_of p)) one ∙ single_typed schema p.kind plan.target (target_of p) w e other ∙ ap (λ t. declared (single t)) (sym of_type),
            sym (made.values.nullable ∙ ap (λ (b : Bool). cond b (may_hold_null p.kind p.nullable) p.nullable) one),
          )

  pub no_items : (o : Option Wanted) (kind : SlotKind) → IsKindOf o kind → kind.task ≢ Items
  no_items None kind is e = absurd (let wrong : Any ≡ Items = sym is ∙ e in cc)
  no_items (Some w) kind is e = (kind_single w kind is).0 e

-- ---- lists that grow

pub none_each : {X : Type 0} (Q : ℕ → X → Type 0) (k : ℕ) → IfSome (slice_get [] k) (Q k)
none_each Q zero = tt
none_each Q (suc k) = tt

pub each_push : {X : Type 0} (Q : ℕ → X → Type 0) (xs : List X) (x : X) → ((k : ℕ) → IfSome (slice_get xs k) (Q k)) → Q (length xs) x → (k : ℕ) → IfSome (slice_get (xs ++ x ∷ []) k) (Q k)
each_push Q [] x each here zero = here
each_push Q [] x each here (suc k) = tt
each_push Q (y ∷ xs) x each here zero = each zero
each_push Q (y ∷ xs) x each here (suc k) = each_push (λ n. Q (suc n)) xs x (λ n. each (suc n)) here k

pub long_push : {X : Type 0} (xs : List X) (x : X) → length (xs ++ x ∷ []) ≡ length xs + 1
long_push [] x = refl
long_push (y ∷ xs) x = omega (arith, long_push xs x)
