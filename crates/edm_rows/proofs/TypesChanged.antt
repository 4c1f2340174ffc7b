-- Types of rows stay those of their plans, whatever is kept and sifted.
use Rattle.std.proofs.Common.{◌≡◌, ◌⊎◌, ⊎_elim, ℕ, zero, suc, ◌-◌, ◌<◌, ◌≤◌, List, [], ◌∷◌, length, map, Bool, true, Option, None, Some, IfSome, slice_get, slice_set, refl, sym, ap, ◌∙◌, subst, arith}
use Rattle.std.proofs.lemmas.Option.{slice_get_within}
use Rattle.std.specs.Int.{bit_at}
use Rattle.csdl_schema.specs.ExpansionView.{StepModel}
use Rattle.csdl_schema.specs.SchemaModel.{HasDistinctNames, SchemaModel, properties_at}
use Rattle.edm_values.specs.declared.sieve.Sieve.{Sieve}
use Rattle.edm_row_plans.specs.declared.type_plan.SlotPlan.{SlotPlan}
use Rattle.edm_row_plans.specs.declared.type_plan.TypePlan.{TypePlan}
use Rattle.edm_row_plans.specs.Expanded.{slots_at}
use Rattle.edm_rows.specs.private.Passed.{MayBeAbsent}
use Rattle.std.proofs.lemmas.List.{length-set}
use Rattle.edm_rows.proofs.Indexes.{other_kept}
use Rattle.edm_rows.proofs.KeptMembers.{same_number}
use Rattle.edm_rows.specs.declared.row_types.RowSlot.{RowSlot}
use Rattle.edm_rows.specs.declared.row_types.RowType.{RowType}
use Rattle.edm_row_plans.specs.declared.row_plan.RowPlan.{RowPlan}
use Rattle.edm_rows.specs.private.HeldRows.{AreTypesOf, IsSameType, first_slots}
use Rattle.seen_slots.specs.SlotBits.{bits_of}
use Rattle.edm_rows.specs.private.RowSlots.{AreFew, IsRowSlot, IsRowType}

-- only what is kept of a slot's values and their sieve may be another
abbrev pub slot_as : RowSlot → Bool → Sieve → RowSlot
slot_as slot kept sieve = record slot { is_kept = kept; sieve = sieve }

module _ (schema : SchemaModel) (steps : List StepModel) (plans : List TypePlan) where
  slot_stays : (index : ℕ) (p : SlotPlan) (slot : RowSlot) (kept : Bool) (sieve : Sieve) → IsRowSlot schema steps plans index p slot → IsRowSlot schema steps plans index p (slot_as slot kept sieve)
  slot_stays index p slot kept sieve is =
      record {
        behind = is.behind;
        index_is = is.index_is;
        bit = is.bit;
        order = is.order;
        agrees = record { leads = λ e. let leads = is.agrees.leads e in record { within = leads.within; behind = leads.behind }; primitive = is.agrees.primitive };
        task = is.task;
        fits = is.fits;
        fills = is.fills;
        sees = is.sees;
        seen_at = is.seen_at;
        typed = is.typed;
      }

  each_stays : (slots : List RowSlot) (ps : List SlotPlan) (n : ℕ) (slot : RowSlot) (kept : Bool) (sieve : Sieve) → slice_get slots n ≡ Some slot
      → ((k : ℕ) → IfSome (slice_get slots k) (λ s. IfSome (slice_get ps k) (λ p. IsRowSlot schema steps plans k p s)))
      → (k : ℕ) → IfSome (slice_get (slice_set slots n (slot_as slot kept sieve)) k) (λ s. IfSome (slice_get ps k) (λ p. IsRowSlot schema steps plans k p s))
  each_stays slots ps n slot kept sieve at each k =
      ⊎_elim (λ here. subst (λ j. IfSome (slice_get (slice_set slots n (slot_as slot kept sieve)) j) (λ s. IfSome (slice_get ps j) (λ p. IsRowSlot schema steps plans j p s))) (sym here)
      (set_one slots n at (go (slice_get ps n) (subst (λ o. IfSome o (λ s. IfSome (slice_get ps n) (λ p. IsRowSlot schema steps plans n p s))) at (each n)))))
      (λ other. subst (λ o. IfSome o (λ s. IfSome (slice_get ps k) (λ p. IsRowSlot schema steps plans k p s))) (sym (other_kept slots n k (slot_as slot kept sieve) other)) (each k)) (same_number k n)
    where
      go : (o : Option SlotPlan) → IfSome o (λ p. IsRowSlot schema steps plans n p slot) → IfSome o (λ p. IsRowSlot schema steps plans n p (slot_as slot kept sieve))
      go None is = tt
      go (Some p) is = slot_stays n p slot kept sieve is

      set_one : (xs : List RowSlot) (j : ℕ) → slice_get xs j ≡ Some slot → IfSome (slice_get ps n) (λ p. IsRowSlot schema steps plans n p (slot_as slot kept sieve))
          → IfSome (slice_get (slice_set xs j (slot_as slot kept sieve)) j) (λ s. IfSome (slice_get ps n) (λ p. IsRowSlot schema steps plans n p s))
      set_one [] j e is = absurd (cc)
      set_one (x ∷ xs) zero e is = is
      set_one (x ∷ xs) (suc j) e is = set_one xs j e is

  -- each slot keeps its name
  named_stays : (slots : List RowSlot) (n : ℕ) (slot : RowSlot) (kept : Bool) (sieve : Sieve) (names : ℕ → List ℕ → Type 0) → slice_get slots n ≡ Some slot → ((k : ℕ) → IfSome (slice_get slots k) (λ s. names k s.key))
      → (k : ℕ) → IfSome (slice_get (slice_set slots n (slot_as slot kept sieve)) k) (λ s. names k s.key)
  named_stays [] n slot kept sieve names at each k = absurd (cc)
  named_stays (x ∷ xs) zero slot kept sieve names at each zero = let here : x ≡ slot = cc in subst (λ (s : RowSlot). names 0 s.key) here (each 0)
  named_stays (x ∷ xs) zero slot kept sieve names at each (suc k) = each (suc k)
  named_stays (x ∷ xs) (suc n) slot kept sieve names at each zero = each 0
  named_stays (x ∷ xs) (suc n) slot kept sieve names at each (suc k) = named_stays xs n slot kept sieve (λ j. names (suc j)) at (λ j. each (suc j)) k

  -- a type of which one slot was changed so
  pub type_stays : (p : TypePlan) (type changed : RowType) (n : ℕ) (slot : RowSlot) (kept : Bool) (sieve : Sieve) → slice_get type.slots.items n ≡ Some slot → changed.slots.items ≡ slice_set type.slots.items n (slot_as slot kept sieve) → changed.type_id ≡ type.type_id
      → changed.node ≡ type.node → changed.all.words ≡ type.all.words → changed.optional.words ≡ type.optional.words → changed.all_few ≡ type.all_few → changed.order ≡ type.order → IsRowType schema steps plans p type → IsRowType schema steps plans p changed
  type_stays p type changed n slot kept sieve at same id node all optional few order is =
      let long : length changed.slots.items ≡ length type.slots.items = ap length same ∙ length-set type.slots.items n (slot_as slot kept sieve) in
      record {
        is_plan = is.is_plan;
        of_type = (id ∙ is.of_type.0, node ∙ is.of_type.1);
        count = long ∙ is.count;
        few = subst (λ k. k ≤ 1024) (sym long) is.few;
        order = subst (λ k. k < 1024) (sym order) is.order;
        each = λ k. subst (λ xs. IfSome (slice_get xs k) (λ s. IfSome (slice_get p.slots.items k) (λ q. IsRowSlot schema steps plans k q s))) (sym same) (each_stays type.slots.items p.slots.items n slot kept sieve at is.each k);
        named = λ k. subst (λ (i : ℕ). IfSome (slice_get changed.slots.items k) (λ s. slice_get (map (λ q. q.name) (properties_at schema i)) k ≡ Some s.key)) (sym id)
            (subst (λ xs. IfSome (slice_get xs k) (λ s. slice_get (map (λ q. q.name) (properties_at schema type.type_id)) k ≡ Some s.key)) (sym same)
            (named_stays type.slots.items n slot kept sieve (λ j name. slice_get (map (λ q. q.name) (properties_at schema type.type_id)) j ≡ Some name) at is.named k));
        all = λ k inside. ap (λ (ws : List ℕ). bit_at (bits_of ws) k) all ∙ is.all k (subst (λ n. k < n) long inside);
        few_each = λ e. is.few_each (sym few ∙ e);
        optional = λ k e.
            subst (λ (i : ℕ). IfSome (slice_get (properties_at schema i) k) (MayBeAbsent (slots_at schema steps changed.node))) (sym id)
            (subst (λ (o : Option ℕ). IfSome (slice_get (properties_at schema type.type_id) k) (MayBeAbsent (slots_at schema steps o))) (sym node) (is.optional k (ap (λ (ws : List ℕ). bit_at (bits_of ws) k) (sym optional) ∙ e)));
      }

-- what a type says of all of them
pub says_few : (schema : SchemaModel) (steps : List StepModel) (plans : List TypePlan) (p : TypePlan) (type : RowType) (few : Bool) → (few ≡ true → AreFew plans) → IsRowType schema steps plans p type
    → IsRowType schema steps plans p (record type { all_few = few })
says_few schema steps plans p type few said is =
    record { is_plan = is.is_plan; of_type = is.of_type; count = is.count; few = is.few; order = is.order; each = is.each; named = is.named; all = is.all; few_each = said; optional = is.optional }

-- ---- a type that is the same but for these

pub same_type : (old changed : RowType) (n : ℕ) (slot : RowSlot) (kept : Bool) (sieve : Sieve) → slice_get old.slots.items n ≡ Some slot → changed.slots.items ≡ slice_set old.slots.items n (slot_as slot kept sieve) → changed.type_id ≡ old.type_id
    → changed.node ≡ old.node → changed.all.words ≡ old.all.words → changed.optional.words ≡ old.optional.words → changed.all_few ≡ old.all_few → changed.order ≡ old.order → IsSameType old changed
same_type old changed n slot kept sieve at same id node all optional few order =
    record { type_id = id; node = node; stays = λ schema steps plans plan is. type_stays schema steps plans plan old changed n slot kept sieve at same id node all optional few order is }

pub same_self : (type : RowType) → IsSameType type type
same_self type = record { type_id = refl; node = refl; stays = λ schema steps plans plan is. is }

pub same_both : (first second third : RowType) → IsSameType first second → IsSameType second third → IsSameType first third
same_both first second third one two =
    record { type_id = two.type_id ∙ one.type_id; node = two.node ∙ one.node; stays = λ schema steps plans plan is. two.stays schema steps plans plan (one.stays schema steps plans plan is) }

module _ (schema : SchemaModel) (plan : RowPlan) (old new : RowType) (same : IsSameType old new) where
  of_same : (o : Option TypePlan) (type : RowType) → type ≡ old → IfSome o (λ p. IsRowType schema plan.expansion plan.plans.items p type) → IfSome o (λ p. IsRowType schema plan.expansion plan.plans.items p new)
  of_same None type is holds = tt
  of_same (Some p) type is holds = same.stays schema plan.expansion plan.plans.items p (subst (λ (t : RowType). IsRowType schema plan.expansion plan.plans.items p t) is holds)

  each_same : (t : RowType) (ts : List RowType) → t ≡ old
      → ((k : ℕ) → IfSome (slice_get (t ∷ ts) k) (λ x. IfSome (slice_get plan.plans.items k) (λ p. IsRowType schema plan.expansion plan.plans.items p x)))
      → (k : ℕ) → IfSome (slice_get (new ∷ ts) k) (λ x. IfSome (slice_get plan.plans.items k) (λ p. IsRowType schema plan.expansion plan.plans.items p x))
  each_same t ts is each zero = of_same (slice_get plan.plans.items 0) t is (each 0)
  each_same t ts is each (suc k) = each (suc k)

  -- where the first of a plan's types is the same but for these, they stay those of the plan
  pub first_changed : (types : List RowType) → slice_get types 0 ≡ Some old → AreTypesOf schema plan types → AreTypesOf schema plan (slice_set types 0 new)
  first_changed [] at are = absurd (cc)
  first_changed (t ∷ ts) at are =
      let here : t ≡ old = cc in
      let first : are.first.type ≡ old = some_same are.first.type old (sym are.first.at ∙ at) in
      record {
        is_whole = are.is_whole;
        each = record { count = are.each.count; each = each_same t ts here are.each.each };
        first = record { type = new; at = refl; type_id = same.type_id ∙ ap (λ (x : RowType). x.type_id) (sym first) ∙ are.first.type_id; node = same.node ∙ ap (λ (x : RowType). x.node) (sym first) ∙ are.first.node };
      }
    where
      some_same : (x y : RowType) → Some x ≡ Some y → x ≡ y
      some_same x y e = cc

-- the names of the first of a plan's types are distinct
pub first_distinct : (schema : SchemaModel) (plan : RowPlan) (types : List RowType) → AreTypesOf schema plan types → HasDistinctNames (properties_at schema plan.type_id)
first_distinct schema plan types are =
    go plan.plans.items refl
  where
    go : (ps : List TypePlan) → plan.plans.items ≡ ps → HasDistinctNames (properties_at schema plan.type_id)
    go [] none = absurd (omega (arith, slice_get_within types 0 are.first.type are.first.at, are.each.count, ap length none))
    go (p ∷ ps) some =
        let first = are.first in
        let both = subst (λ (o : Option RowType). IfSome o (λ t. IfSome (slice_get plan.plans.items 0) (λ q. IsRowType schema plan.expansion plan.plans.items q t))) first.at (are.each.each 0) in
        let is : IsRowType schema plan.expansion plan.plans.items p first.type = subst (λ (l : List TypePlan). IfSome (slice_get l 0) (λ q. IsRowType schema plan.expansion plan.plans.items q first.type)) some both in
        subst (λ (i : ℕ). HasDistinctNames (properties_at schema i)) (sym is.of_type.0 ∙ first.type_id) is.is_plan.distinct

pub first_id : (schema : SchemaModel) (plan : RowPlan) (types : List RowType) (type : RowType) → slice_get types 0 ≡ Some type → AreTypesOf schema plan types → type.type_id ≡ plan.type_id
first_id schema plan types type at are = ap (λ (x : RowType). x.type_id) (some_same type are.first.type (sym at ∙ are.first.at)) ∙ are.first.type_id
  where
    some_same : (x y : RowType) → Some x ≡ Some y → x ≡ y
    some_same x y e = cc

pub first_slots_are : (types : List RowType) (type : RowType) → slice_get types 0 ≡ Some type → first_slots types ≡ type.slots.items
first_slots_are [] type at = absurd (cc)
first_slots_are (t ∷ ts) type at = let here : t ≡ type = cc in ap (λ (x : RowType). x.slots.items) here

pub first_slots_put : (types : List RowType) (old new : RowType) → slice_get types 0 ≡ Some old → first_slots (slice_set types 0 new) ≡ new.slots.items
first_slots_put [] old new at = absurd (cc)
first_slots_put (t ∷ ts) old new at = refl

-- where there are types, they are those of the plan
pub types_there : (schema : SchemaModel) (plan : RowPlan) (types : List RowType) → 0 < length types → (types ≡ []) ⊎ AreTypesOf schema plan types → AreTypesOf schema plan types
types_there schema plan types some is =
    ⊎_elim (λ none. absurd (nothing types none some)) (λ are. are) is
  where
    nothing : (xs : List RowType) → xs ≡ [] → 0 < length xs → ⊥
    nothing [] none long = omega (arith, long)
    nothing (x ∷ xs) none long = cc

pub types_some : (schema : SchemaModel) (plan : RowPlan) (types : List RowType) (type : RowType) → slice_get types 0 ≡ Some type → (types ≡ []) ⊎ AreTypesOf schema plan types → AreTypesOf schema plan types
types_some schema plan types type at is =
    ⊎_elim (λ none. absurd (nothing types none at)) (λ are. are) is
  where
    nothing : (xs : List RowType) → xs ≡ [] → slice_get xs 0 ≡ Some type → ⊥
    nothing [] none there = cc
    nothing (x ∷ xs) none there = cc
