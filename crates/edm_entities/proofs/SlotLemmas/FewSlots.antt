-- A record of few values is what a record with null in every other slot is.
use Rattle.std.proofs.Common.{◌≡◌, inl, inr, ◌==◌, ℕ, zero, suc, Bool, true, false, List, [], ◌∷◌, map, length, Vec, Global, refl, rules, sym, ap, ◌∙◌, subst}
use Rattle.edm_values.specs.Sparse.{AreBeside, beside, by_slot}
use Rattle.edm_entities.specs.private.Walk.{IsRecordOf}
use Rattle.edm_values.specs.declared.value.Value.{Value, Null, Record, Sparse, the_lemmas}
use Rattle.csdl_schema.specs.ExprType.{ExprType, single, structured}
use Rattle.csdl_schema.specs.SchemaModel.{Slots}
use Rattle.edm_entities.specs.HoldsEachSlot.{HoldsEachSlot, holding_of, null_holding, record_holds, slot_count}
use Rattle.edm_entities.specs.Row.{null_seen, record_of, val_of}

-- ---- what stands beside a slot, seen

module _ {X Y : Type 0} (f : X → Y) (none : X) where
  abbrev pub each_seen : List (ℕ × X) → List (ℕ × Y)
  each_seen held = map (λ e. (e.0, f e.1)) held

  seen_beside : (held : List (ℕ × X)) (k : ℕ) → beside (f none) (each_seen held) k ≡ f (beside none held k)
  seen_beside [] k = refl
  seen_beside (e ∷ held) k = by (e.0 == k) refl (seen_beside held k)
    where
      by : (b : Bool) → (e.0 == k) ≡ b → beside (f none) (each_seen held) k ≡ f (beside none held k) → beside (f none) (each_seen (e ∷ held)) k ≡ f (beside none (e ∷ held) k)
      by true is rest = rw is refl
      by false is rest = rw is rest

  pub seen_by_slot : (held : List (ℕ × X)) (from count : ℕ) → by_slot (f none) (each_seen held) from count ≡ map f (by_slot none held from count)
  seen_by_slot held from zero = refl
  seen_by_slot held from (suc count) = ap (λ x. x ∷ by_slot (f none) (each_seen held) (suc from) count) (seen_beside held from) ∙ ap (λ xs. f (beside none held from) ∷ xs) (seen_by_slot held (suc from) count)

-- ---- records of few values

val_of-Null : val_of Null ≡ null_seen
val_of-Null = search (rules, the_lemmas)

holding-Null : holding_of Null ≡ null_holding
holding-Null = search (rules, the_lemmas)

val_of-Sparse : (slots : Slots) (type : ExprType) (v : Vec (ℕ × Value) Global)
    → val_of (Sparse v) slots.properties type ≡ record_of slots.properties type (by_slot null_seen (each_seen val_of Null v.items) 0 (slot_count slots.properties type))
val_of-Sparse slots type v = search (rules, the_lemmas)

holding-Sparse : (slots : Slots) (type : ExprType) (v : Vec (ℕ × Value) Global)
    → (holding_of (Sparse v)).holds slots type ≡ record_holds slots type (by_slot null_holding (each_seen holding_of Null v.items) 0 (slot_count slots.properties type))
holding-Sparse slots type v = search (rules, the_lemmas)

val_of-Record : (slots : Slots) (type : ExprType) (v : Vec Value Global) → val_of (Record v) slots.properties type ≡ record_of slots.properties type (map val_of v.items)
val_of-Record slots type v = search (rules, the_lemmas)

holding-Record : (slots : Slots) (type : ExprType) (v : Vec Value Global) → (holding_of (Record v)).holds slots type ≡ record_holds slots type (map holding_of v.items)
holding-Record slots type v = search (rules, the_lemmas)

-- the values by slot of a record of few
pub few_val : (slots : Slots) (type : ExprType) (v : Vec (ℕ × Value) Global)
    → val_of (Sparse v) slots.properties type ≡ record_of slots.properties type (map val_of (by_slot Null v.items 0 (slot_count slots.properties type)))
few_val slots type v =
    let count = slot_count slots.properties type in
    val_of-Sparse slots type v
    ∙ ap (λ none. record_of slots.properties type (by_slot none (each_seen val_of Null v.items) 0 count)) (sym val_of-Null)
    ∙ ap (record_of slots.properties type) (seen_by_slot val_of Null v.items 0 count)

few_holding : (slots : Slots) (type : ExprType) (v : Vec (ℕ × Value) Global)
    → (holding_of (Sparse v)).holds slots type ≡ record_holds slots type (map holding_of (by_slot Null v.items 0 (slot_count slots.properties type)))
few_holding slots type v =
    let count = slot_count slots.properties type in
    holding-Sparse slots type v
    ∙ ap (λ none. record_holds slots type (by_slot none (each_seen holding_of Null v.items) 0 count)) (sym holding-Null)
    ∙ ap (record_holds slots type) (seen_by_slot holding_of Null v.items 0 count)

-- ---- a record of values, one for each slot

module _ (slots : Slots) (name : List ℕ) (values : Vec Value Global) (long : length values.items ≡ length (slots.properties name)) where
  type : ExprType
  type = single (structured name)

  same_slots : (held : Vec (ℕ × Value) Global) → AreBeside held.items values.items → by_slot Null held.items 0 (length (slots.properties name)) ≡ values.items
  same_slots held are = subst (λ n. by_slot Null held.items 0 n ≡ values.items) long are

  pub record_val : (value : Value) → IsRecordOf values value → val_of value slots.properties (single (structured name)) ≡ val_of (Record values) slots.properties (single (structured name))
  record_val value (inl same) = ap (λ (v : Value). val_of v slots.properties (single (structured name))) same
  record_val value (inr few) =
      ap (λ (v : Value). val_of v slots.properties (single (structured name))) few.1
      ∙ few_val slots (single (structured name)) few.0
      ∙ ap (λ (xs : List Value). record_of slots.properties (single (structured name)) (map val_of xs)) (same_slots few.0 few.2)
      ∙ sym (val_of-Record slots (single (structured name)) values)

  pub record_held : (value : Value) → IsRecordOf values value → HoldsEachSlot (Record values) slots (single (structured name)) → HoldsEachSlot value slots (single (structured name))
  record_held value (inl same) holds = subst (λ (v : Value). HoldsEachSlot v slots (single (structured name))) (sym same) holds
  record_held value (inr few) holds =
      ap (λ (v : Value). (holding_of v).holds slots (single (structured name))) few.1
      ∙ few_holding slots (single (structured name)) few.0
      ∙ ap (λ (xs : List Value). record_holds slots (single (structured name)) (map holding_of xs)) (same_slots few.0 few.2)
      ∙ sym (holding-Record slots (single (structured name)) values)
      ∙ holds
