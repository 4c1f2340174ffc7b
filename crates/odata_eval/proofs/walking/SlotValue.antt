-- The value in a property's slot is the record's value of the property's name.
use Rattle.std.proofs.Common.{◌≡◌, ◌∙◌, ℕ, zero, suc, ◌<◌, ◌+◌, List, [], ◌∷◌, true, false, cond, not, map, Option, Some, None, length, slice_get, refl, rules, sym, ap, subst, nat_eq, one-add, arith}
use Rattle.std.specs.Prelude.{IsSomeAnd, Vec, Bool as Truth}
use Rattle.std.specs.List.{position_or_len}
use Rattle.std.specs.declared.alloc.Global.{Global}
use Rattle.std.specs.Cmp.Lexicographic.{pointwise}
use Rattle.std.proofs.lemmas.Bool.Decides.{same_from_decides, Decides-like}
use Rattle.std.proofs.lemmas.Slice.Eq.{bytes_eq-Decides}
use Rattle.edm_values.specs.Val.{Val, fields, FieldVal, present}
use Rattle.std.proofs.lemmas.List.Quantifiers.{position-Some}
use Rattle.edm_values.specs.Sparse.{beside, by_slot}
use Rattle.edm_values.specs.declared.value.Value.{Value, Null, Record, the_lemmas}
use Rattle.csdl_schema.specs.ExprType.{ExprType, single, structured}
use Rattle.csdl_schema.specs.SchemaModel.{Slots, PropertyModel, PropertyType, declared, opaque, navigation, slot_named, slots_of, properties_at, type_name_at}
use Rattle.edm_entities.specs.Row.{Row, val_of, value_of, field_of, field_by_name, record_of}
use Rattle.odata_meaning.specs.NameGives.{StepGives}
use Rattle.odata_filter_operations.specs.Outcome.{gives}
use Rattle.odata_signatures.specs.Typed.{PropertyTyped, named_type, property_named}
use Rattle.filter_context.specs.private.EvalContext.{HoldsAt}
use Rattle.odata_meaning.proofs.meaning.Progress.{field_gives}

pub val_of-Record : (slots : Slots) (type : ExprType) (v : Vec Value Global) → val_of (Record v) slots.properties type ≡ record_of slots.properties type (map val_of v.items)
val_of-Record slots type v = search (rules, the_lemmas)

-- names are compared alike from both sides
pub same_sides : (a b : List ℕ) → pointwise nat_eq a b ≡ pointwise nat_eq b a
same_sides a b = same_from_decides (pointwise nat_eq a b) (pointwise nat_eq b a) (bytes_eq-Decides a b)
    (Decides-like (pointwise nat_eq b a) sym sym (bytes_eq-Decides b a))

-- what stands in a slot, where an expression names its property
named_field : (slots : Slots) (type_of : PropertyType) (type : ExprType) (w : Value) → named_type type_of ≡ Some type
    → field_of slots.properties type_of (val_of w) ≡ present (val_of w slots.properties type)
named_field slots (declared t) type w named = let same : t ≡ type = cc in ap (λ (s : ExprType). present (val_of w slots.properties s)) same
named_field slots opaque type w named = absurd cc
named_field slots (navigation None) type w named = absurd cc
named_field slots (navigation (Some t)) type w named = let same : t ≡ type = cc in ap (λ (s : ExprType). present (val_of w slots.properties s)) same

module _ (slots : Slots) (asked : List ℕ) (type : ExprType) (v : Value) where
  -- at one property more
  at_front : (is_it : Truth) (p : PropertyModel) (w : Value) (ws : List Value) (n : ℕ) (found : Option PropertyModel) (behind : FieldVal)
      → slice_get (w ∷ ws) (cond (not is_it) (1 + n) 0) ≡ Some v
      → IsSomeAnd (cond is_it (Some p) found) (λ q. named_type q.type_of ≡ Some type)
      → (slice_get ws n ≡ Some v → IsSomeAnd found (λ q. named_type q.type_of ≡ Some type) → behind ≡ present (val_of v slots.properties type))
      → cond is_it (field_of slots.properties p.type_of (val_of w)) behind ≡ present (val_of v slots.properties type)
  at_front true p w ws n found behind at typed further =
      let same : w ≡ v = cc in
      named_field slots p.type_of type w typed ∙ ap (λ (u : Value). present (val_of u slots.properties type)) same
  at_front false p w ws n found behind at typed further = further (ap (slice_get (w ∷ ws)) (sym (one-add n)) ∙ at) typed

  pub held_at : (properties : List PropertyModel) (values : List Value)
      → slice_get values (position_or_len (λ p. pointwise nat_eq asked p.name) properties) ≡ Some v → PropertyTyped properties asked type
      → field_by_name slots.properties properties (map val_of values) asked ≡ present (val_of v slots.properties type)
  held_at [] values at typed = absurd typed
  held_at (p ∷ more) [] at typed = absurd (cc)
  held_at (p ∷ more) (w ∷ ws) at typed =
      subst (λ (is_it : Truth). cond is_it (field_of slots.properties p.type_of (val_of w)) (field_by_name slots.properties more (map val_of ws) asked) ≡ present (val_of v slots.properties type))
      (same_sides asked p.name)
      (at_front (pointwise nat_eq asked p.name) p w ws (position_or_len (λ q. pointwise nat_eq asked q.name) more) (property_named more asked)
      (field_by_name slots.properties more (map val_of ws) asked) at typed (held_at more ws))

-- the slot that a search found
pub found_slot : (inside : Truth) (position n : ℕ) → cond inside (Some position) None ≡ Some n → position ≡ n
found_slot true position n at = cc
found_slot false position n at = cc

-- what stands in the slot of a name is what the record has under it
pub field_at : (slots : Slots) (properties : List PropertyModel) (asked : List ℕ) (slot : ℕ) (type : ExprType) (values : List Value) (v : Value)
    → slot_named properties asked ≡ Some slot → PropertyTyped properties asked type → slice_get values slot ≡ Some v
    → field_by_name slots.properties properties (map val_of values) asked ≡ present (val_of v slots.properties type)
field_at slots properties asked slot type values v named typed at =
    let position : position_or_len (λ p. pointwise nat_eq asked p.name) properties ≡ slot = found_slot _ _ slot named in
    held_at slots asked type v properties values (subst (λ (n : ℕ). slice_get values n ≡ Some v) (sym position) at) typed

-- a slot that has a name is one of the type's
pub named_within : (asked : List ℕ) (properties : List PropertyModel) (slot : ℕ) → slot_named properties asked ≡ Some slot → slot < length properties
named_within asked properties slot named =
    (position-Some (λ p. pointwise nat_eq asked p.name) properties slot (record { name = []; type_of = opaque; many = false; nullable = false }) named).0

-- what stands beside a slot is its value among those of all slots
pub slot_beside : (held : List (ℕ × Value)) (from count slot at : ℕ) → from + slot ≡ at → slot < count → slice_get (by_slot Null held from count) slot ≡ Some (beside Null held at)
slot_beside held from zero slot at is less = absurd (omega (arith, less))
slot_beside held from (suc count) zero at is less = let same : from ≡ at = omega (arith, is) in ap (λ k. Some (beside Null held k)) same
slot_beside held from (suc count) (suc slot) at is less = slot_beside held (suc from) count slot at (omega (arith, is)) (omega (arith, less))

-- of the entity
pub slot_value : (row : Row) (slot : ℕ) (v : Value) (asked : List ℕ) (type : ExprType) → HoldsAt row slot v
    → slot_named (properties_at row.schema row.type_id) asked ≡ Some slot
    → PropertyTyped (properties_at row.schema row.type_id) asked type
    → StepGives (value_of row) asked (gives (val_of v (slots_of row.schema).properties type))
slot_value row slot v asked type holds named typed =
    let slots : Slots = slots_of row.schema in
    let type_name : List ℕ = type_name_at row.schema row.type_id in
    let held : List ℕ → FieldVal = field_by_name slots.properties (slots.properties type_name) (map val_of holds.0.items) in
    let seen : value_of row ≡ fields held =
    ap (λ (h : Value). val_of h slots.properties (single (structured type_name))) holds.1.0 ∙ val_of-Record slots (single (structured type_name)) holds.0 in
    subst (λ (e : Val). StepGives e asked (gives (val_of v slots.properties type))) (sym seen)
    (field_gives held asked (val_of v slots.properties type) (field_at slots (slots.properties type_name) asked slot type holds.0.items v named typed holds.1.1))

-- a record that has a value of a property's name has its slot
pub slot_within : (slots : Slots) (asked : List ℕ) (type : ExprType) (properties : List PropertyModel) (values : List Value)
    → PropertyTyped properties asked type
    → (v : Val) → field_by_name slots.properties properties (map val_of values) asked ≡ present v
    → position_or_len (λ p. pointwise nat_eq asked p.name) properties < length values
slot_within slots asked type [] values typed v here = absurd typed
slot_within slots asked type (p ∷ more) [] typed v here = absurd (cc)
slot_within slots asked type (p ∷ more) (w ∷ ws) typed v here =
    elim (pointwise nat_eq asked p.name) as (λ is_it. pointwise nat_eq asked p.name ≡ is_it
    → IsSomeAnd (cond is_it (Some p) (property_named more asked)) (λ q. named_type q.type_of ≡ Some type)
    → cond is_it (field_of slots.properties p.type_of (val_of w)) (field_by_name slots.properties more (map val_of ws) asked) ≡ present v
    → cond (not is_it) (1 + position_or_len (λ q. pointwise nat_eq asked q.name) more) 0 < length (w ∷ ws)) [
      | true ↦ λ same is_typed is_here. omega arith
      | false ↦ λ other is_typed is_here.
          let below : position_or_len (λ q. pointwise nat_eq asked q.name) more < length ws = slot_within slots asked type more ws is_typed v is_here in omega arith
    ] refl typed (subst (λ (is_it : Truth). cond is_it (field_of slots.properties p.type_of (val_of w)) (field_by_name slots.properties more (map val_of ws) asked) ≡ present v) (sym (same_sides asked p.name)) here)
