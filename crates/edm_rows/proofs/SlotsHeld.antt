-- The slots of a record, while the members of an object are read into them.
use Rattle.std.proofs.Common.{◌≡◌, ◌≢◌, ℕ, zero, suc, ◌<◌, ◌≤◌, List, [], ◌∷◌, length, map, replicate, slice_get, slice_set, get_or, Bool, true, false, Option, Some, IfSome, refl, sym, ap, ◌∙◌, subst, arith}
use Rattle.std.specs.List.{AllByRecursion}
use Rattle.serde_json.specs.Data.{Data, Members, no_members, put}
use Rattle.serde_json.specs.Find.{get_member}
use Rattle.serde_json.proofs.Views.{get_member-put, get_member-put_other}
use Rattle.csdl_schema.specs.SchemaModel.{HasDistinctNames, PropertyModel, Slots, slots_behind}
use Rattle.edm_values.specs.declared.value.Value.{Value}
use Rattle.edm_rows.specs.private.SlotsSoFar.{HoldEachSoFar, HoldsSoFar, SlotsSoFar}
use Rattle.edm_entities.specs.Fits.{FitsProperty}
use Rattle.edm_entities.specs.Row.{field_of, val_of}
use Rattle.edm_entities.specs.private.Walk.{HoldsInSlot}

abbrev pub found_in : Members → List ℕ → Option Data
found_in found name = get_member name found

-- ---- names

-- a name after another is another
pub apart : (name first : List ℕ) (ps : List PropertyModel) (n : ℕ) → AllByRecursion (λ q. q.name ≢ first) ps → slice_get (map (λ p. p.name) ps) n ≡ Some name → first ≢ name
apart name first [] n others at = absurd (cc)
apart name first (p ∷ ps) zero others at = let named : p.name ≡ name = cc in λ same. others.0 (named ∙ sym same)
apart name first (p ∷ ps) (suc n) others at = apart name first ps n others.1 at

pub slot_within : (ps : List PropertyModel) (n : ℕ) (name : List ℕ) → slice_get (map (λ p. p.name) ps) n ≡ Some name → n < length ps
slot_within [] n name at = absurd (cc)
slot_within (p ∷ ps) zero name at = omega arith
slot_within (p ∷ ps) (suc n) name at = omega (arith, slot_within ps n name at)

-- ---- marks

pub mark_set : (filled : List Bool) (n : ℕ) → n < length filled → get_or (slice_set filled n true) n false ≡ true
mark_set [] n within = absurd (omega arith)
mark_set (b ∷ filled) zero within = refl
mark_set (b ∷ filled) (suc n) within = mark_set filled n (omega (arith, within))

pub mark_kept : (filled : List Bool) (n k : ℕ) → get_or filled k false ≡ true → get_or (slice_set filled n true) k false ≡ true
mark_kept [] n k is = is
mark_kept (b ∷ filled) zero zero is = refl
mark_kept (b ∷ filled) zero (suc k) is = is
mark_kept (b ∷ filled) (suc n) zero is = is
mark_kept (b ∷ filled) (suc n) (suc k) is = mark_kept filled n k is

-- ---- before the first member

none_held : (slots : Slots) (ps : List PropertyModel) (marks : ℕ) (values : List Value) → length ps ≤ marks → length values ≡ length ps → HoldEachSoFar (HoldsSoFar slots (found_in no_members)) ps (replicate marks false) values
none_held slots [] marks [] few long = tt
none_held slots [] marks (v ∷ values) few long = absurd (omega (arith, long))
none_held slots (p ∷ ps) zero values few long = absurd (omega (arith, few))
none_held slots (p ∷ ps) (suc marks) [] few long = absurd (omega (arith, long))
none_held slots (p ∷ ps) (suc marks) (v ∷ values) few long = (refl, none_held slots ps marks values (omega (arith, few)) (omega (arith, long)))

pub slots_start : (slots : Slots) (ps : List PropertyModel) (marks : ℕ) (filled : List Bool) (values : List Value) → filled ≡ replicate marks false → length ps ≤ marks → length values ≡ length ps
    → SlotsSoFar slots ps no_members filled values
slots_start slots ps marks filled values are few long = subst (λ (bs : List Bool). SlotsSoFar slots ps no_members bs values) (sym are) (none_held slots ps marks values few long)

-- ---- one member more

module _ (slots : Slots) (found : Members) (name : List ℕ) (json : Data) where
  other_holds : (p : PropertyModel) (b : Bool) (v : Value) → p.name ≢ name → HoldsSoFar slots (found_in found) p b v → HoldsSoFar slots (found_in (put name json found)) p b v
  other_holds p false v other none = get_member-put_other p.name name json found other ∙ none
  other_holds p true v other fits =
      (subst (λ (o : Option Data). FitsProperty (slots_behind slots p.name) p.nullable p.type_of o (field_of slots.properties p.type_of (val_of v))) (sym (get_member-put_other p.name name json found other)) fits.0, fits.1)

  pub others_hold : (ps : List PropertyModel) (filled : List Bool) (values : List Value) → AllByRecursion (λ p. p.name ≢ name) ps → HoldEachSoFar (HoldsSoFar slots (found_in found)) ps filled values
      → HoldEachSoFar (HoldsSoFar slots (found_in (put name json found))) ps filled values
  others_hold [] filled [] others hold = tt
  others_hold [] filled (v ∷ values) others hold = absurd hold
  others_hold (p ∷ ps) [] values others hold = absurd hold
  others_hold (p ∷ ps) (b ∷ filled) [] others hold = absurd hold
  others_hold (p ∷ ps) (b ∷ filled) (v ∷ values) others hold = (other_holds p b v others.0 hold.0, others_hold ps filled values others.1 hold.1)

  -- what fits what was found fills its slot
  pub slot_set : (ps : List PropertyModel) (filled : List Bool) (values : List Value) (n : ℕ) (v : Value) → HasDistinctNames ps → slice_get (map (λ p. p.name) ps) n ≡ Some name
      → IfSome (slice_get ps n) (λ p. FitsProperty (slots_behind slots p.name) p.nullable p.type_of (Some json) (field_of slots.properties p.type_of (val_of v)))
      → IfSome (slice_get ps n) (λ p. HoldsInSlot (slots_behind slots p.name) p.type_of v)
      → HoldEachSoFar (HoldsSoFar slots (found_in found)) ps filled values → HoldEachSoFar (HoldsSoFar slots (found_in (put name json found))) ps (slice_set filled n true) (slice_set values n v)
  slot_set [] filled values n v distinct at fits holds hold = absurd (cc)
  slot_set (p ∷ ps) [] values n v distinct at fits holds hold = absurd hold
  slot_set (p ∷ ps) (b ∷ filled) [] n v distinct at fits holds hold = absurd hold
  slot_set (p ∷ ps) (b ∷ filled) (w ∷ values) zero v distinct at fits holds hold =
      let named : p.name ≡ name = cc in
      let here : Some json ≡ get_member p.name (put name json found) = sym (ap (λ (s : List ℕ). get_member s (put name json found)) named ∙ get_member-put name json found) in
      let others = subst (λ (s : List ℕ). AllByRecursion (λ q. q.name ≢ s) ps) named distinct.0 in
      ((subst (λ (o : Option Data). FitsProperty (slots_behind slots p.name) p.nullable p.type_of o (field_of slots.properties p.type_of (val_of v))) here fits, holds), others_hold ps filled values others hold.1)
  slot_set (p ∷ ps) (b ∷ filled) (w ∷ values) (suc n) v distinct at fits holds hold =
      (other_holds p b w (apart name p.name ps n distinct.0 at) hold.0, slot_set ps filled values n v distinct.1 at fits holds hold.1)
