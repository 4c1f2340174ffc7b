-- The slots of a type, while the members of an object are read into them.
use Rattle.std.proofs.Common.{◌≡◌, ◌≢◌, ℕ, zero, suc, List, [], ◌∷◌, map, slice_set, Bool, true, false, Option, Some, slice_get, IfSome, sym, ap, ◌∙◌, subst}
use Rattle.std.specs.List.{AllByRecursion}
use Rattle.serde_json.specs.Data.{Data, Members, put}
use Rattle.serde_json.specs.Find.{get_member}
use Rattle.serde_json.proofs.Views.{get_member-put, get_member-put_other}
use Rattle.edm_values.specs.declared.value.Value.{Value}
use Rattle.csdl_schema.specs.SchemaModel.{Slots, PropertyModel, slots_behind, HasDistinctNames}
use Rattle.edm_entities.specs.Fits.{FitsProperty}
use Rattle.edm_entities.specs.Row.{field_of, val_of}
use Rattle.edm_rows.specs.private.SlotsSoFar.{HoldsSoFar, HoldEachSoFar}
use Rattle.edm_entities.specs.private.Walk.{HoldsInSlot}

abbrev pub found_in : Members → List ℕ → Option Data
found_in found name = get_member name found

-- ---- lengths

-- ---- at the start

-- ---- one member more

module _ (slots : Slots) (found : Members) (name : List ℕ) (json : Data) where
  other_holds : (p : PropertyModel) (b : Bool) (v : Value) → p.name ≢ name → HoldsSoFar slots (found_in found) p b v → HoldsSoFar slots (found_in (put name json found)) p b v
  other_holds p false v other none = get_member-put_other p.name name json found other ∙ none
  other_holds p true v other fits =
      (subst (λ (o : Option Data). FitsProperty (slots_behind slots p.name) p.nullable p.type_of o (field_of slots.properties p.type_of (val_of v))) (sym (get_member-put_other p.name name json found other)) fits.0, fits.1)

  pub others_hold : (ps : List PropertyModel) (filled : List Bool) (values : List Value) → AllByRecursion (λ p. p.name ≢ name) ps → HoldEachSoFar (HoldsSoFar slots (found_in found)) ps filled values
      → HoldEachSoFar (HoldsSoFar slots (found_in (put name json found))) ps filled values
  others_hold [] filled [] others hold = tt
  others_hold [] filled (v ∷ values) others hold = absurd hold
  others_hold (p ∷ ps) [] values others hold = absurd hold
  others_hold (p ∷ ps) (b ∷ filled) [] others hold = absurd hold
  others_hold (p ∷ ps) (b ∷ filled) (v ∷ values) others hold = (other_holds p b v others.0 hold.0, others_hold ps filled values others.1 hold.1)

  -- a name after another is another
  pub apart : (first : List ℕ) (ps : List PropertyModel) (n : ℕ) → AllByRecursion (λ q. q.name ≢ first) ps → slice_get (map (λ p. p.name) ps) n ≡ Some name → first ≢ name
  apart first [] n others at = absurd (cc)
  apart first (p ∷ ps) zero others at = let named : p.name ≡ name = cc in λ same. others.0 (named ∙ sym same)
  apart first (p ∷ ps) (suc n) others at = apart first ps n others.1 at

  -- what fits what was found fills its slot
  pub slot_set : (ps : List PropertyModel) (filled : List Bool) (values : List Value) (n : ℕ) (v : Value) → HasDistinctNames ps → slice_get (map (λ p. p.name) ps) n ≡ Some name
      → IfSome (slice_get ps n) (λ p. FitsProperty (slots_behind slots p.name) p.nullable p.type_of (Some json) (field_of slots.properties p.type_of (val_of v)))
      → IfSome (slice_get ps n) (λ p. HoldsInSlot (slots_behind slots p.name) p.type_of v)
      → HoldEachSoFar (HoldsSoFar slots (found_in found)) ps filled values → HoldEachSoFar (HoldsSoFar slots (found_in (put name json found))) ps (slice_set filled n true) (slice_set values n v)
  slot_set [] filled values n v distinct at fits holds hold = absurd (cc)
  slot_set (p ∷ ps) [] values n v distinct at fits holds hold = absurd hold
  slot_set (p ∷ ps) (b ∷ filled) [] n v distinct at fits holds hold = absurd hold
  slot_set (p ∷ ps) (b ∷ filled) (w ∷ values) zero v distinct at fits holds hold =
      let named : p.name ≡ name = cc in
      let here : Some json ≡ get_member p.name (put name json found) = sym (ap (λ (s : List ℕ). get_member s (put name json found)) named ∙ get_member-put name json found) in
      let others = subst (λ (s : List ℕ). AllByRecursion (λ q. q.name ≢ s) ps) named distinct.0 in
      ((subst (λ (o : Option Data). FitsProperty (slots_behind slots p.name) p.nullable p.type_of o (field_of slots.properties p.type_of (val_of v))) here fits, holds), others_hold ps filled values others hold.1)
  slot_set (p ∷ ps) (b ∷ filled) (w ∷ values) (suc n) v distinct at fits holds hold =
      (other_holds p b w (apart p.name ps n distinct.0 at) hold.0, slot_set ps filled values n v distinct.1 at fits holds hold.1)

-- ---- at the end

-- ---- properties as the code reads them

-- what holds of a property after its name
pub behind_named : (P : Slots → PropertyModel → Type 0) (slots inner : Slots) (ps : List PropertyModel) (n : ℕ) (name : List ℕ) → inner ≡ slots_behind slots name
    → slice_get (map (λ p. p.name) ps) n ≡ Some name → IfSome (slice_get ps n) (P inner) → IfSome (slice_get ps n) (λ p. P (slots_behind slots p.name) p)
behind_named P slots inner [] zero name same at holds = absurd (cc)
behind_named P slots inner [] (suc n) name same at holds = absurd (cc)
behind_named P slots inner (p ∷ ps) zero name same at holds =
    let named : p.name ≡ name = cc in
    subst (λ (s : List ℕ). P (slots_behind slots s) p) (sym named) (subst (λ (s : Slots). P s p) same holds)
behind_named P slots inner (p ∷ ps) (suc n) name same at holds = behind_named P slots inner ps n name same at holds

-- ---- marks
