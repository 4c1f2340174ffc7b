-- The slots of a row that is filled again.
use Rattle.std.proofs.Common.{◌≡◌, ◌≢◌, ◌⊎◌, inl, inr, ℕ, zero, suc, List, [], ◌∷◌, length, map, slice_set, ◌<◌, Bool, true, false, Option, None, Some, slice_get, get_or, IfSome, refl, sym, ap, ◌∙◌, subst, arith}
use Rattle.std.specs.List.{AllByRecursion}
use Rattle.serde_json.specs.Data.{Data, Members, null as json_null, put}
use Rattle.serde_json.specs.Find.{get_member}
use Rattle.serde_json.proofs.Views.{get_member-put, get_member-put_other}
use Rattle.edm_values.specs.Val.{Val}
use Rattle.edm_values.specs.declared.value.Value.{Value, Null}
use Rattle.csdl_schema.specs.SchemaModel.{PropertyModel, PropertyType, Slots, HasDistinctNames, declared, navigation, opaque, slots_behind}
use Rattle.edm_rows.specs.RowReading.{Names}
use Rattle.edm_entities.specs.Fits.{FitsNavigation, FitsProperty}
use Rattle.edm_entities.specs.Row.{field_of, val_of}
use Rattle.edm_rows.specs.private.Passed.{FitsSeen, FitsSlotBut, FitsSoFarBut, MayBeAbsent, SeenAlike}
use Rattle.edm_rows.specs.private.SlotsSoFar.{HoldEachSoFar}
use Rattle.edm_entities.specs.private.Walk.{FitsSlot, HoldEach, HoldsInSlot}
use Rattle.edm_rows.proofs.AlikeValues.{fields_but, seen_alike}
use Rattle.edm_rows.proofs.SlotsHeld.{apart, found_in}
use Rattle.edm_entities.proofs.SlotLemmas.EachSlot.{null_in_slot}
use Rattle.edm_rows.specs.private.KeptRows.{RowConforms}

-- ---- what is kept goes on to fit some object

module _ (slots : Slots) (kept : Members) (name : List ℕ) (json : Data) where
  other_fits : (p : PropertyModel) (v : Value) → p.name ≢ name → FitsSlot slots (found_in kept) p v → FitsSlot slots (found_in (put name json kept)) p v
  other_fits p v other fits =
      (subst (λ (o : Option Data). FitsProperty (slots_behind slots p.name) p.nullable p.type_of o (field_of slots.properties p.type_of (val_of v))) (sym (get_member-put_other p.name name json kept other)) fits.0, fits.1)

  others_fit : (ps : List PropertyModel) (values : List Value) → AllByRecursion (λ p. p.name ≢ name) ps → HoldEach (FitsSlot slots (found_in kept)) ps values → HoldEach (FitsSlot slots (found_in (put name json kept))) ps values
  others_fit [] [] others hold = tt
  others_fit [] (v ∷ values) others hold = absurd hold
  others_fit (p ∷ ps) [] others hold = absurd hold
  others_fit (p ∷ ps) (v ∷ values) others hold = (other_fits p v others.0 hold.0, others_fit ps values others.1 hold.1)

  pub kept_set : (ps : List PropertyModel) (values : List Value) (n : ℕ) (v : Value) → HasDistinctNames ps → slice_get (map (λ p. p.name) ps) n ≡ Some name
      → IfSome (slice_get ps n) (λ p. FitsSeen (slots_behind slots p.name) p.nullable p.type_of (Some json) (val_of v) × HoldsInSlot (slots_behind slots p.name) p.type_of v)
      → HoldEach (FitsSlot slots (found_in kept)) ps values → HoldEach (FitsSlot slots (found_in (put name json kept))) ps (slice_set values n v)
  kept_set [] values n v distinct at fits hold = absurd (cc)
  kept_set (p ∷ ps) [] n v distinct at fits hold = absurd hold
  kept_set (p ∷ ps) (w ∷ values) zero v distinct at fits hold =
      let named : p.name ≡ name = cc in
      let there : Some json ≡ get_member p.name (put name json kept) = sym (ap (λ (s : List ℕ). get_member s (put name json kept)) named ∙ get_member-put name json kept) in
      let others = subst (λ (s : List ℕ). AllByRecursion (λ q. q.name ≢ s) ps) named distinct.0 in
      ((subst (λ (o : Option Data). FitsSeen (slots_behind slots p.name) p.nullable p.type_of o (val_of v)) there fits.0, fits.1), others_fit ps values others hold.1)
  kept_set (p ∷ ps) (w ∷ values) (suc n) v distinct at fits hold =
      (other_fits p w (apart name p.name ps n distinct.0 at) hold.0, kept_set ps values n v distinct.1 at fits hold.1)

both : {A : Type 0} (o : Option A) (P Q : A → Type 0) → IfSome o P → IfSome o Q → IfSome o (λ a. P a × Q a)
both None P Q p q = tt
both (Some a) P Q p q = (p, q)

module _ (slots : Slots) (ps : List PropertyModel) (distinct : HasDistinctNames ps) (values : List Value) (n : ℕ) (v : Value) (name : List ℕ) (at : slice_get (map (λ p. p.name) ps) n ≡ Some name) where
  -- a value that fits some JSON is put into its slot
  pub conforms_set : (json : Data) → IfSome (slice_get ps n) (λ p. FitsSeen (slots_behind slots p.name) p.nullable p.type_of (Some json) (val_of v)) → IfSome (slice_get ps n) (λ p. HoldsInSlot (slots_behind slots p.name) p.type_of v)
      → RowConforms slots ps values → RowConforms slots ps (slice_set values n v)
  conforms_set json fits holds conforms =
      (put name json conforms.0, kept_set slots conforms.0 name json ps values n v distinct at (both (slice_get ps n) _ _ fits holds) conforms.1)

pub held_long : (Q : PropertyModel → Value → Type 0) (ps : List PropertyModel) (values : List Value) → HoldEach Q ps values → length values ≡ length ps
held_long Q [] [] hold = refl
held_long Q [] (v ∷ values) hold = absurd hold
held_long Q (p ∷ ps) [] hold = absurd hold
held_long Q (p ∷ ps) (v ∷ values) hold = ap suc (held_long Q ps values hold.1)

pub slot_stays : (values : List Value) (n : ℕ) (v : Value) → slice_get values n ≡ Some v → slice_set values n v ≡ values
slot_stays [] n v at = refl
slot_stays (w ∷ values) zero v at = let same : w ≡ v = cc in ap (λ x. x ∷ values) (sym same)
slot_stays (w ∷ values) (suc n) v at = ap (λ xs. w ∷ xs) (slot_stays values n v at)

-- ---- null where a slot may be absent

null_leads : (b takes : Bool) (v : Val) (P : Data → Type 0) → FitsNavigation b None takes v P → FitsNavigation b (Some json_null) takes v P
null_leads true takes v P fits = absurd fits
null_leads false takes v P fits = fits

absent_null : (slots : Slots) (nullable : Bool) (type : PropertyType) → FitsSeen slots nullable type None (val_of Null) → FitsSeen slots nullable type (Some json_null) (val_of Null)
absent_null slots nullable (declared type) fits = fits
absent_null slots nullable opaque fits = tt
absent_null slots nullable (navigation None) fits = tt
absent_null slots nullable (navigation (Some type)) fits = null_leads (slots.needed []) _ _ _ fits

pub conforms_null : (slots : Slots) (ps : List PropertyModel) → HasDistinctNames ps → (values : List Value) (n : ℕ) (v : Value) → v ≡ Null → n < length ps → IfSome (slice_get ps n) (MayBeAbsent slots) → RowConforms slots ps values → RowConforms slots ps (slice_set values n v)
conforms_null slots ps distinct values n v is within absent conforms =
    let named = name_there ps n within in
    conforms_set slots ps distinct values n v named.0 named.1 json_null (fits (slice_get ps n) absent) (holds (slice_get ps n)) conforms
  where
    name_there : (qs : List PropertyModel) (k : ℕ) → k < length qs → (name : List ℕ) × (slice_get (map (λ p. p.name) qs) k ≡ Some name)
    name_there [] k less = absurd (omega (arith, less))
    name_there (q ∷ qs) zero less = (q.name, refl)
    name_there (q ∷ qs) (suc k) less = name_there qs k (omega (arith, less))

    fits : (o : Option PropertyModel) → IfSome o (MayBeAbsent slots) → IfSome o (λ p. FitsSeen (slots_behind slots p.name) p.nullable p.type_of (Some json_null) (val_of v))
    fits None a = tt
    fits (Some p) a = subst (λ (w : Value). FitsSeen (slots_behind slots p.name) p.nullable p.type_of (Some json_null) (val_of w)) (sym is) (absent_null (slots_behind slots p.name) p.nullable p.type_of a)

    holds : (o : Option PropertyModel) → IfSome o (λ p. HoldsInSlot (slots_behind slots p.name) p.type_of v)
    holds None = tt
    holds (Some p) = null_in_slot (slots_behind slots p.name) p.type_of v is

-- ---- at the end each slot was filled, or may be absent and is null or passed

over_slot : (slots : Slots) (Passed : Names) (found : List ℕ → Option Data) (p : PropertyModel) (b : Bool) (v w : Value) → (b ≡ true → Some w ≡ Some v) → (b ≡ false → MayBeAbsent slots p × (Passed p.name ⊎ (w ≡ Null)))
    → FitsSoFarBut slots Passed found p b v → FitsSlotBut slots Passed found p w
over_slot slots Passed found p true v w same absent fits = (fits.0, fits.1, kept fits.2)
  where
    kept : Passed p.name ⊎ SeenAlike slots Passed p.type_of (val_of v) fits.0 → Passed p.name ⊎ SeenAlike slots Passed p.type_of (val_of w) fits.0
    kept (inl passed) = inl passed
    kept (inr alike) =
        let one : Some w ≡ Some v = same refl in
        let two : w ≡ v = cc in
        inr (subst (λ (x : Value). SeenAlike slots Passed p.type_of (val_of x) fits.0) (sym two) alike)
over_slot slots Passed found p false v w same absent none =
    let may = absent refl in
    (val_of Null, subst (λ (o : Option Data). FitsSeen (slots_behind slots p.name) p.nullable p.type_of o (val_of Null)) (sym none) may.0, null_kept may.1)
  where
    null_kept : Passed p.name ⊎ (w ≡ Null) → Passed p.name ⊎ SeenAlike slots Passed p.type_of (val_of w) (val_of Null)
    null_kept (inl passed) = inl passed
    null_kept (inr is) = inr (seen_alike slots Passed p.type_of (val_of w) (val_of Null) (ap val_of is))

pub kept_over : (slots : Slots) (Passed : Names) (found : List ℕ → Option Data) (ps : List PropertyModel) (filled : List Bool) (old new : List Value) → length new ≡ length ps
    → ((k : ℕ) → get_or filled k false ≡ true → slice_get new k ≡ slice_get old k)
    → ((k : ℕ) → get_or filled k false ≡ false → IfSome (slice_get ps k) (λ p. MayBeAbsent slots p × (Passed p.name ⊎ (slice_get new k ≡ Some Null)))) → HoldEachSoFar (FitsSoFarBut slots Passed found) ps filled old
    → HoldEach (FitsSlotBut slots Passed found) ps new
kept_over slots Passed found [] filled old [] long same absent hold = tt
kept_over slots Passed found [] filled old (w ∷ new) long same absent hold = absurd (omega (arith, long))
kept_over slots Passed found (p ∷ ps) filled old [] long same absent hold = absurd (omega (arith, long))
kept_over slots Passed found (p ∷ ps) [] old (w ∷ new) long same absent hold = absurd hold
kept_over slots Passed found (p ∷ ps) (b ∷ filled) [] (w ∷ new) long same absent hold = absurd hold
kept_over slots Passed found (p ∷ ps) (b ∷ filled) (v ∷ old) (w ∷ new) long same absent hold = (
  over_slot slots Passed found p b v w (same 0) (λ is. let may = absent 0 is in (may.0, null_is may.1)) hold.0,
  kept_over slots Passed found ps filled old new (omega (arith, long)) (λ k. same (suc k)) (λ k. absent (suc k)) hold.1,
)
  where
    null_is : Passed p.name ⊎ (Some w ≡ Some Null) → Passed p.name ⊎ (w ≡ Null)
    null_is (inl passed) = inl passed
    null_is (inr is) = inr (cc)

-- ---- what fits but for some slots fits but for more

fewer_slot : (slots : Slots) (Passed More : Names) (found : List ℕ → Option Data) (p : PropertyModel) (b : Bool) (v : Value) → ((name : List ℕ) → Passed name → More name) → FitsSoFarBut slots Passed found p b v → FitsSoFarBut slots More found p b v
fewer_slot slots Passed More found p false v more none = none
fewer_slot slots Passed More found p true v more fits = (fits.0, fits.1, kept fits.2)
  where
    kept : Passed p.name ⊎ SeenAlike slots Passed p.type_of (val_of v) fits.0 → More p.name ⊎ SeenAlike slots More p.type_of (val_of v) fits.0
    kept (inl passed) = inl (more p.name passed)
    kept (inr alike) = inr (fields_but Passed More more (field_of slots.properties p.type_of (val_of v)) (field_of slots.properties p.type_of fits.0) alike)

pub passed_more : (slots : Slots) (Passed More : Names) (found : List ℕ → Option Data) (ps : List PropertyModel) (filled : List Bool) (values : List Value) → ((name : List ℕ) → Passed name → More name)
    → HoldEachSoFar (FitsSoFarBut slots Passed found) ps filled values → HoldEachSoFar (FitsSoFarBut slots More found) ps filled values
passed_more slots Passed More found [] filled [] more hold = tt
passed_more slots Passed More found [] filled (v ∷ values) more hold = absurd hold
passed_more slots Passed More found (p ∷ ps) [] values more hold = absurd hold
passed_more slots Passed More found (p ∷ ps) (b ∷ filled) [] more hold = absurd hold
passed_more slots Passed More found (p ∷ ps) (b ∷ filled) (v ∷ values) more hold = (fewer_slot slots Passed More found p b v more hold.0, passed_more slots Passed More found ps filled values more hold.1)
