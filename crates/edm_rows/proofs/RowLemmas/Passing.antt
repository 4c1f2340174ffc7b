-- Slots whose values are held to their types, of which not all are kept.
use Rattle.std.proofs.Common.{◌≡◌, ◌≢◌, ◌⊎◌, inl, inr, ℕ, zero, suc, List, [], ◌∷◌, length, map, replicate, slice_set, ◌≤◌, Bool, true, false, Option, Some, IsSome, slice_get, get_or, IfSome, refl, sym, ap, ◌∙◌, subst, arith}
use Rattle.std.specs.List.{AllByRecursion}
use Rattle.std.specs.Cmp.Lexicographic.{pointwise, same_text}
use Rattle.std.specs.Prelude.{nat_eq}
use Rattle.serde_json.specs.Data.{Data, Members, no_members, put}
use Rattle.serde_json.specs.Find.{as_object, get, get_member}
use Rattle.serde_json.proofs.Views.{get_member-put, get_member-put_other}
use Rattle.edm_values.specs.declared.value.Value.{Value, Null}
use Rattle.csdl_schema.specs.SchemaModel.{PropertyModel, Slots, HasDistinctNames, slots_behind}
use Rattle.edm_entities.specs.Fits.{FitsProperty, FitsRecord}
use Rattle.edm_entities.specs.Row.{ValAtType, field_by_name, field_of, val_of}
use Rattle.edm_values.specs.Val.{FieldVal}
use Rattle.edm_rows.specs.Alike.{FieldsAlike, Names, both_absent}
use Rattle.edm_rows.specs.private.Passed.{MayBeAbsent, FitsSeen, FitsSlotBut, FitsSoFarBut, SeenAlike, SlotsSoFarBut}
use Rattle.edm_rows.specs.private.SlotsSoFar.{HoldEachSoFar}
use Rattle.edm_entities.specs.private.Walk.{HoldEach}
use Rattle.edm_rows.proofs.RowLemmas.SlotsRead.{apart, found_in}
use Rattle.edm_entities.proofs.SlotLemmas.SlotsByName.{behind, here, other_name, others_absent}

-- ---- at the start

none_passed : (slots : Slots) (Passed : Names) (ps : List PropertyModel) (marks : ℕ) (values : List Value) → length ps ≤ marks → length values ≡ length ps
    → HoldEachSoFar (FitsSoFarBut slots Passed (found_in no_members)) ps (replicate marks false) values
none_passed slots Passed [] marks [] few long = tt
none_passed slots Passed [] marks (v ∷ values) few long = absurd (omega (arith, long))
none_passed slots Passed (p ∷ ps) zero values few long = absurd (omega (arith, few))
none_passed slots Passed (p ∷ ps) (suc marks) [] few long = absurd (omega (arith, long))
none_passed slots Passed (p ∷ ps) (suc marks) (v ∷ values) few long = (refl, none_passed slots Passed ps marks values (omega (arith, few)) (omega (arith, long)))

pub passed_start : (slots : Slots) (Passed : Names) (ps : List PropertyModel) (marks : ℕ) (filled : List Bool) (values : List Value) → filled ≡ replicate marks false → length ps ≤ marks → length values ≡ length ps
    → SlotsSoFarBut slots Passed ps no_members filled values
passed_start slots Passed ps marks filled values are few long =
    subst (λ (bs : List Bool). SlotsSoFarBut slots Passed ps no_members bs values) (sym are) (none_passed slots Passed ps marks values few long)

-- as many values as there are slots
pub some_values : (ps : List PropertyModel) → (values : List Value) × (length values ≡ length ps)
some_values [] = ([], refl)
some_values (p ∷ ps) = let more = some_values ps in (Null ∷ more.0, ap suc more.1)

-- ---- one member more

module _ (slots : Slots) (Passed : Names) (found : Members) (name : List ℕ) (json : Data) where
  other_passed : (p : PropertyModel) (b : Bool) (v : Value) → p.name ≢ name → FitsSoFarBut slots Passed (found_in found) p b v → FitsSoFarBut slots Passed (found_in (put name json found)) p b v
  other_passed p false v other none = get_member-put_other p.name name json found other ∙ none
  other_passed p true v other fits =
      (fits.0, subst (λ (o : Option Data). FitsSeen (slots_behind slots p.name) p.nullable p.type_of o fits.0) (sym (get_member-put_other p.name name json found other)) fits.1, fits.2)

  pub others_passed : (ps : List PropertyModel) (filled : List Bool) (values : List Value) → AllByRecursion (λ p. p.name ≢ name) ps → HoldEachSoFar (FitsSoFarBut slots Passed (found_in found)) ps filled values
      → HoldEachSoFar (FitsSoFarBut slots Passed (found_in (put name json found))) ps filled values
  others_passed [] filled [] others hold = tt
  others_passed [] filled (v ∷ values) others hold = absurd hold
  others_passed (p ∷ ps) [] values others hold = absurd hold
  others_passed (p ∷ ps) (b ∷ filled) [] others hold = absurd hold
  others_passed (p ∷ ps) (b ∷ filled) (v ∷ values) others hold = (other_passed p b v others.0 hold.0, others_passed ps filled values others.1 hold.1)

  -- what fits what was found fills its slot
  pub passed_set : (ps : List PropertyModel) (filled : List Bool) (values : List Value) (n : ℕ) (v : Value) (seen : ValAtType) → HasDistinctNames ps → slice_get (map (λ p. p.name) ps) n ≡ Some name
      → IfSome (slice_get ps n) (λ p. FitsSeen (slots_behind slots p.name) p.nullable p.type_of (Some json) seen) → Passed name ⊎ IfSome (slice_get ps n) (λ p. SeenAlike slots Passed p.type_of (val_of v) seen)
      → HoldEachSoFar (FitsSoFarBut slots Passed (found_in found)) ps filled values → HoldEachSoFar (FitsSoFarBut slots Passed (found_in (put name json found))) ps (slice_set filled n true) (slice_set values n v)
  passed_set [] filled values n v seen distinct at fits kept hold = absurd (cc)
  passed_set (p ∷ ps) [] values n v seen distinct at fits kept hold = absurd hold
  passed_set (p ∷ ps) (b ∷ filled) [] n v seen distinct at fits kept hold = absurd hold
  passed_set (p ∷ ps) (b ∷ filled) (w ∷ values) zero v seen distinct at fits kept hold =
      let named : p.name ≡ name = cc in
      let there : Some json ≡ get_member p.name (put name json found) = sym (ap (λ (s : List ℕ). get_member s (put name json found)) named ∙ get_member-put name json found) in
      let others = subst (λ (s : List ℕ). AllByRecursion (λ q. q.name ≢ s) ps) named distinct.0 in (
        (seen, subst (λ (o : Option Data). FitsSeen (slots_behind slots p.name) p.nullable p.type_of o seen) there fits, subst (λ (s : List ℕ). Passed s ⊎ SeenAlike slots Passed p.type_of (val_of v) seen) (sym named) kept),
        others_passed ps filled values others hold.1,
      )
  passed_set (p ∷ ps) (b ∷ filled) (w ∷ values) (suc n) v seen distinct at fits kept hold =
      (other_passed p b w (apart slots found name json p.name ps n distinct.0 at) hold.0, passed_set ps filled values n v seen distinct.1 at fits kept hold.1)

-- ---- at the end

either_fits : (slots : Slots) (Passed : Names) (found : List ℕ → Option Data) (p : PropertyModel) (b : Bool) (v : Value) → ((name : List ℕ) → Passed name) → (b ≡ true) ⊎ MayBeAbsent slots p
    → FitsSoFarBut slots Passed found p b v → FitsSlotBut slots Passed found p v
either_fits slots Passed found p true v all or fits = fits
either_fits slots Passed found p false v all (inl is) none = absurd (cc)
either_fits slots Passed found p false v all (inr absent) none =
    (val_of Null, subst (λ (o : Option Data). FitsSeen (slots_behind slots p.name) p.nullable p.type_of o (val_of Null)) (sym none) absent, inl (all p.name))

-- where all names are passed, each slot was filled or may be absent
pub all_passed : (slots : Slots) (Passed : Names) (found : List ℕ → Option Data) (ps : List PropertyModel) (filled : List Bool) (values : List Value) → ((name : List ℕ) → Passed name)
    → ((k : ℕ) → (get_or filled k false ≡ true) ⊎ IfSome (slice_get ps k) (MayBeAbsent slots)) → HoldEachSoFar (FitsSoFarBut slots Passed found) ps filled values
    → HoldEach (FitsSlotBut slots Passed found) ps values
all_passed slots Passed found [] filled [] all each hold = tt
all_passed slots Passed found [] filled (v ∷ values) all each hold = absurd hold
all_passed slots Passed found (p ∷ ps) [] values all each hold = absurd hold
all_passed slots Passed found (p ∷ ps) (b ∷ filled) [] all each hold = absurd hold
all_passed slots Passed found (p ∷ ps) (b ∷ filled) (v ∷ values) all each hold =
    (either_fits slots Passed found p b v all (each 0) hold.0, all_passed slots Passed found ps filled values all (λ k. each (suc k)) hold.1)

-- ---- a record of what was seen

abbrev SeenByName : Slots → (List ℕ → Option Data) → List PropertyModel → List ValAtType → List PropertyModel → Type 0
SeenByName slots found properties seens qs =
    AllByRecursion (λ q. FitsProperty (slots_behind slots q.name) q.nullable q.type_of (found q.name) (field_by_name slots.properties properties seens q.name)) qs

seen_shifted : (slots : Slots) (found : List ℕ → Option Data) (p : PropertyModel) (ps : List PropertyModel) (seen : ValAtType) (seens : List ValAtType) (qs : List PropertyModel)
    → AllByRecursion (λ q. q.name ≢ p.name) qs → SeenByName slots found ps seens qs → SeenByName slots found (p ∷ ps) (seen ∷ seens) qs
seen_shifted slots found p ps seen seens [] others each = tt
seen_shifted slots found p ps seen seens (q ∷ qs) others each = (
  subst (FitsProperty (slots_behind slots q.name) q.nullable q.type_of (found q.name)) (sym (behind slots p ps seen seens q.name (other_name p.name q.name others.0))) each.0,
  seen_shifted slots found p ps seen seens qs others.1 each.1,
)

-- what is kept in each slot is alike what was seen of it
abbrev pub Agrees : Slots → Names → List PropertyModel → List ValAtType → List Value → Type 0
Agrees slots Passed ps seens values =
    (name : List ℕ) → ¬ Passed name → FieldsAlike Passed (field_by_name slots.properties ps (map val_of values) name) (field_by_name slots.properties ps seens name)

pub record SeenRecord (slots : Slots) (Passed : Names) (found : List ℕ → Option Data) (ps : List PropertyModel) (values : List Value) : Type 0 where
  pub seens : List ValAtType
  pub each : SeenByName slots found ps seens ps
  pub agrees : Agrees slots Passed ps seens values

agrees_more : (slots : Slots) (Passed : Names) (p : PropertyModel) (ps : List PropertyModel) (seen : ValAtType) (seens : List ValAtType) (v : Value) (values : List Value) → Passed p.name ⊎ SeenAlike slots Passed p.type_of (val_of v) seen
    → Agrees slots Passed ps seens values → Agrees slots Passed (p ∷ ps) (seen ∷ seens) (v ∷ values)
agrees_more slots Passed p ps seen seens v values kept agrees name not = by (pointwise nat_eq p.name name) refl kept
  where
    stored : List ℕ → FieldVal
    stored = field_by_name slots.properties (p ∷ ps) (map val_of (v ∷ values))

    shown : List ℕ → FieldVal
    shown = field_by_name slots.properties (p ∷ ps) (seen ∷ seens)

    between : (f g : FieldVal) (n : List ℕ) → stored n ≡ f → shown n ≡ g → FieldsAlike Passed f g → FieldsAlike Passed (stored n) (shown n)
    between f g n left right alike = subst (λ (x : FieldVal). FieldsAlike Passed x (shown n)) (sym left) (subst (FieldsAlike Passed f) (sym right) alike)

    by : (b : Bool) → pointwise nat_eq p.name name ≡ b → Passed p.name ⊎ SeenAlike slots Passed p.type_of (val_of v) seen → FieldsAlike Passed (stored name) (shown name)
    by false e or =
        between (field_by_name slots.properties ps (map val_of values) name) (field_by_name slots.properties ps seens name) name (behind slots p ps (val_of v) (map val_of values) name e) (behind slots p ps seen seens name e) (agrees name not)
    by true e (inl passed) = absurd (not (subst Passed (same_text p.name name (sym e)) passed))
    by true e (inr alike) =
        subst (λ (n : List ℕ). FieldsAlike Passed (stored n) (shown n)) (same_text p.name name (sym e))
        (between (field_of slots.properties p.type_of (val_of v)) (field_of slots.properties p.type_of seen) p.name (here slots p ps (val_of v) (map val_of values)) (here slots p ps seen seens) alike)

pub seen_record : (slots : Slots) (Passed : Names) (found : List ℕ → Option Data) (ps : List PropertyModel) (values : List Value) → HasDistinctNames ps
    → HoldEach (FitsSlotBut slots Passed found) ps values → SeenRecord slots Passed found ps values
seen_record slots Passed found [] [] distinct hold = record { seens = []; each = tt; agrees = λ name not. both_absent }
seen_record slots Passed found [] (v ∷ values) distinct hold = absurd hold
seen_record slots Passed found (p ∷ ps) [] distinct hold = absurd hold
seen_record slots Passed found (p ∷ ps) (v ∷ values) distinct hold =
    let more = seen_record slots Passed found ps values distinct.1 hold.1 in
    let seen = hold.0.0 in
    record {
      seens = seen ∷ more.seens;
      each = (
        subst (FitsProperty (slots_behind slots p.name) p.nullable p.type_of (found p.name)) (sym (here slots p ps seen more.seens)) hold.0.1,
        seen_shifted slots found p ps seen more.seens ps distinct.0 more.each,
      );
      agrees = agrees_more slots Passed p ps seen more.seens v values hold.0.2 more.agrees;
    }

pub record_seen : (slots : Slots) (Passed : Names) (json : Data) (ps : List PropertyModel) (values : List Value) → IsSome (as_object json)
    → (seen : SeenRecord slots Passed (λ name. get name json) ps values)
    → FitsRecord ps json (field_by_name slots.properties ps seen.seens)
    (λ p. FitsProperty (slots_behind slots p.name) p.nullable p.type_of (get p.name json) (field_by_name slots.properties ps seen.seens p.name))
record_seen slots Passed json ps values is_object seen =
    record { is_object = is_object; each_fits = seen.each; others_absent = others_absent slots ps seen.seens }

-- ---- absent members of a row

-- ---- where each slot was filled
