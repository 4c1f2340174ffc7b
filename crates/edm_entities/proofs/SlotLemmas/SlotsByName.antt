-- Values by slot as a record by names: where the names are distinct, values that fit make a record that fits.
use Rattle.std.proofs.Common.{◌≡◌, ◌≢◌, ℕ, suc, List, [], ◌∷◌, Bool, true, false, Option, map, length, IsSome, nat_eq, refl, sym, ap, ◌∙◌, subst}
use Rattle.std.proofs.lemmas.Cmp.{nat_list_eq_equiv}
use Rattle.std.specs.Cmp.Lexicographic.{pointwise, same_text}
use Rattle.std.specs.List.{AllByRecursion}
use Rattle.serde_json.specs.Data.{Data}
use Rattle.serde_json.specs.Find.{get, as_object}
use Rattle.edm_values.specs.Val.{absent}
use Rattle.edm_values.specs.declared.value.Value.{Value}
use Rattle.csdl_schema.specs.SchemaModel.{Slots, PropertyModel, HasDistinctNames, slots_behind}
use Rattle.edm_entities.specs.Fits.{FitsProperty, FitsRecord}
use Rattle.edm_entities.specs.Row.{ValAtType, field_of, field_by_name, val_of}
use Rattle.edm_entities.specs.private.Walk.{HoldEach, FitsSlot, FitSlots}

-- a property is found under its own name
pub here : (slots : Slots) (p : PropertyModel) (ps : List PropertyModel) (seen : ValAtType) (more : List ValAtType)
    → field_by_name slots.properties (p ∷ ps) (seen ∷ more) p.name ≡ field_of slots.properties p.type_of seen
here slots p ps seen more = rw (nat_list_eq_equiv.refl p.name)

-- and after a property of another name
pub behind : (slots : Slots) (p : PropertyModel) (ps : List PropertyModel) (seen : ValAtType) (more : List ValAtType) (name : List ℕ) → pointwise nat_eq p.name name ≡ false
    → field_by_name slots.properties (p ∷ ps) (seen ∷ more) name ≡ field_by_name slots.properties ps more name
behind slots p ps seen more name other = rw other

-- another name compares as another
pub other_name : (a b : List ℕ) → b ≢ a → pointwise nat_eq a b ≡ false
other_name a b other = by (pointwise nat_eq a b) refl
  where
    by : (t : Bool) → t ≡ pointwise nat_eq a b → t ≡ false
    by true e = absurd (other (sym (same_text a b e)))
    by false e = refl

-- what holds of each slot by its value holds of it by its name
abbrev HoldsByName : Slots → (List ℕ → Option Data) → List PropertyModel → List Value → List PropertyModel → Type 0
HoldsByName slots found properties values qs =
    AllByRecursion (λ q. FitsProperty (slots_behind slots q.name) q.nullable q.type_of (found q.name) (field_by_name slots.properties properties (map val_of values) q.name)) qs

-- what fits the slots after fits with one more slot before them, of another name
fits_shifted : (slots : Slots) (found : List ℕ → Option Data) (p : PropertyModel) (ps : List PropertyModel) (v : Value) (values : List Value) (qs : List PropertyModel)
    → AllByRecursion (λ q. q.name ≢ p.name) qs → HoldsByName slots found ps values qs → HoldsByName slots found (p ∷ ps) (v ∷ values) qs
fits_shifted slots found p ps v values [] others each = tt
fits_shifted slots found p ps v values (q ∷ qs) others each = (
  subst (FitsProperty (slots_behind slots q.name) q.nullable q.type_of (found q.name)) (sym (behind slots p ps (val_of v) (map val_of values) q.name (other_name p.name q.name others.0))) each.0,
  fits_shifted slots found p ps v values qs others.1 each.1,
)

each_fits : (slots : Slots) (found : List ℕ → Option Data) (properties : List PropertyModel) (values : List Value) → HasDistinctNames properties
    → HoldEach (FitsSlot slots found) properties values → HoldsByName slots found properties values properties
each_fits slots found [] values distinct fits = tt
each_fits slots found (p ∷ ps) [] distinct fits = absurd fits
each_fits slots found (p ∷ ps) (v ∷ values) distinct fits = (
  subst (FitsProperty (slots_behind slots p.name) p.nullable p.type_of (found p.name)) (sym (here slots p ps (val_of v) (map val_of values))) fits.0.0,
  fits_shifted slots found p ps v values ps distinct.0 (each_fits slots found ps values distinct.1 fits.1),
)

pub others_absent : (slots : Slots) (properties : List PropertyModel) (seens : List ValAtType) (name : List ℕ) → AllByRecursion (λ p. p.name ≢ name) properties
    → field_by_name slots.properties properties seens name ≡ absent
others_absent slots [] seens name others = refl
others_absent slots (p ∷ ps) [] name others = refl
others_absent slots (p ∷ ps) (seen ∷ more) name others = by (pointwise nat_eq p.name name) refl (others_absent slots ps more name others.1)
  where
    by : (b : Bool) → b ≡ pointwise nat_eq p.name name → field_by_name slots.properties ps more name ≡ absent → field_by_name slots.properties (p ∷ ps) (seen ∷ more) name ≡ absent
    by true e rest = absurd (others.0 (same_text p.name name e))
    by false e rest = behind slots p ps seen more name (sym e) ∙ rest

pub record_fits : (slots : Slots) (json : Data) (properties : List PropertyModel) (values : List Value) → HasDistinctNames properties → IsSome (as_object json)
    → FitSlots slots json properties values
    → FitsRecord properties json (field_by_name slots.properties properties (map val_of values))
    (λ p. FitsProperty (slots_behind slots p.name) p.nullable p.type_of (get p.name json) (field_by_name slots.properties properties (map val_of values) p.name))
record_fits slots json properties values distinct is_object fits =
    record {
      is_object = is_object;
      each_fits = each_fits slots (λ name. get name json) properties values distinct fits;
      others_absent = others_absent slots properties (map val_of values);
    }

-- as many values as slots
pub as_many : (Q : PropertyModel → Value → Type 0) (properties : List PropertyModel) (values : List Value) → HoldEach Q properties values → length values ≡ length properties
as_many Q [] [] fits = refl
as_many Q [] (v ∷ values) fits = absurd fits
as_many Q (p ∷ ps) [] fits = absurd fits
as_many Q (p ∷ ps) (v ∷ values) fits = ap (λ n. suc n) (as_many Q ps values fits.1)
