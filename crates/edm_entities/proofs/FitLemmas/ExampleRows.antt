-- The example rows: one stands for its value, the other for none.
use Rattle.std.proofs.Common.{◌≡◌, ◌≢◌, ℕ, pos, List, Bool, true, false, None, codes, nat_eq, refl, rules, sym, subst, arith}
use Rattle.std.proofs.lemmas.Int.{ints}
use Rattle.std.specs.Prelude.{FitsSigned}
use Rattle.std.specs.Int.{w32}
use Rattle.std.specs.Cmp.Lexicographic.{pointwise, same_text}
use Rattle.std.specs.List.{AllByRecursion}
use Rattle.std.specs.Str.{IsUtf8}
use Rattle.serde_json.specs.Data.{Data}
use Rattle.serde_json.specs.Find.{get}
use Rattle.edm_values.specs.Val.{Val, fields, FieldVal, absent, present}
use Rattle.edm_values.specs.declared.primitive.PrimitiveType.TheVariants.{Bool as EdmBoolean}
use Rattle.csdl_schema.specs.ExprType.{single, primitive}
use Rattle.csdl_schema.specs.SchemaModel.{Slots, PropertyModel, declared, slots_behind}
use Rattle.edm_entities.specs.Example.{item_properties, item_row, inactive_row, item_field}
use Rattle.edm_entities.specs.Fits.{Fits, FitsProperty, FitsRecord}

apart : (a b : List ℕ) → a ≢ b → pointwise nat_eq a b ≡ false
apart a b other = by (pointwise nat_eq a b) refl
  where
    by : (t : Bool) → t ≡ pointwise nat_eq a b → t ≡ false
    by true e = absurd (other (same_text a b e))
    by false e = refl

one_in_range : FitsSigned w32 (pos 1)
one_in_range = omega (arith, ints)

letter : IsUtf8 (codes "a")
letter = search rules

others : (name : List ℕ) → AllByRecursion (λ p. p.name ≢ name) item_properties → item_field name ≡ absent
others name all = rw (apart (codes "Active") name all.0, apart (codes "ID") name all.1.0, apart (codes "Name") name all.1.1.0)

-- what a record of that type holds under a property's name
abbrev Holds : Slots → Data → (List ℕ → FieldVal) → PropertyModel → Type 0
Holds slots json f p = FitsProperty (slots_behind slots p.name) p.nullable p.type_of (get p.name json) (f p.name)

record_fits : (slots : Slots) → FitsRecord item_properties item_row item_field (Holds slots item_row item_field)
record_fits slots =
    record {
      is_object = refl;
      each_fits = ((true, refl, refl), ((pos 1, refl, one_in_range, refl), ((codes "a", refl, (letter, refl)), tt)));
      others_absent = others;
    }

pub item_row_fits : (slots : Slots) (type_name : List ℕ) → slots.properties type_name ≡ item_properties → Fits slots type_name item_row (fields item_field)
item_row_fits slots type_name is = subst (λ ps. FitsRecord ps item_row item_field (Holds slots item_row item_field)) (sym is) (record_fits slots)

-- an absent Boolean that may not be null
no_boolean : (slots : Slots) (held : FieldVal) → ¬ (FitsProperty slots false (declared (single (primitive EdmBoolean))) None held)
no_boolean slots (present v) fits = cc
no_boolean slots absent fits = fits

pub inactive_row_fits_nothing : (slots : Slots) (type_name : List ℕ) → slots.properties type_name ≡ item_properties → (v : Val) → ¬ (Fits slots type_name inactive_row v)
inactive_row_fits_nothing slots type_name is (fields f) fits =
    let each : FitsRecord item_properties inactive_row f (Holds slots inactive_row f) = subst (λ ps. FitsRecord ps inactive_row f (Holds slots inactive_row f)) is fits in
    no_boolean (slots_behind slots (codes "Active")) (f (codes "Active")) each.each_fits.0
inactive_row_fits_nothing slots type_name is _ fits = fits
