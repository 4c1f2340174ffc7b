-- Where no name is passed over, what is alike to a value that fits JSON fits it too.
use Rattle.std.proofs.Common.{◌≡◌, ℕ, List, [], ◌∷◌, Bool, true, false, Option, None, Some, refl}
use Rattle.std.specs.List.{AllByRecursion}
use Rattle.serde_json.specs.Data.{Data, Items, array, boolean, item as json_item, no_items as no_json, null as json_null, number, object, string}
use Rattle.edm_values.specs.Val.{FieldVal, Val, Vals, absent, fields, items, null}
use Rattle.edm_values.specs.declared.primitive.PrimitiveType.{PrimitiveType}
use Rattle.edm_values.specs.declared.primitive.PrimitiveType.TheVariants as prim
use Rattle.csdl_schema.specs.ExprType.{ExprType, SingleType, collection, enumeration, null_type, primitive, single, structured}
use Rattle.csdl_schema.specs.SchemaModel.{PropertyModel, PropertyType, Slots, declared, navigation, opaque}
use Rattle.edm_entities.specs.Fits.{FitItems, FitsFound, FitsNavigation, FitsProperty, FitsType, takes_null}
use Rattle.edm_entities.specs.FitsPrimitive.{FitsPrimitive}
use Rattle.edm_rows.specs.Alike.{AllAlike, AreAlike, FieldsAlike, Names, alike_lists, alike_records, alike_same, both_absent, both_present, no_members, one_member}

each_so : (P Q : PropertyModel → Type 0) (ps : List PropertyModel) → ((p : PropertyModel) → P p → Q p) → AllByRecursion P ps → AllByRecursion Q ps
each_so P Q [] by all = tt
each_so P Q (p ∷ ps) by all = (by p all.0, each_so P Q ps by all.1)

found_so : (P Q : Data → Type 0) (found : Option Data) (takes : Bool) (v w : Val) → (w ≡ null → v ≡ null) → ((json : Data) → P json → Q json) → FitsFound found takes w P → FitsFound found takes v Q
found_so P Q None takes v w same by fits = (fits.0, same fits.1)
found_so P Q (Some json_null) takes v w same by fits = (fits.0, same fits.1)
found_so P Q (Some (boolean b)) takes v w same by fits = by (boolean b) fits
found_so P Q (Some (number n)) takes v w same by fits = by (number n) fits
found_so P Q (Some (string s)) takes v w same by fits = by (string s) fits
found_so P Q (Some (array ds)) takes v w same by fits = by (array ds) fits
found_so P Q (Some (object ms)) takes v w same by fits = by (object ms) fits

navigation_so : (P Q : Data → Type 0) (needed : Bool) (found : Option Data) (takes : Bool) (v w : Val) → (w ≡ null → v ≡ null) → ((json : Data) → P json → Q json) → FitsNavigation needed found takes w P → FitsNavigation needed found takes v Q
navigation_so P Q true None takes v w same by fits = absurd fits
navigation_so P Q true (Some json) takes v w same by fits = found_so P Q (Some json) takes v w same by fits
navigation_so P Q false found takes v w same by fits = same fits

-- a value without parts is no record and no list
no_record : (type : PrimitiveType) (json : Data) (g : List ℕ → FieldVal) → FitsPrimitive type json (fields g) → ⊥
no_record prim.Bool json g (b, is, same) = cc
no_record prim.Byte json g (n, is, of, same) = cc
no_record prim.SByte json g (n, is, of, same) = cc
no_record prim.Int16 json g (n, is, of, same) = cc
no_record prim.Int32 json g (n, is, of, same) = cc
no_record prim.Int64 json g (n, is, of, same) = cc
no_record prim.String json g (s, is, (utf8, same)) = cc
no_record prim.Date json g (s, is, (d, of, same)) = cc
no_record prim.DateTimeOffset json g (s, is, (m, of, same)) = cc
no_record prim.Guid json g (s, is, (i, of, same)) = cc

no_list : (type : PrimitiveType) (json : Data) (ws : Vals) → FitsPrimitive type json (items ws) → ⊥
no_list prim.Bool json ws (b, is, same) = cc
no_list prim.Byte json ws (n, is, of, same) = cc
no_list prim.SByte json ws (n, is, of, same) = cc
no_list prim.Int16 json ws (n, is, of, same) = cc
no_list prim.Int32 json ws (n, is, of, same) = cc
no_list prim.Int64 json ws (n, is, of, same) = cc
no_list prim.String json ws (s, is, (utf8, same)) = cc
no_list prim.Date json ws (s, is, (d, of, same)) = cc
no_list prim.DateTimeOffset json ws (s, is, (m, of, same)) = cc
no_list prim.Guid json ws (s, is, (i, of, same)) = cc

module _ (Passed : Names) (none : (name : List ℕ) → ¬ Passed name) where
  null_alike : (v w : Val) → AreAlike Passed v w → w ≡ null → v ≡ null
  null_alike v w (alike_same u) is = is
  null_alike v w (alike_records f g each) is = absurd (cc)
  null_alike v w (alike_lists vs ws all) is = absurd (cc)

  absent_alike : (f g : FieldVal) → FieldsAlike Passed f g → g ≡ absent → f ≡ absent
  absent_alike f g both_absent is = refl
  absent_alike f g (both_present v w alike) is = absurd (cc)

  mutual
    pub fits_alike : (slots : Slots) (nullable : Bool) (type : ExprType) (json : Data) (v w : Val) → AreAlike Passed v w → FitsType slots nullable type json w → FitsType slots nullable type json v
    fits_alike slots nullable type json v w (alike_same u) fits = fits
    fits_alike slots nullable (single (primitive type)) json v w (alike_records f g each) fits = absurd (no_record type json g fits)
    fits_alike slots nullable (single (enumeration name)) json v w (alike_records f g each) (s, is, (n, of, underlying, same)) = absurd (cc)
    fits_alike slots nullable (single (structured name)) json v w (alike_records f g each) fits = record {
      is_object = fits.is_object;
      each_fits = each_so _ _ (slots.properties name) (λ p fit. property_alike _ p.nullable p.type_of _ (f p.name) (g p.name) (each p.name (none p.name)) fit) fits.each_fits;
      others_absent = λ name others. absent_alike (f name) (g name) (each name (none name)) (fits.others_absent name others);
    }
    fits_alike slots nullable (collection type) json v w (alike_records f g each) fits = absurd fits
    fits_alike slots nullable null_type json v w (alike_records f g each) fits = absurd fits
    fits_alike slots nullable (single (primitive type)) json v w (alike_lists vs ws all) fits = absurd (no_list type json ws fits)
    fits_alike slots nullable (single (enumeration name)) json v w (alike_lists vs ws all) (s, is, (n, of, underlying, same)) = absurd (cc)
    fits_alike slots nullable (single (structured name)) json v w (alike_lists vs ws all) fits = absurd fits
    fits_alike slots nullable (collection type) json v w (alike_lists vs ws all) fits = (fits.0, fits.1, items_alike slots nullable type fits.0 vs ws all fits.2)
    fits_alike slots nullable null_type json v w (alike_lists vs ws all) fits = absurd fits

    property_alike : (slots : Slots) (nullable : Bool) (type : PropertyType) (found : Option Data) (f g : FieldVal) → FieldsAlike Passed f g → FitsProperty slots nullable type found g → FitsProperty slots nullable type found f
    property_alike slots nullable type found f g both_absent fits = fits
    property_alike slots nullable (declared type) found f g (both_present v w alike) fits =
        found_so (λ json. FitsType slots nullable type json w) (λ json. FitsType slots nullable type json v) found (takes_null type nullable) v w (null_alike v w alike) (λ json. fits_alike slots nullable type json v w alike) fits
    property_alike slots nullable opaque found f g (both_present v w alike) fits = absurd fits
    property_alike slots nullable (navigation None) found f g (both_present v w alike) fits = absurd fits
    property_alike slots nullable (navigation (Some type)) found f g (both_present v w alike) fits =
        navigation_so (λ json. FitsType slots false type json w) (λ json. FitsType slots false type json v) (slots.needed []) found (takes_null type nullable) v w (null_alike v w alike) (λ json. fits_alike slots false type json v w alike) fits

    items_alike : (slots : Slots) (nullable : Bool) (type : SingleType) (jsons : Items) (vs ws : Vals) → AllAlike Passed vs ws → FitItems slots nullable type jsons ws → FitItems slots nullable type jsons vs
    items_alike slots nullable type jsons vs ws no_members fits = fits
    items_alike slots nullable type no_json vs ws (one_member v w others more alike all) fits = absurd fits
    items_alike slots nullable type (json_item json jsons) vs ws (one_member v w others more alike all) fits = (
      found_so (λ found. FitsType slots nullable (single type) found w) (λ found. FitsType slots nullable (single type) found v) (Some json) nullable v w (null_alike v w alike) (λ found. fits_alike slots nullable (single type) found v w alike) fits.0,
      items_alike slots nullable type jsons others more all fits.1,
    )
