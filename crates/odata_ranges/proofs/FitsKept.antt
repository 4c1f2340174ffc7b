-- A value that fits, and that the engines can keep, is kept as its type says.
use Rattle.odata_ranges.proofs.Common.{◌≡◌, List, [], ◌∷◌, Bool, true, false, Option, Some, None, refl, sym, subst, AllByRecursion, Val, null, text, fields, items, FieldVal, absent, present, Vals, no_items, item, PrimitiveType, ExprType, single, collection, SingleType, primitive, enumeration, structured, Slots, PropertyModel, PropertyType, declared, opaque, navigation, expanded, slots_of, type_name_at, AreKept, IsKept, IsKeptProperty, IsNullOnlyIf, property_takes_null}
use Rattle.serde_json.specs.Data.{Data, null as json_null, Items, no_items as no_json, item as json_item}
use Rattle.serde_json.specs.Find.{get}
use Rattle.edm_values.specs.declared.primitive.PrimitiveType.TheVariants.{Bool as EdmBoolean, String as EdmString, Date as EdmDate, DateTimeOffset as EdmDateTimeOffset, Guid as EdmGuid}
use Rattle.odata_expansion.specs.ExpansionView.{paths_in}
use Rattle.odata_expansion.specs.PathSet.{PathSet, below}
use Rattle.edm_entities.specs.Fits.{takes_null, FitsFound, FitsNavigation, FitsType, FitsProperty, FitItems}
use Rattle.edm_entities.specs.FitsPrimitive.{FitsPrimitive}
use Rattle.edm_entities.specs.Row.{Row, IsEntity, value_of}
use Rattle.odata_ranges.proofs.KeptPaths.{null_if_true}
use Rattle.odata_ranges.specs.Storable.{AreStorable, IsStorable, IsStorableField}

null_primitive : (type : PrimitiveType) (json : Data) → FitsPrimitive type json null → ⊥
null_primitive EdmBoolean json fits = let e : null ≡ _ = fits.2 in absurd (cc)
null_primitive EdmString json fits = let e : null ≡ _ = fits.2.1 in absurd (cc)
null_primitive EdmDate json fits = let e : null ≡ _ = fits.2.2 in absurd (cc)
null_primitive EdmDateTimeOffset json fits = let e : null ≡ _ = fits.2.2 in absurd (cc)
null_primitive EdmGuid json fits = let e : null ≡ _ = fits.2.2 in absurd (cc)
null_primitive _ json fits = let e : null ≡ _ = fits.3 in absurd (cc)

-- no JSON but null stands for null
null_fits : (slots : Slots) (nullable : Bool) (type : ExprType) (json : Data) → FitsType slots nullable type json null → ⊥
null_fits slots nullable (single (primitive type)) json fits = null_primitive type json fits
null_fits slots nullable (single (enumeration name)) json fits = let e : null ≡ _ = fits.2.3 in absurd (cc)
null_fits slots nullable _ json fits = fits

-- what is said of a value that is null only where it may be
abbrev KeptIf : Slots → ExprType → Bool → Val → Type 0
KeptIf slots type takes v = IsNullOnlyIf takes v × IsKept slots type v

some_kept : (slots held : Slots) (nullable : Bool) (type : ExprType) (takes : Bool) (json : Data) (v : Val) → FitsType held nullable type json v → IsKept slots type v → KeptIf slots type takes v
some_kept slots held nullable type takes json null fits kept = absurd (null_fits held nullable type json fits)
some_kept slots held nullable type takes json _ fits kept = (tt, kept)

found_kept : (slots held : Slots) (nullable : Bool) (type : ExprType) (found : Option Data) (takes : Bool) (v : Val)
    → ((json : Data) → FitsType held nullable type json v → IsKept slots type v) → FitsFound found takes v (λ json. FitsType held nullable type json v) → KeptIf slots type takes v
found_kept slots held nullable type None takes v further fits = subst (KeptIf slots type takes) (sym fits.1) (fits.0, tt)
found_kept slots held nullable type (Some json_null) takes v further fits = subst (KeptIf slots type takes) (sym fits.1) (fits.0, tt)
found_kept slots held nullable type (Some json) takes v further fits = some_kept slots held nullable type takes json v fits (further json fits)

navigation_kept : (slots held : Slots) (type : ExprType) (needed : Bool) (found : Option Data) (takes : Bool) (v : Val)
    → ((json : Data) → FitsType held false type json v → IsKept slots type v) → FitsNavigation needed found takes v (λ json. FitsType held false type json v)
    → KeptIf slots type true v
navigation_kept slots held type true None takes v further fits = absurd fits
navigation_kept slots held type true (Some json) takes v further fits = (null_if_true v, (found_kept slots held false type (Some json) takes v further fits).1)
navigation_kept slots held type false found takes v further fits = subst (KeptIf slots type true) (sym fits) (refl, tt)

each_by : (P Q : PropertyModel → Type 0) → ((p : PropertyModel) → P p → Q p) → (ps : List PropertyModel) → AllByRecursion P ps → AllByRecursion Q ps
each_by P Q by [] each = tt
each_by P Q by (p ∷ ps) each = (by p each.0, each_by P Q by ps each.1)

-- whatever is expanded in the value
mutual
  value_kept : (slots : Slots) (expansion : PathSet) (nullable : Bool) (type : ExprType) (json : Data) (v : Val) → FitsType (expanded slots expansion) nullable type json v → IsStorable v
      → IsKept slots type v
  value_kept slots expansion nullable type json (text s) fits storable = storable.0
  value_kept slots expansion nullable (single (structured name)) json (fields f) fits storable =
      each_by (λ p. FitsProperty (expanded slots (below expansion p.name)) p.nullable p.type_of (get p.name json) (f p.name))
      (λ p. IsKeptProperty slots p.type_of (property_takes_null p.type_of p.nullable) (f p.name))
      (λ p here. held_kept slots (below expansion p.name) p.nullable p.type_of (get p.name json) (f p.name) here (storable p.name)) (slots.properties name) fits.each_fits
  value_kept slots expansion nullable (collection type) json (items values) fits storable =
      (storable.0, items_kept slots expansion nullable type fits.0 values fits.2 storable.1)
  value_kept slots expansion nullable _ json _ fits storable = tt

  held_kept : (slots : Slots) (expansion : PathSet) (nullable : Bool) (type : PropertyType) (found : Option Data) (held : FieldVal) → FitsProperty (expanded slots expansion) nullable type found held
      → IsStorableField held → IsKeptProperty slots type (property_takes_null type nullable) held
  held_kept slots expansion nullable (declared type) found (present v) fits storable =
      found_kept slots (expanded slots expansion) nullable type found (takes_null type nullable) v (λ json here. value_kept slots expansion nullable type json v here storable) fits
  held_kept slots expansion nullable opaque found held fits storable = tt
  held_kept slots expansion nullable (navigation None) found held fits storable = tt
  held_kept slots expansion nullable (navigation (Some type)) found (present v) fits storable =
      navigation_kept slots (expanded slots expansion) type (expansion []) found (takes_null type nullable) v (λ json here. value_kept slots expansion false type json v here storable) fits
  held_kept slots expansion nullable _ found absent fits storable = tt

  items_kept : (slots : Slots) (expansion : PathSet) (nullable : Bool) (type : SingleType) (jsons : Items) (values : Vals) → FitItems (expanded slots expansion) nullable type jsons values
      → AreStorable values → AreKept slots type values
  items_kept slots expansion nullable type jsons no_items fits storable = tt
  items_kept slots expansion nullable type no_json (item v values) fits storable = absurd fits
  items_kept slots expansion nullable type (json_item json jsons) (item v values) fits storable = (
    (found_kept slots (expanded slots expansion) nullable (single type) (Some json) nullable v (λ found here. value_kept slots expansion nullable (single type) found v here storable.0) fits.0).1,
    items_kept slots expansion nullable type jsons values fits.1 storable.1,
  )

pub entity_kept : (row : Row) → IsEntity row → IsStorable (value_of row) → IsKept (slots_of row.schema) (single (structured (type_name_at row.schema row.type_id))) (value_of row)
entity_kept row entity storable =
    value_kept (slots_of row.schema) (paths_in row.expansion) false (single (structured (type_name_at row.schema row.type_id))) entity.conforms.0 (value_of row) entity.conforms.1 storable
