-- A JSON tree stands for one value at most.
use Rattle.std.proofs.Common.{◌≡◌, ◌≢◌, ℕ, ℤ, List, [], ◌∷◌, Bool, true, false, Option, Some, None, ◌⊎◌, inl, inr, refl, sym, ap, ◌∙◌, subst, nat_eq}
use mathlib.Core.Path.{fun_ext}
use Rattle.std.specs.List.{AllByRecursion}
use Rattle.std.specs.Cmp.Lexicographic.{pointwise, same_text, other_text}
use Rattle.serde_json.specs.Data.{Data, null as json_null, boolean as json_boolean, number, string, array, object, Items, no_items as no_json, item as json_item}
use Rattle.serde_json.specs.Find.{get}
use Rattle.edm_values.specs.Civil as civil
use Rattle.edm_values.specs.DateLiteral.{DateValue}
use Rattle.edm_values.specs.GuidLiteral.{GuidValue}
use Rattle.edm_values.specs.MomentLiteral.{MomentValue}
use Rattle.edm_values.specs.MomentParts.{MomentParts}
use Rattle.edm_values.specs.Val.{Val, date, moment, guid, member, fields, items, FieldVal, absent, present, Vals, no_items, item}
use Rattle.edm_values.specs.declared.primitive.PrimitiveType.{PrimitiveType}
use Rattle.edm_values.specs.declared.primitive.PrimitiveType.TheVariants.{Bool as EdmBoolean, Byte, SByte, Int16, Int32, Int64, String as EdmString, Date as EdmDate, DateTimeOffset as EdmDateTimeOffset, Guid as EdmGuid}
use Rattle.edm_enumerations.specs.EnumerationModel.{EnumerationModel}
use Rattle.edm_enumerations.specs.EnumerationValue.{EnumerationValue}
use Rattle.csdl_schema.specs.ExprType.{ExprType, null_type, single, collection, SingleType, primitive, enumeration, structured}
use Rattle.csdl_schema.specs.SchemaModel.{Slots, PropertyModel, PropertyType, declared, opaque, navigation, slots_behind}
use Rattle.edm_entities.specs.Fits.{takes_null, FitsFound, FitsNavigation, FitsRecord, FitsType, FitsProperty, FitItems, Fits}
use Rattle.edm_entities.specs.FitsPrimitive.{FitsBoolean, FitsNumber, FitsText, FitsPrimitive, TextMeaning, IsTextValue, IsMemberText}

-- what the laws of literals say: a text has one value of each kind
pub record TextsOnce : Type 0 where
  pub date : (s : List ℕ) (a b : civil.Date) → DateValue s a → DateValue s b → a ≡ b
  pub moment : (s : List ℕ) (a b : MomentParts) → MomentValue s a → MomentValue s b → a ≡ b
  pub guid : (s a b : List ℕ) → GuidValue s a → GuidValue s b → a ≡ b
  pub member : (e : EnumerationModel) (s : List ℕ) (m n : ℤ) → EnumerationValue e s m → EnumerationValue e s n → m ≡ n

same_boolean : (json : Data) (v w : Val) → FitsBoolean json v → FitsBoolean json w → v ≡ w
same_boolean json v w a b = cc

same_number : (type : PrimitiveType) (json : Data) (v w : Val) → FitsNumber type json v → FitsNumber type json w → v ≡ w
same_number type json v w a b = cc

same_in_text : (IsText : TextMeaning) → ((s : List ℕ) (v w : Val) → IsText s v → IsText s w → v ≡ w) → (json : Data) (v w : Val)
    → FitsText IsText json v → FitsText IsText json w → v ≡ w
same_in_text IsText once json v w a b =
    let same : a.0 ≡ b.0 = cc in
    once b.0 v w (subst (λ (s : List ℕ). IsText s v) same a.2) b.2

found_once : (found : Option Data) (takes : Bool) (v w : Val) (P Q : Data → Type 0) → ((json : Data) → P json → Q json → v ≡ w)
    → FitsFound found takes v P → FitsFound found takes w Q → v ≡ w
found_once None takes v w P Q once a b = a.1 ∙ sym b.1
found_once (Some json_null) takes v w P Q once a b = a.1 ∙ sym b.1
found_once (Some (json_boolean x)) takes v w P Q once a b = once (json_boolean x) a b
found_once (Some (number n)) takes v w P Q once a b = once (number n) a b
found_once (Some (string s)) takes v w P Q once a b = once (string s) a b
found_once (Some (array ds)) takes v w P Q once a b = once (array ds) a b
found_once (Some (object ms)) takes v w P Q once a b = once (object ms) a b

navigation_once : (needed : Bool) (found : Option Data) (takes : Bool) (v w : Val) (P Q : Data → Type 0) → ((json : Data) → P json → Q json → v ≡ w)
    → FitsNavigation needed found takes v P → FitsNavigation needed found takes w Q → v ≡ w
navigation_once true None takes v w P Q once a b = absurd a
navigation_once true (Some json) takes v w P Q once a b = found_once (Some json) takes v w P Q once a b
navigation_once false found takes v w P Q once a b = a ∙ sym b

module _ (f g : List ℕ → FieldVal) (P Q : PropertyModel → Type 0) (once : (p : PropertyModel) → P p → Q p → f p.name ≡ g p.name) where
  -- two records that fit agree at a name, or no property has it
  agree_or_none : (properties : List PropertyModel) (name : List ℕ) → AllByRecursion P properties → AllByRecursion Q properties
      → (f name ≡ g name) ⊎ AllByRecursion (λ p. p.name ≢ name) properties
  agree_or_none [] name a b = inr tt
  agree_or_none (p ∷ ps) name a b = by (pointwise nat_eq p.name name) refl (agree_or_none ps name a.1 b.1)
    where
      here : f p.name ≡ g p.name
      here = once p a.0 b.0

      by : (t : Bool) → t ≡ pointwise nat_eq p.name name → (f name ≡ g name) ⊎ AllByRecursion (λ q. q.name ≢ name) ps
          → (f name ≡ g name) ⊎ AllByRecursion (λ q. q.name ≢ name) (p ∷ ps)
      by true e rest = inl (let s : p.name ≡ name = same_text p.name name e in rw (← s) here)
      by false e (inl same) = inl same
      by false e (inr others) = inr (other_text p.name name e, others)

  same_record : (properties : List PropertyModel) (json : Data) → FitsRecord properties json f P → FitsRecord properties json g Q → (name : List ℕ) → f name ≡ g name
  same_record properties json a b name = by (agree_or_none properties name a.each_fits b.each_fits)
    where
      by : (f name ≡ g name) ⊎ AllByRecursion (λ p. p.name ≢ name) properties → f name ≡ g name
      by (inl same) = same
      by (inr none) = a.others_absent name none ∙ sym (b.others_absent name none)

module _ (texts : TextsOnce) where
  same_text_value : (type : PrimitiveType) (s : List ℕ) (v w : Val) → IsTextValue type s v → IsTextValue type s w → v ≡ w
  same_text_value EdmString s v w a b = a.1 ∙ sym b.1
  same_text_value EdmDate s v w a b = a.2 ∙ (ap date (texts.date s a.0 b.0 a.1 b.1) ∙ sym b.2)
  same_text_value EdmDateTimeOffset s v w a b = a.2 ∙ (ap moment (texts.moment s a.0 b.0 a.1 b.1) ∙ sym b.2)
  same_text_value EdmGuid s v w a b = a.2 ∙ (ap guid (texts.guid s a.0 b.0 a.1 b.1) ∙ sym b.2)
  same_text_value EdmBoolean s v w a b = absurd a
  same_text_value Byte s v w a b = absurd a
  same_text_value SByte s v w a b = absurd a
  same_text_value Int16 s v w a b = absurd a
  same_text_value Int32 s v w a b = absurd a
  same_text_value Int64 s v w a b = absurd a

  same_member : (e : Option EnumerationModel) (s : List ℕ) (v w : Val) → IsMemberText e s v → IsMemberText e s w → v ≡ w
  same_member None s v w a b = absurd a.1
  same_member (Some e) s v w a b = a.3 ∙ (ap member (texts.member e s a.0 b.0 a.1 b.1) ∙ sym b.3)

  same_primitive : (type : PrimitiveType) (json : Data) (v w : Val) → FitsPrimitive type json v → FitsPrimitive type json w → v ≡ w
  same_primitive EdmBoolean json v w a b = same_boolean json v w a b
  same_primitive Byte json v w a b = same_number Byte json v w a b
  same_primitive SByte json v w a b = same_number SByte json v w a b
  same_primitive Int16 json v w a b = same_number Int16 json v w a b
  same_primitive Int32 json v w a b = same_number Int32 json v w a b
  same_primitive Int64 json v w a b = same_number Int64 json v w a b
  same_primitive EdmString json v w a b = same_in_text (IsTextValue EdmString) (same_text_value EdmString) json v w a b
  same_primitive EdmDate json v w a b = same_in_text (IsTextValue EdmDate) (same_text_value EdmDate) json v w a b
  same_primitive EdmDateTimeOffset json v w a b = same_in_text (IsTextValue EdmDateTimeOffset) (same_text_value EdmDateTimeOffset) json v w a b
  same_primitive EdmGuid json v w a b = same_in_text (IsTextValue EdmGuid) (same_text_value EdmGuid) json v w a b

  mutual
    same_value : (slots : Slots) (nullable : Bool) (type : ExprType) (json : Data) (v w : Val) → FitsType slots nullable type json v → FitsType slots nullable type json w → v ≡ w
    same_value slots nullable (single (primitive type)) json v w a b = same_primitive type json v w a b
    same_value slots nullable (single (enumeration name)) json v w a b =
        same_in_text (IsMemberText (slots.enumerations name)) (same_member (slots.enumerations name)) json v w a b
    same_value slots nullable (single (structured name)) json (fields f) (fields g) a b =
        ap fields (fun_ext (same_record f g (λ p. FitsProperty (slots_behind slots p.name) p.nullable p.type_of (get p.name json) (f p.name))
        (λ p. FitsProperty (slots_behind slots p.name) p.nullable p.type_of (get p.name json) (g p.name))
        (λ p one other. same_held (slots_behind slots p.name) p.nullable p.type_of (get p.name json) (f p.name) (g p.name) one other) (slots.properties name) json a b))
    same_value slots nullable (single (structured name)) json (fields f) _ a b = absurd b
    same_value slots nullable (single (structured name)) json _ w a b = absurd a
    same_value slots nullable (collection type) json (items values) (items others) a b =
        let same : a.0 ≡ b.0 = cc in
        ap items (same_items slots nullable type b.0 values others (subst (λ (ds : Items). FitItems slots nullable type ds values) same a.2) b.2)
    same_value slots nullable (collection type) json (items values) _ a b = absurd b
    same_value slots nullable (collection type) json _ w a b = absurd a
    same_value slots nullable null_type json v w a b = absurd a

    -- what a record has under a property's name is determined by the object
    same_held : (slots : Slots) (nullable : Bool) (type : PropertyType) (found : Option Data) (h k : FieldVal) → FitsProperty slots nullable type found h → FitsProperty slots nullable type found k → h ≡ k
    same_held slots nullable (declared type) found (present v) (present w) a b =
        ap present (found_once found _ v w _ _ (λ json one other. same_value slots nullable type json v w one other) a b)
    same_held slots nullable (declared type) found (present v) absent a b = absurd b
    same_held slots nullable (declared type) found absent k a b = absurd a
    same_held slots nullable opaque found absent absent a b = refl
    same_held slots nullable opaque found absent (present w) a b = absurd b
    same_held slots nullable opaque found (present v) k a b = absurd a
    same_held slots nullable (navigation None) found absent absent a b = refl
    same_held slots nullable (navigation None) found absent (present w) a b = absurd b
    same_held slots nullable (navigation None) found (present v) k a b = absurd a
    same_held slots nullable (navigation (Some type)) found absent k a b = absurd a
    same_held slots nullable (navigation (Some type)) found (present v) absent a b = absurd b
    same_held slots nullable (navigation (Some type)) found (present v) (present w) a b =
        ap present (navigation_once (slots.needed []) found (takes_null type nullable) v w (λ json. FitsType slots false type json v) (λ json. FitsType slots false type json w)
        (λ json one other. same_value slots false type json v w one other) a b)

    same_items : (slots : Slots) (nullable : Bool) (type : SingleType) (jsons : Items) (values others : Vals)
        → FitItems slots nullable type jsons values → FitItems slots nullable type jsons others → values ≡ others
    same_items slots nullable type no_json no_items no_items a b = refl
    same_items slots nullable type no_json no_items (item w others) a b = absurd b
    same_items slots nullable type no_json (item v values) others a b = absurd a
    same_items slots nullable type (json_item json jsons) no_items others a b = absurd a
    same_items slots nullable type (json_item json jsons) (item v values) no_items a b = absurd b
    same_items slots nullable type (json_item json jsons) (item v values) (item w others) a b =
        let here : v ≡ w = found_once (Some json) nullable v w _ _ (λ found one other. same_value slots nullable (single type) found v w one other) a.0 b.0 in
        let further : values ≡ others = same_items slots nullable type jsons values others a.1 b.1 in
        cc

  pub fits_once : (slots : Slots) (type_name : List ℕ) (json : Data) (v w : Val) → Fits slots type_name json v → Fits slots type_name json w → v ≡ w
  fits_once slots type_name json v w a b = same_value slots false (single (structured type_name)) json v w a b
