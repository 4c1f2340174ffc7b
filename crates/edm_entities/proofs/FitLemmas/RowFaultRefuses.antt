-- A JSON tree with a fault stands for no value.
use Rattle.std.proofs.Common.{◌≡◌, ℕ, zero, suc, List, [], ◌∷◌, ◌++◌, Bool, false, Option, Some, None, IsSome, refl, subst}
use Rattle.std.specs.List.{AllByRecursion}
use Rattle.serde_json.specs.Data.{Data, null as json_null, boolean as json_boolean, number, string, array, object, Items, no_items as no_json, item as json_item}
use Rattle.serde_json.specs.Find.{get, get_item, as_object, as_array}
use Rattle.edm_values.specs.NumberTypes.{IsNumberOf}
use Rattle.edm_values.specs.Val.{Val, fields, items, FieldVal, absent, present, Vals, no_items, item}
use Rattle.edm_values.specs.declared.primitive.PrimitiveType.{PrimitiveType}
use Rattle.edm_values.specs.declared.primitive.PrimitiveType.TheVariants.{Bool as EdmBoolean, Byte, SByte, Int16, Int32, Int64, String as EdmString, Date as EdmDate, DateTimeOffset as EdmDateTimeOffset, Guid as EdmGuid}
use Rattle.csdl_schema.specs.ExprType.{ExprType, null_type, single, collection, SingleType, primitive, enumeration, structured}
use Rattle.csdl_schema.specs.SchemaModel.{Slots, PropertyModel, PropertyType, declared, opaque, navigation, slots_behind}
use Rattle.edm_entities.specs.Fits.{takes_null, FitsFound, FitsNavigation, FitsRecord, FitsType, FitsProperty, FitItems, Fits}
use Rattle.edm_entities.specs.FitsPrimitive.{Flaw, missing, wrong_kind, null_not_allowed, out_of_range, bad_text, not_expanded, FitsNumber, FitsPrimitive, FitsText, TextMeaning, IsTextValue, IsMemberText, OnWrongKind, IsNumberFlaw, IsTextFlaw, IsPrimitiveFlaw}
use Rattle.edm_entities.specs.RowFaults.{Path, IsFlawHere, IsFoundFault, HasFittingItem, IsFirstProperty, IsValueFault, IsFirstFault, IsFirstFaultAt, IsRowFault}
use Rattle.edm_entities.specs.private.Walk.{IsPropertyFault}
use Rattle.edm_entities.specs.declared.row_fault.RowFault.{RowFault}
use Rattle.edm_entities.specs.declared.row_fault.RowFault.TheVariants.{NotObject, Missing, WrongKind, NullNotAllowed, OutOfRange, BadText, NotExpanded, Memory}

-- JSON of the expected kind has no flaw of kind
pub kind_clash : {X : Type 0} (found : Option X) (flaw : Flaw) → IsSome found → ¬ (OnWrongKind flaw (found ≡ None))
kind_clash (Some x) wrong_kind some other = cc
kind_clash None wrong_kind some other = cc
kind_clash found _ some other = other

boolean_clash : (json : Data) (v : Val) (flaw : Flaw) → FitsPrimitive EdmBoolean json v → ¬ (IsPrimitiveFlaw EdmBoolean json flaw)
boolean_clash json v wrong_kind fits other = cc
boolean_clash json v _ fits other = other

number_clash : (type : PrimitiveType) (json : Data) (v : Val) (flaw : Flaw) → FitsNumber type json v → ¬ (IsNumberFlaw type json flaw)
number_clash type json v wrong_kind fits other = cc
number_clash type json v out_of_range fits other =
    let same : fits.0 ≡ other.0 = cc in other.2 (subst (IsNumberOf type) same fits.2)
number_clash type json v missing fits other = other
number_clash type json v null_not_allowed fits other = other
number_clash type json v bad_text fits other = other
number_clash type json v not_expanded fits other = other

text_clash : (IsText : TextMeaning) (json : Data) (v : Val) (flaw : Flaw) → FitsText IsText json v → ¬ (IsTextFlaw IsText json flaw)
text_clash IsText json v wrong_kind fits other = cc
text_clash IsText json v bad_text fits other =
    let same : fits.0 ≡ other.0 = cc in other.2 v (subst (λ (s : List ℕ). IsText s v) same fits.2)
text_clash IsText json v missing fits other = other
text_clash IsText json v null_not_allowed fits other = other
text_clash IsText json v out_of_range fits other = other
text_clash IsText json v not_expanded fits other = other

primitive_clash : (type : PrimitiveType) (json : Data) (v : Val) (flaw : Flaw) → FitsPrimitive type json v → ¬ (IsPrimitiveFlaw type json flaw)
primitive_clash EdmBoolean json v flaw fits other = boolean_clash json v flaw fits other
primitive_clash Byte json v flaw fits other = number_clash Byte json v flaw fits other
primitive_clash SByte json v flaw fits other = number_clash SByte json v flaw fits other
primitive_clash Int16 json v flaw fits other = number_clash Int16 json v flaw fits other
primitive_clash Int32 json v flaw fits other = number_clash Int32 json v flaw fits other
primitive_clash Int64 json v flaw fits other = number_clash Int64 json v flaw fits other
primitive_clash EdmString json v flaw fits other = text_clash (IsTextValue EdmString) json v flaw fits other
primitive_clash EdmDate json v flaw fits other = text_clash (IsTextValue EdmDate) json v flaw fits other
primitive_clash EdmDateTimeOffset json v flaw fits other = text_clash (IsTextValue EdmDateTimeOffset) json v flaw fits other
primitive_clash EdmGuid json v flaw fits other = text_clash (IsTextValue EdmGuid) json v flaw fits other

here_clash : (slots : Slots) (nullable : Bool) (type : ExprType) (json : Data) (v : Val) (flaw : Flaw) → FitsType slots nullable type json v → ¬ (IsFlawHere slots type json flaw)
here_clash slots nullable (single (primitive type)) json v flaw fits other = primitive_clash type json v flaw fits other
here_clash slots nullable (single (enumeration name)) json v flaw fits other = text_clash (IsMemberText (slots.enumerations name)) json v flaw fits other
here_clash slots nullable (single (structured name)) json (fields f) flaw fits other = kind_clash (as_object json) flaw fits.is_object other
here_clash slots nullable (single (structured name)) json _ flaw fits other = fits
here_clash slots nullable (collection type) json (items values) flaw fits other =
    kind_clash (as_array json) flaw (let some : as_array json ≡ Some fits.0 = fits.1 in rw some refl) other
here_clash slots nullable (collection type) json _ flaw fits other = fits
here_clash slots nullable null_type json v flaw fits other = fits

-- what was found for a value, and what is wrong with it
pub found_clash : (found : Option Data) (takes : Bool) (v : Val) (path : Path) (flaw : Flaw) (P Q : Data → Type 0) → ((json : Data) → P json → ¬ (Q json))
    → FitsFound found takes v P → ¬ (IsFoundFault found takes path flaw Q)
found_clash None takes v path flaw P Q clash fits other = cc
found_clash (Some json_null) takes v path flaw P Q clash fits other = cc
found_clash (Some (json_boolean b)) takes v path flaw P Q clash fits other = clash (json_boolean b) fits other
found_clash (Some (number n)) takes v path flaw P Q clash fits other = clash (number n) fits other
found_clash (Some (string s)) takes v path flaw P Q clash fits other = clash (string s) fits other
found_clash (Some (array ds)) takes v path flaw P Q clash fits other = clash (array ds) fits other
found_clash (Some (object ms)) takes v path flaw P Q clash fits other = clash (object ms) fits other

all_at : {X : Type 0} (P : X → Type 0) (before : List X) (x : X) (behind : List X) → AllByRecursion P (before ++ x ∷ behind) → P x
all_at P [] x behind all = all.0
all_at P (y ∷ before) x behind all = all_at P before x behind all.1

-- an item of an array that fits
pub item_at : (slots : Slots) (nullable : Bool) (type : SingleType) (jsons : Items) (values : Vals) (n : ℕ) (json : Data) → FitItems slots nullable type jsons values
    → get_item n jsons ≡ Some json → HasFittingItem slots nullable type json
item_at slots nullable type no_json values n json fits at = absurd (cc)
item_at slots nullable type (json_item here jsons) no_items n json fits at = absurd fits
item_at slots nullable type (json_item here jsons) (item v values) zero json fits at =
    let same : here ≡ json = cc in subst (λ (d : Data). HasFittingItem slots nullable type d) same (v, fits.0)
item_at slots nullable type (json_item here jsons) (item v values) (suc n) json fits at = item_at slots nullable type jsons values n json fits.1 at

-- what fits at the end of a way has no fault there
abbrev pub Clash : Slots → Path → Flaw → Type 0
Clash slots path flaw = (nullable : Bool) (type : ExprType) (json : Data) (v : Val) → FitsType slots nullable type json v → ¬ (IsValueFault slots nullable path type json flaw)

pub held_clash : (slots : Slots) (nullable : Bool) (type : PropertyType) (found : Option Data) (held : FieldVal) (path : Path) (flaw : Flaw) → Clash slots path flaw
    → FitsProperty slots nullable type found held → ¬ (IsPropertyFault slots nullable type found path flaw)
held_clash slots nullable (declared type) found (present v) path flaw clash fits other =
    found_clash found _ v path flaw _ _ (λ json here there. clash nullable type json v here there) fits other
held_clash slots nullable (declared type) found absent path flaw clash fits other = fits
held_clash slots nullable opaque found held path flaw clash fits other = other
held_clash slots nullable (navigation None) found held path flaw clash fits other = other
held_clash slots nullable (navigation (Some type)) found absent path flaw clash fits other = fits
held_clash slots nullable (navigation (Some type)) None (present v) path flaw clash fits other =
    subst (λ (b : Bool). FitsNavigation b None (takes_null type nullable) v (λ json. FitsType slots false type json v)) other.0 fits
held_clash slots nullable (navigation (Some type)) (Some json) (present v) path flaw clash fits other =
    found_clash (Some json) (takes_null type nullable) v path flaw (λ there. FitsType slots false type there v) (λ there. IsValueFault slots false path type there flaw)
    (λ there here fault. clash false type there v here fault)
    (subst (λ (b : Bool). FitsNavigation b (Some json) (takes_null type nullable) v (λ there. FitsType slots false type there v)) other.0 fits) other.1

property_clash : (slots : Slots) (properties : List PropertyModel) (json : Data) (f : List ℕ → FieldVal) (step : List ℕ) (path : Path) (flaw : Flaw) → ((inner : Slots) → Clash inner path flaw)
    → FitsRecord properties json f (λ p. FitsProperty (slots_behind slots p.name) p.nullable p.type_of (get p.name json) (f p.name))
    → ¬ (IsFirstProperty slots properties json step (λ p. IsPropertyFault (slots_behind slots p.name) p.nullable p.type_of (get p.name json) path flaw))
property_clash slots properties json f step path flaw clash fits other =
    let each = subst (AllByRecursion (λ p. FitsProperty (slots_behind slots p.name) p.nullable p.type_of (get p.name json) (f p.name))) other.split fits.each_fits in
    held_clash (slots_behind slots other.faulty.name) other.faulty.nullable other.faulty.type_of (get other.faulty.name json) (f other.faulty.name) path flaw (clash (slots_behind slots other.faulty.name))
    (all_at (λ p. FitsProperty (slots_behind slots p.name) p.nullable p.type_of (get p.name json) (f p.name)) other.before other.faulty other.behind each)
    other.fault

pub item_clash : (slots : Slots) (nullable : Bool) (type : SingleType) (json : Data) (path : Path) (flaw : Flaw) → Clash slots path flaw → HasFittingItem slots nullable type json
    → ¬ (IsFoundFault (Some json) nullable path flaw (λ found. IsValueFault slots nullable path (single type) found flaw))
item_clash slots nullable type json path flaw clash fits other =
    found_clash (Some json) nullable fits.0 path flaw _ _ (λ found here there. clash nullable (single type) found fits.0 here there) fits.1 other

pub type_clash : (path : Path) (slots : Slots) (flaw : Flaw) → Clash slots path flaw
type_clash [] slots flaw nullable type json v fits other = here_clash slots nullable type json v flaw fits other
type_clash (step ∷ path) slots flaw nullable (single (structured name)) json (fields f) fits other =
    property_clash slots (slots.properties name) json f step path flaw (λ inner. type_clash path inner flaw) fits other
type_clash (step ∷ path) slots flaw nullable (single (structured name)) json _ fits other = fits
type_clash (step ∷ path) slots flaw nullable (collection type) json (items values) fits other =
    let same : other.jsons ≡ fits.0 = (let one = other.is_array in let two = fits.1 in cc) in
    let at : get_item other.index fits.0 ≡ Some other.faulty = subst (λ (ds : Items). get_item other.index ds ≡ Some other.faulty) same other.at_index in
    item_clash slots nullable type other.faulty path flaw (type_clash path slots flaw)
    (item_at slots nullable type fits.0 values other.index other.faulty fits.2 at) other.fault
type_clash (step ∷ path) slots flaw nullable (collection type) json _ fits other = fits
type_clash (step ∷ path) slots flaw nullable (single (primitive type)) json v fits other = other
type_clash (step ∷ path) slots flaw nullable (single (enumeration name)) json v fits other = other
type_clash (step ∷ path) slots flaw nullable null_type json v fits other = other

first_clash : (slots : Slots) (type_name : List ℕ) (json : Data) (v : Val) (path : Path) (flaw : Flaw) → Fits slots type_name json v → ¬ (IsFirstFault slots type_name json path flaw)
first_clash slots type_name json v [] flaw fits other = other
first_clash slots type_name json v (step ∷ path) flaw fits other =
    type_clash (step ∷ path) slots flaw false (single (structured type_name)) json v fits other

at_clash : (slots : Slots) (type_name : List ℕ) (json : Data) (v : Val) (reported : List ℕ) (flaw : Flaw) → Fits slots type_name json v → ¬ (IsFirstFaultAt slots type_name json reported flaw)
at_clash slots type_name json v reported flaw fits other = first_clash slots type_name json v other.0 flaw fits other.1

no_object_clash : (slots : Slots) (type_name : List ℕ) (json : Data) (v : Val) → Fits slots type_name json v → ¬ (as_object json ≡ None)
no_object_clash slots type_name json v fits other = here_clash slots false (single (structured type_name)) json v wrong_kind fits other

pub fault_refuses : (slots : Slots) (type_name : List ℕ) (json : Data) (fault : RowFault) → IsRowFault slots type_name json fault → (v : Val) → ¬ (Fits slots type_name json v)
fault_refuses slots type_name json NotObject is v fits = no_object_clash slots type_name json v fits is
fault_refuses slots type_name json (Missing path) is v fits = at_clash slots type_name json v _ missing fits is
fault_refuses slots type_name json (WrongKind path) is v fits = at_clash slots type_name json v _ wrong_kind fits is
fault_refuses slots type_name json (NullNotAllowed path) is v fits = at_clash slots type_name json v _ null_not_allowed fits is
fault_refuses slots type_name json (OutOfRange path) is v fits = at_clash slots type_name json v _ out_of_range fits is
fault_refuses slots type_name json (BadText path) is v fits = at_clash slots type_name json v _ bad_text fits is
fault_refuses slots type_name json (NotExpanded path) is v fits = at_clash slots type_name json v _ not_expanded fits is
fault_refuses slots type_name json Memory is v fits = is
