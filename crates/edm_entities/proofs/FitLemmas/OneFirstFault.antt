-- A JSON tree has one first fault at most.
use Rattle.std.proofs.Common.{◌≡◌, ℕ, ◌<◌, List, [], ◌∷◌, ◌++◌, Bool, false, Option, Some, None, ◌⊎◌, inl, inr, refl, sym, ap, ◌∙◌, subst}
use Rattle.std.proofs.lemmas.Bool.{cases_order}
use Rattle.std.specs.List.{AllByRecursion}
use Rattle.std.specs.Prelude.{decimal}
use Rattle.serde_json.specs.Data.{Data, null as json_null, boolean as json_boolean, number, string, array, object, Items}
use Rattle.serde_json.specs.Find.{get, get_item, as_object, as_array}
use Rattle.edm_values.specs.declared.primitive.PrimitiveType.{PrimitiveType}
use Rattle.edm_values.specs.declared.primitive.PrimitiveType.TheVariants.{Bool as EdmBoolean, Byte, SByte, Int16, Int32, Int64, String as EdmString, Date as EdmDate, DateTimeOffset as EdmDateTimeOffset, Guid as EdmGuid}
use Rattle.csdl_schema.specs.ExprType.{ExprType, null_type, single, collection, SingleType, primitive, enumeration, structured}
use Rattle.csdl_schema.specs.SchemaModel.{Slots, PropertyModel, PropertyType, declared, opaque, navigation, slots_behind}
use Rattle.edm_entities.specs.FitsPrimitive.{Flaw, wrong_kind, out_of_range, bad_text, TextMeaning, IsTextValue, IsMemberText, OnWrongKind, IsNumberFlaw, IsTextFlaw, IsPrimitiveFlaw}
use Rattle.edm_entities.specs.Fits.{takes_null}
use Rattle.edm_entities.specs.RowFaults.{Path, IsFlawHere, IsFoundFault, HasFitting, HasFittingItem, IsFirstProperty, IsFirstItem, IsValueFault, IsFirstFault}
use Rattle.edm_entities.specs.private.Walk.{IsPropertyFault}
use Rattle.edm_entities.proofs.FitLemmas.RowFaultRefuses.{kind_clash, held_clash, item_clash, type_clash}

kind_alone : (P : Type 0) (flaw : Flaw) → OnWrongKind flaw P → flaw ≡ wrong_kind
kind_alone P wrong_kind is = refl
kind_alone P _ is = absurd is

same_kind : (P : Type 0) (a b : Flaw) → OnWrongKind a P → OnWrongKind b P → a ≡ b
same_kind P a b is_a is_b = kind_alone P a is_a ∙ sym (kind_alone P b is_b)

same_number_flaw : (type : PrimitiveType) (json : Data) (a b : Flaw) → IsNumberFlaw type json a → IsNumberFlaw type json b → a ≡ b
same_number_flaw type json wrong_kind wrong_kind is_a is_b = refl
same_number_flaw type json wrong_kind out_of_range is_a is_b = cc
same_number_flaw type json wrong_kind _ is_a is_b = absurd is_b
same_number_flaw type json out_of_range wrong_kind is_a is_b = cc
same_number_flaw type json out_of_range out_of_range is_a is_b = refl
same_number_flaw type json out_of_range _ is_a is_b = absurd is_b
same_number_flaw type json _ b is_a is_b = absurd is_a

same_text_flaw : (IsText : TextMeaning) (json : Data) (a b : Flaw) → IsTextFlaw IsText json a → IsTextFlaw IsText json b → a ≡ b
same_text_flaw IsText json wrong_kind wrong_kind is_a is_b = refl
same_text_flaw IsText json wrong_kind bad_text is_a is_b = cc
same_text_flaw IsText json wrong_kind _ is_a is_b = absurd is_b
same_text_flaw IsText json bad_text wrong_kind is_a is_b = cc
same_text_flaw IsText json bad_text bad_text is_a is_b = refl
same_text_flaw IsText json bad_text _ is_a is_b = absurd is_b
same_text_flaw IsText json _ b is_a is_b = absurd is_a

same_primitive_flaw : (type : PrimitiveType) (json : Data) (a b : Flaw) → IsPrimitiveFlaw type json a → IsPrimitiveFlaw type json b → a ≡ b
same_primitive_flaw EdmBoolean json a b is_a is_b = same_kind _ a b is_a is_b
same_primitive_flaw Byte json a b is_a is_b = same_number_flaw Byte json a b is_a is_b
same_primitive_flaw SByte json a b is_a is_b = same_number_flaw SByte json a b is_a is_b
same_primitive_flaw Int16 json a b is_a is_b = same_number_flaw Int16 json a b is_a is_b
same_primitive_flaw Int32 json a b is_a is_b = same_number_flaw Int32 json a b is_a is_b
same_primitive_flaw Int64 json a b is_a is_b = same_number_flaw Int64 json a b is_a is_b
same_primitive_flaw EdmString json a b is_a is_b = same_text_flaw (IsTextValue EdmString) json a b is_a is_b
same_primitive_flaw EdmDate json a b is_a is_b = same_text_flaw (IsTextValue EdmDate) json a b is_a is_b
same_primitive_flaw EdmDateTimeOffset json a b is_a is_b = same_text_flaw (IsTextValue EdmDateTimeOffset) json a b is_a is_b
same_primitive_flaw EdmGuid json a b is_a is_b = same_text_flaw (IsTextValue EdmGuid) json a b is_a is_b

same_here : (slots : Slots) (type : ExprType) (json : Data) (a b : Flaw) → IsFlawHere slots type json a → IsFlawHere slots type json b → a ≡ b
same_here slots (single (primitive type)) json a b is_a is_b = same_primitive_flaw type json a b is_a is_b
same_here slots (single (enumeration name)) json a b is_a is_b = same_text_flaw (IsMemberText (slots.enumerations name)) json a b is_a is_b
same_here slots (single (structured name)) json a b is_a is_b = same_kind _ a b is_a is_b
same_here slots (collection type) json a b is_a is_b = same_kind _ a b is_a is_b
same_here slots null_type json a b is_a is_b = same_kind _ a b is_a is_b

-- the same way to the same flaw
pub record IsSame (r s : Path) (a b : Flaw) : Type 0 where
  pub path : r ≡ s
  pub flaw : a ≡ b

-- the same, of what is wrong at the end of that way
abbrev pub Once : Slots → Path → Flaw → Flaw → Type 0
Once slots r a b =
    (s : Path) (nullable : Bool) (type : ExprType) (json : Data) → IsValueFault slots nullable r type json a → IsValueFault slots nullable s type json b → IsSame r s a b

found_once : (found : Option Data) (takes : Bool) (r s : Path) (a b : Flaw) (P Q : Data → Type 0) → ((json : Data) → P json → Q json → IsSame r s a b)
    → IsFoundFault found takes r a P → IsFoundFault found takes s b Q → IsSame r s a b
found_once None takes r s a b P Q once is_a is_b = record { path = is_a.1 ∙ sym is_b.1; flaw = is_a.2 ∙ sym is_b.2 }
found_once (Some json_null) takes r s a b P Q once is_a is_b = record { path = is_a.1 ∙ sym is_b.1; flaw = is_a.2 ∙ sym is_b.2 }
found_once (Some (json_boolean x)) takes r s a b P Q once is_a is_b = once (json_boolean x) is_a is_b
found_once (Some (number x)) takes r s a b P Q once is_a is_b = once (number x) is_a is_b
found_once (Some (string x)) takes r s a b P Q once is_a is_b = once (string x) is_a is_b
found_once (Some (array x)) takes r s a b P Q once is_a is_b = once (array x) is_a is_b
found_once (Some (object x)) takes r s a b P Q once is_a is_b = once (object x) is_a is_b

module _ (slots : Slots) (r s : Path) (a b : Flaw) (once : (inner : Slots) → Once inner r a b) where
  held_once : (inner : Slots) (nullable : Bool) (type : PropertyType) (found : Option Data) → IsPropertyFault inner nullable type found r a → IsPropertyFault inner nullable type found s b → IsSame r s a b
  held_once inner nullable (declared type) found is_a is_b = found_once found _ r s a b _ _ (λ json one other. once inner s nullable type json one other) is_a is_b
  held_once inner nullable opaque found is_a is_b = absurd is_a
  held_once inner nullable (navigation None) found is_a is_b = absurd is_a
  held_once inner nullable (navigation (Some type)) None is_a is_b = record { path = is_a.1.0 ∙ sym is_b.1.0; flaw = is_a.1.1 ∙ sym is_b.1.1 }
  held_once inner nullable (navigation (Some type)) (Some json) is_a is_b =
      found_once (Some json) (takes_null type nullable) r s a b _ _ (λ there one other. once inner s false type there one other) is_a.1 is_b.1

  module _ (json : Data) where
    abbrev At : Path → Flaw → PropertyModel → Type 0
    At path flaw p = IsPropertyFault (slots_behind slots p.name) p.nullable p.type_of (get p.name json) path flaw

    clash : (p : PropertyModel) (path : Path) (flaw : Flaw) → HasFitting slots json p → ¬ (At path flaw p)
    clash p path flaw fits fault = held_clash (slots_behind slots p.name) p.nullable p.type_of (get p.name json) fits.0 path flaw (type_clash path (slots_behind slots p.name) flaw) fits.1 fault

    same_place : (before before' : List PropertyModel) (p p' : PropertyModel) (behind behind' : List PropertyModel) → before ++ p ∷ behind ≡ before' ++ p' ∷ behind'
        → AllByRecursion (HasFitting slots json) before → AllByRecursion (HasFitting slots json) before' → At r a p → At s b p' → IsSame (p.name ∷ r) (p'.name ∷ s) a b
    same_place [] [] p p' behind behind' same fit fit' fault fault' =
        let heads : p ≡ p' = cc in
        let is : IsSame r s a b = held_once (slots_behind slots p'.name) p'.nullable p'.type_of (get p'.name json) (subst (λ (q : PropertyModel). At r a q) heads fault) fault' in
        record { path = ap (λ (q : PropertyModel). q.name ∷ r) heads ∙ ap (λ (t : Path). p'.name ∷ t) is.path; flaw = is.flaw }
    same_place [] (q' ∷ before') p p' behind behind' same fit fit' fault fault' =
        let heads : q' ≡ p = cc in absurd (clash p r a (subst (HasFitting slots json) heads fit'.0) fault)
    same_place (q ∷ before) [] p p' behind behind' same fit fit' fault fault' =
        let heads : q ≡ p' = cc in absurd (clash p' s b (subst (HasFitting slots json) heads fit.0) fault')
    same_place (q ∷ before) (q' ∷ before') p p' behind behind' same fit fit' fault fault' =
        let tails : before ++ p ∷ behind ≡ before' ++ p' ∷ behind' = cc in
        same_place before before' p p' behind behind' tails fit.1 fit'.1 fault fault'

    same_property : (properties : List PropertyModel) (step step' : List ℕ) → IsFirstProperty slots properties json step (At r a) → IsFirstProperty slots properties json step' (At s b)
        → IsSame (step ∷ r) (step' ∷ s) a b
    same_property properties step step' one other =
        let is = same_place one.before other.before one.faulty other.faulty one.behind other.behind (sym one.split ∙ other.split) one.before_fit other.before_fit one.fault other.fault in
        record { path = ap (λ (t : List ℕ). t ∷ r) one.step_is ∙ (is.path ∙ ap (λ (t : List ℕ). t ∷ s) (sym other.step_is)); flaw = is.flaw }

  module _ (nullable : Bool) (type : SingleType) where
    abbrev In : Path → Flaw → Data → Type 0
    In path flaw json = IsFoundFault (Some json) nullable path flaw (λ found. IsValueFault slots nullable path (single type) found flaw)

    apart : (json : Data) (path : Path) (flaw : Flaw) → HasFittingItem slots nullable type json → ¬ (In path flaw json)
    apart json path flaw fits fault = item_clash slots nullable type json path flaw (type_clash path slots flaw) fits fault

    same_index : (jsons : Items) (m n : ℕ) (d e : Data) → get_item m jsons ≡ Some d → get_item n jsons ≡ Some e
        → ((k : ℕ) (before : Data) → k < m → get_item k jsons ≡ Some before → HasFittingItem slots nullable type before)
        → ((k : ℕ) (before : Data) → k < n → get_item k jsons ≡ Some before → HasFittingItem slots nullable type before)
        → In r a d → In s b e → (m ≡ n) ⊎ ((m < n) ⊎ (n < m)) → IsSame (decimal m ∷ r) (decimal n ∷ s) a b
    same_index jsons m n d e at_m at_n before_m before_n fault fault' (inr (inl less)) = absurd (apart d r a (before_n m d less at_m) fault)
    same_index jsons m n d e at_m at_n before_m before_n fault fault' (inl same) =
        let at : get_item n jsons ≡ Some d = subst (λ (k : ℕ). get_item k jsons ≡ Some d) same at_m in
        let here : d ≡ e = (let there = at_n in cc) in
        let is : IsSame r s a b = found_once (Some e) nullable r s a b _ _ (λ found one other. once slots s nullable (single type) found one other) (subst (In r a) here fault) fault' in
        record { path = ap (λ (k : ℕ). decimal k ∷ r) same ∙ ap (λ (t : Path). decimal n ∷ t) is.path; flaw = is.flaw }
    same_index jsons m n d e at_m at_n before_m before_n fault fault' (inr (inr more)) = absurd (apart e s b (before_m n e more at_n) fault')

    same_item : (json : Data) (step step' : List ℕ) → IsFirstItem slots nullable type json step (In r a) → IsFirstItem slots nullable type json step' (In s b)
        → IsSame (step ∷ r) (step' ∷ s) a b
    same_item json step step' one other =
        let arrays : other.jsons ≡ one.jsons = (let here = one.is_array in let there = other.is_array in cc) in
        let at : get_item other.index one.jsons ≡ Some other.faulty = subst (λ (ds : Items). get_item other.index ds ≡ Some other.faulty) arrays other.at_index in
        let before : ((k : ℕ) (d : Data) → k < other.index → get_item k one.jsons ≡ Some d → HasFittingItem slots nullable type d) =
        subst (λ (ds : Items). (k : ℕ) (d : Data) → k < other.index → get_item k ds ≡ Some d → HasFittingItem slots nullable type d) arrays other.before_fit in
        let is = same_index one.jsons one.index other.index one.faulty other.faulty one.at_index at one.before_fit before one.fault other.fault (cases_order one.index other.index) in
        record { path = ap (λ (t : List ℕ). t ∷ r) one.step_is ∙ (is.path ∙ ap (λ (t : List ℕ). t ∷ s) (sym other.step_is)); flaw = is.flaw }

-- a value that is itself at fault has no parts
no_parts : (step : List ℕ) (path : Path) (slots : Slots) (nullable : Bool) (type : ExprType) (json : Data) (a b : Flaw)
    → IsFlawHere slots type json a → ¬ (IsValueFault slots nullable (step ∷ path) type json b)
no_parts step path slots nullable (single (structured name)) json a b here below = kind_clash (as_object json) a below.is_object here
no_parts step path slots nullable (collection type) json a b here below =
    kind_clash (as_array json) a (let some : as_array json ≡ Some below.jsons = below.is_array in rw some refl) here
no_parts step path slots nullable (single (primitive type)) json a b here below = below
no_parts step path slots nullable (single (enumeration name)) json a b here below = below
no_parts step path slots nullable null_type json a b here below = below

same_fault : (r : Path) (slots : Slots) (a b : Flaw) → Once slots r a b
same_fault [] slots a b [] nullable type json is_a is_b = record { path = refl; flaw = same_here slots type json a b is_a is_b }
same_fault [] slots a b (step ∷ s) nullable type json is_a is_b = absurd (no_parts step s slots nullable type json a b is_a is_b)
same_fault (step ∷ r) slots a b [] nullable type json is_a is_b = absurd (no_parts step r slots nullable type json b a is_b is_a)
same_fault (step ∷ r) slots a b (step' ∷ s) nullable (single (structured name)) json is_a is_b =
    same_property slots r s a b (λ inner. same_fault r inner a b) json (slots.properties name) step step' is_a is_b
same_fault (step ∷ r) slots a b (step' ∷ s) nullable (collection type) json is_a is_b =
    same_item slots r s a b (λ inner. same_fault r inner a b) nullable type json step step' is_a is_b
same_fault (step ∷ r) slots a b (step' ∷ s) nullable (single (primitive type)) json is_a is_b = absurd is_a
same_fault (step ∷ r) slots a b (step' ∷ s) nullable (single (enumeration name)) json is_a is_b = absurd is_a
same_fault (step ∷ r) slots a b (step' ∷ s) nullable null_type json is_a is_b = absurd is_a

pub one_first_fault : (slots : Slots) (type_name : List ℕ) (json : Data) (path path' : Path) (flaw flaw' : Flaw)
    → IsFirstFault slots type_name json path flaw → IsFirstFault slots type_name json path' flaw' → (path ≡ path') × (flaw ≡ flaw')
one_first_fault slots type_name json [] path' flaw flaw' one other = absurd one
one_first_fault slots type_name json (step ∷ path) [] flaw flaw' one other = absurd other
one_first_fault slots type_name json (step ∷ path) (step' ∷ path') flaw flaw' one other =
    let is = same_fault (step ∷ path) slots flaw flaw' (step' ∷ path') false (single (structured type_name)) json one other in (is.path, is.flaw)
