-- Values hold one value for each slot of their records, null in the slots that are not looked at.
use Rattle.std.proofs.Common.{◌≡◌, ℕ, List, [], ◌∷◌, ◌++◌, Bool, true, false, cond, ◌&&◌, map, Option, Some, None, Vec, Global, refl, rules, sym, ap, ◌∙◌, subst}
use Rattle.serde_json.specs.Data.{Data}
use Rattle.edm_values.specs.Val.{Val, fields, items, FieldVal, Vals}
use Rattle.edm_values.specs.declared.primitive.PrimitiveType.{PrimitiveType}
use Rattle.edm_values.specs.declared.primitive.PrimitiveType.TheVariants.{Bool as EdmBoolean, Byte, SByte, Int16, Int32, Int64, String as EdmString, Date as EdmDate, DateTimeOffset as EdmDateTimeOffset, Guid as EdmGuid}
use Rattle.edm_values.specs.declared.value.Value.{Value, Null, Bool as BoolValue, Int, Text, Date, Moment, Guid, Enum, Record, Record', Sparse', List as ListOf, List', fold_out-Value, the_lemmas}
use Rattle.edm_values.specs.declared.value.Value as views
use Rattle.edm_enumerations.specs.EnumerationModel.{EnumerationModel}
use Rattle.csdl_schema.specs.ExprType.{ExprType, null_type, single, collection, SingleType, primitive, enumeration, structured}
use Rattle.csdl_schema.specs.SchemaModel.{Slots, PropertyModel, PropertyType, declared, opaque, navigation}
use Rattle.edm_entities.specs.FitsPrimitive.{FitsNumber, FitsPrimitive, FitsText, IsMemberText}
use Rattle.edm_entities.specs.HoldsEachSlot.{HoldsEachSlot, holding_of, items_hold, list_holds, record_holds, slots_hold}
use Rattle.edm_entities.specs.Row.{ValAtType, val_of, val_step}
use Rattle.edm_entities.specs.private.Walk.{HoldEach, FitsSlot, HoldsInSlot, HoldInItems}

-- ---- null

pub null_holds : (slots : Slots) (type : ExprType) (v : Value) → v ≡ Null → HoldsEachSlot v slots type
null_holds slots type v same =
    let holds : HoldsEachSlot Null slots type = search (rules, the_lemmas) in
    subst (λ (w : Value). HoldsEachSlot w slots type) (sym same) holds

null_is_null : (holding_of Null).is_null ≡ true
null_is_null = search (rules, the_lemmas)

pub null_in_slot : (slots : Slots) (type : PropertyType) (v : Value) → v ≡ Null → HoldsInSlot slots type v
null_in_slot slots (declared type) v same = null_holds slots type v same
null_in_slot slots opaque v same = ap (λ (w : Value). (holding_of w).is_null) same ∙ null_is_null
null_in_slot slots (navigation None) v same = ap (λ (w : Value). (holding_of w).is_null) same ∙ null_is_null
null_in_slot slots (navigation (Some type)) v same =
    either (slots.needed []) ((holding_of v).holds slots type) (holding_of v).is_null (null_holds slots type v same) (ap (λ (w : Value). (holding_of w).is_null) same ∙ null_is_null)
  where
    either : (b x y : Bool) → x ≡ true → y ≡ true → cond b x y ≡ true
    either true x y here there = here
    either false x y here there = there

-- ---- values without parts

abbrev IsLeaf : Val → Type 0
IsLeaf (fields f) = ⊥
IsLeaf (items vs) = ⊥
IsLeaf _ = Unit {0}

number_leaf : (type : PrimitiveType) (json : Data) (v : Val) → FitsNumber type json v → IsLeaf v
number_leaf type json v (n, is, within, same) = subst IsLeaf (sym same) tt

primitive_leaf : (type : PrimitiveType) (json : Data) (v : Val) → FitsPrimitive type json v → IsLeaf v
primitive_leaf EdmBoolean json v (b, is, same) = subst IsLeaf (sym same) tt
primitive_leaf Byte json v fits = number_leaf Byte json v fits
primitive_leaf SByte json v fits = number_leaf SByte json v fits
primitive_leaf Int16 json v fits = number_leaf Int16 json v fits
primitive_leaf Int32 json v fits = number_leaf Int32 json v fits
primitive_leaf Int64 json v fits = number_leaf Int64 json v fits
primitive_leaf EdmString json v fits = subst IsLeaf (sym fits.2.1) tt
primitive_leaf EdmDate json v fits = subst IsLeaf (sym fits.2.2) tt
primitive_leaf EdmDateTimeOffset json v fits = subst IsLeaf (sym fits.2.2) tt
primitive_leaf EdmGuid json v fits = subst IsLeaf (sym fits.2.2) tt

member_leaf : (e : Option EnumerationModel) (json : Data) (v : Val) → FitsText (IsMemberText e) json v → IsLeaf v
member_leaf e json v fits = subst IsLeaf (sym fits.2.3) tt

-- what a record and a list stand for is no leaf
record_val : (slots : Slots) (type : ExprType) (shape : _) (all : _) → (names : List ℕ → FieldVal) × (val_of (Record' shape all) slots.properties type ≡ fields names)
unfolding views.out-Value denote.Hole.Carrier.out
record_val slots null_type shape all = (_, ap (λ (f : ValAtType). f slots.properties null_type) (fold_out-Value ValAtType val_step (Record' shape all)))
record_val slots (single (primitive p)) shape all = (_, ap (λ (f : ValAtType). f slots.properties (single (primitive p))) (fold_out-Value ValAtType val_step (Record' shape all)))
record_val slots (single (enumeration name)) shape all = (_, ap (λ (f : ValAtType). f slots.properties (single (enumeration name))) (fold_out-Value ValAtType val_step (Record' shape all)))
record_val slots (single (structured name)) shape all = (_, ap (λ (f : ValAtType). f slots.properties (single (structured name))) (fold_out-Value ValAtType val_step (Record' shape all)))
record_val slots (collection t) shape all = (_, ap (λ (f : ValAtType). f slots.properties (collection t)) (fold_out-Value ValAtType val_step (Record' shape all)))

sparse_val : (slots : Slots) (type : ExprType) (shape : _) (all : _) → (names : List ℕ → FieldVal) × (val_of (Sparse' shape all) slots.properties type ≡ fields names)
unfolding views.out-Value denote.Hole.Carrier.out
sparse_val slots null_type shape all = (_, ap (λ (f : ValAtType). f slots.properties null_type) (fold_out-Value ValAtType val_step (Sparse' shape all)))
sparse_val slots (single (primitive p)) shape all = (_, ap (λ (f : ValAtType). f slots.properties (single (primitive p))) (fold_out-Value ValAtType val_step (Sparse' shape all)))
sparse_val slots (single (enumeration name)) shape all = (_, ap (λ (f : ValAtType). f slots.properties (single (enumeration name))) (fold_out-Value ValAtType val_step (Sparse' shape all)))
sparse_val slots (single (structured name)) shape all = (_, ap (λ (f : ValAtType). f slots.properties (single (structured name))) (fold_out-Value ValAtType val_step (Sparse' shape all)))
sparse_val slots (collection t) shape all = (_, ap (λ (f : ValAtType). f slots.properties (collection t)) (fold_out-Value ValAtType val_step (Sparse' shape all)))

list_val : (slots : Slots) (type : ExprType) (shape : _) (all : _) → (held : Vals) × (val_of (List' shape all) slots.properties type ≡ items held)
unfolding views.out-Value denote.Hole.Carrier.out
list_val slots null_type shape all = (_, ap (λ (f : ValAtType). f slots.properties null_type) (fold_out-Value ValAtType val_step (List' shape all)))
list_val slots (single t) shape all = (_, ap (λ (f : ValAtType). f slots.properties (single t)) (fold_out-Value ValAtType val_step (List' shape all)))
list_val slots (collection t) shape all = (_, ap (λ (f : ValAtType). f slots.properties (collection t)) (fold_out-Value ValAtType val_step (List' shape all)))

leaf_holds : (slots : Slots) (type : ExprType) (v : Value) → IsLeaf (val_of v slots.properties type) → HoldsEachSlot v slots type
leaf_holds slots type Null leaf = null_holds slots type Null refl
leaf_holds slots type (BoolValue b) leaf = search (rules, the_lemmas)
leaf_holds slots type (Int n) leaf = search (rules, the_lemmas)
leaf_holds slots type (Text s) leaf = search (rules, the_lemmas)
leaf_holds slots type (Date d) leaf = search (rules, the_lemmas)
leaf_holds slots type (Moment m) leaf = search (rules, the_lemmas)
leaf_holds slots type (Guid g) leaf = search (rules, the_lemmas)
leaf_holds slots type (Enum n) leaf = search (rules, the_lemmas)
leaf_holds slots type (Record' shape all) leaf = let seen = record_val slots type shape all in absurd (subst IsLeaf seen.1 leaf)
leaf_holds slots type (Sparse' shape all) leaf = let seen = sparse_val slots type shape all in absurd (subst IsLeaf seen.1 leaf)
leaf_holds slots type (List' shape all) leaf = let seen = list_val slots type shape all in absurd (subst IsLeaf seen.1 leaf)

pub primitive_holds : (slots : Slots) (type : PrimitiveType) (json : Data) (v : Value) → FitsPrimitive type json (val_of v slots.properties (single (primitive type)))
    → HoldsEachSlot v slots (single (primitive type))
primitive_holds slots type json v fits = leaf_holds slots (single (primitive type)) v (primitive_leaf type json (val_of v slots.properties (single (primitive type))) fits)

pub member_holds : (slots : Slots) (name : List ℕ) (json : Data) (v : Value) → FitsText (IsMemberText (slots.enumerations name)) json (val_of v slots.properties (single (enumeration name)))
    → HoldsEachSlot v slots (single (enumeration name))
member_holds slots name json v fits = leaf_holds slots (single (enumeration name)) v (member_leaf (slots.enumerations name) json (val_of v slots.properties (single (enumeration name))) fits)

-- ---- records

both : (a b : Bool) → a ≡ true → b ≡ true → (a && b) ≡ true
both a b first second = rw (first, second) refl

holding-Record : (slots : Slots) (type : ExprType) (v : Vec Value Global) → (holding_of (Record v)).holds slots type ≡ record_holds slots type (map holding_of v.items)
holding-Record slots type v = search (rules, the_lemmas)

each_holds : (slots : Slots) (found : List ℕ → Option Data) (ps : List PropertyModel) (values : List Value) → HoldEach (FitsSlot slots found) ps values
    → slots_hold slots ps (map holding_of values) ≡ true
each_holds slots found [] [] fits = refl
each_holds slots found [] (v ∷ values) fits = absurd fits
each_holds slots found (p ∷ ps) [] fits = absurd fits
each_holds slots found (p ∷ ps) (v ∷ values) fits = both _ _ fits.0.1 (each_holds slots found ps values fits.1)

pub slots_held : (slots : Slots) (name : List ℕ) (found : List ℕ → Option Data) (values : Vec Value Global) → HoldEach (FitsSlot slots found) (slots.properties name) values.items
    → HoldsEachSlot (Record values) slots (single (structured name))
slots_held slots name found values fits = holding-Record slots (single (structured name)) values ∙ each_holds slots found (slots.properties name) values.items fits

-- ---- lists

holding-List : (slots : Slots) (type : ExprType) (v : Vec Value Global) → (holding_of (ListOf v)).holds slots type ≡ list_holds slots type (map holding_of v.items)
holding-List slots type v = search (rules, the_lemmas)

pub list_held : (slots : Slots) (type : SingleType) (values : Vec Value Global) → HoldInItems slots type values.items → HoldsEachSlot (ListOf values) slots (collection type)
list_held slots type values holds = holding-List slots (collection type) values ∙ holds

-- one item more
pub holds_push : (slots : Slots) (type : SingleType) (values : List Value) (v : Value) → HoldInItems slots type values → HoldsEachSlot v slots (single type)
    → HoldInItems slots type (values ++ v ∷ [])
holds_push slots type [] v holds here = both _ _ here refl
holds_push slots type (w ∷ values) v holds here =
    let parts = both_of ((holding_of w).holds slots (single type)) (items_hold slots type (map holding_of values)) holds in
    both _ _ parts.0 (holds_push slots type values v parts.1 here)
  where
    both_of : (a b : Bool) → (a && b) ≡ true → (a ≡ true) × (b ≡ true)
    both_of true b is = (refl, is)
    both_of false b is = absurd (cc)

-- ---- properties as the code reads them

-- a property of that kind is looked at, and its value is of the type: of a navigation property, where it is expanded
abbrev pub IsLookedAt : Slots → PropertyType → ExprType → Type 0
IsLookedAt slots (declared t) type = t ≡ type
IsLookedAt slots opaque type = ⊥
IsLookedAt slots (navigation None) type = ⊥
IsLookedAt slots (navigation (Some t)) type = (slots.needed [] ≡ true) × (t ≡ type)

-- a value of a property that is looked at
pub held_seen : (slots : Slots) (type : PropertyType) (wanted : ExprType) (v : Value) → IsLookedAt slots type wanted → HoldsEachSlot v slots wanted → HoldsInSlot slots type v
held_seen slots (declared type) wanted v is holds = subst (λ (t : ExprType). HoldsEachSlot v slots t) (sym is) holds
held_seen slots opaque wanted v is holds = absurd is
held_seen slots (navigation None) wanted v is holds = absurd is
held_seen slots (navigation (Some type)) wanted v is holds =
    subst (λ (b : Bool). cond b ((holding_of v).holds slots type) (holding_of v).is_null ≡ true) (sym is.0) (subst (λ (t : ExprType). HoldsEachSlot v slots t) (sym is.1) holds)

-- a value of a type by another name
pub holds_as : (slots : Slots) (type other : SingleType) (v : Value) → type ≡ other → HoldsEachSlot v slots (single other) → HoldsEachSlot v slots (single type)
holds_as slots type other v same holds = subst (λ (s : SingleType). HoldsEachSlot v slots (single s)) (sym same) holds
