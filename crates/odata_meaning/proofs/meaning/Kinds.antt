-- Which kinds of values types have, and which of these an operator compares.
use Rattle.std.proofs.Common.{◌≡◌, refl, sym, subst, inl, inr, Bool, Option, Some, None}
use Rattle.edm_values.specs.NumberTypes.{IsNumberType}
use Rattle.edm_values.specs.Val.{Val, null, boolean, whole, text, date, moment, guid, member, fields, items}
use Rattle.edm_values.specs.declared.primitive.PrimitiveType.{PrimitiveType}
use Rattle.csdl_schema.specs.ExprType.{ExprType, null_type, single, SingleType, primitive, enumeration, structured}
use Rattle.csdl_schema.specs.SchemaModel.{Slots}
use Rattle.edm_entities.specs.HasType.{HasType}
use Rattle.odata_functions.specs.Comparable.{AreComparableBy, HaveEquality, HaveOrder}
use Rattle.odata_syntax.specs.declared.binary_operator.ComparisonOperator.{ComparisonOperator}
use Rattle.odata_signatures.specs.ComparableTypes.{AreAlikePrimitives, AreComparable, AreComparableSingles, AreComparedBy, AreOrdered, IsOrderedPrimitive, IsOrderedSingle}
use Rattle.odata_signatures.specs.ExprTypes.{IsBooleanOrNull}
use Rattle.odata_filter_operations.specs.TruthGives.{truth_val}
use Rattle.odata_meaning.proofs.meaning.TypeValues.{IsOfKind, ValueKind, guids, kind_of_primitive, member_kind, members, null_value, primitive_kind, record_form, truths, wholes}

pub number_kind : (p : PrimitiveType) → IsNumberType p → kind_of_primitive p ≡ wholes
number_kind PrimitiveType.Byte is = refl
number_kind PrimitiveType.SByte is = refl
number_kind PrimitiveType.Int16 is = refl
number_kind PrimitiveType.Int32 is = refl
number_kind PrimitiveType.Int64 is = refl
number_kind _ is = absurd is

-- the kinds that have an order
abbrev IsOrderedKind : ValueKind → Type 0
IsOrderedKind guids = ⊥
IsOrderedKind members = ⊥
IsOrderedKind _ = Unit {0}

ordered_primitive : (p : PrimitiveType) → IsOrderedPrimitive p → IsOrderedKind (kind_of_primitive p)
ordered_primitive PrimitiveType.Guid is = is
ordered_primitive _ is = tt

-- one kind has the values of both types, and has an order if the first type has one
pub record CommonKind (slots : Slots) (left right : SingleType) : Type 0 where
  pub kind : ValueKind
  pub of_left : (v : Val) → HasType slots (single left) v → IsOfKind kind v
  pub of_right : (v : Val) → HasType slots (single right) v → IsOfKind kind v
  pub ordered : IsOrderedSingle left → IsOrderedKind kind

primitives_common : (slots : Slots) (p q : PrimitiveType) → AreAlikePrimitives p q → CommonKind slots (primitive p) (primitive q)
primitives_common slots p q (inl numbers) = record {
  kind = wholes;
  of_left = λ v has. subst (λ (k : ValueKind). IsOfKind k v) (number_kind p numbers.0) (primitive_kind slots p v has);
  of_right = λ v has. subst (λ (k : ValueKind). IsOfKind k v) (number_kind q numbers.1) (primitive_kind slots q v has);
  ordered = λ is. tt;
}
primitives_common slots p q (inr same) = record {
  kind = kind_of_primitive p;
  of_left = λ v has. primitive_kind slots p v has;
  of_right = λ v has. primitive_kind slots p v (subst (λ (t : PrimitiveType). HasType slots (single (primitive t)) v) (sym same) has);
  ordered = ordered_primitive p;
}

common_kind : (slots : Slots) (left right : SingleType) → AreComparableSingles left right → CommonKind slots left right
common_kind slots (primitive p) (primitive q) alike = primitives_common slots p q alike
common_kind slots (enumeration a) (enumeration b) same = record {
  kind = members;
  of_left = λ v has. member_kind slots a v has;
  of_right = λ v has. member_kind slots b v has;
  ordered = λ is. is;
}
common_kind slots _ _ alike = absurd alike

-- one value is no list
abbrev IsNoList : Val → Type 0
IsNoList (items vs) = ⊥
IsNoList _ = Unit {0}

kind_no_list : (kind : ValueKind) (v : Val) → IsOfKind kind v → IsNoList v
kind_no_list kind (items vs) is = is
kind_no_list kind _ is = tt

single_no_list : (slots : Slots) (type : SingleType) (v : Val) → HasType slots (single type) v → IsNoList v
single_no_list slots (primitive p) v has = kind_no_list (kind_of_primitive p) v (primitive_kind slots p v has)
single_no_list slots (enumeration name) v has = kind_no_list members v (member_kind slots name v has)
single_no_list slots (structured name) v has = elim (record_form slots name v has) [
  | inl is_null ↦ rw is_null tt
  | inr record_is ↦ (let is : v ≡ fields record_is.0 = record_is.1 in rw is tt)
]

null_left : (v : Val) → IsNoList v → HaveEquality null v
null_left (items vs) is = is
null_left _ is = tt

null_right : (v : Val) → IsNoList v → HaveEquality v null
null_right (items vs) is = is
null_right _ is = tt

-- values of one kind have equality, and an order if the kind has one
kind_equality : (kind : ValueKind) (v w : Val) → IsOfKind kind v → IsOfKind kind w → HaveEquality v w
kind_equality kind null w p q = null_left w (kind_no_list kind w q)
kind_equality kind v null p q = null_right v (kind_no_list kind v p)
kind_equality kind (boolean x) (boolean y) p q = tt
kind_equality kind (whole x) (whole y) p q = tt
kind_equality kind (text x) (text y) p q = tt
kind_equality kind (date x) (date y) p q = tt
kind_equality kind (moment x) (moment y) p q = tt
kind_equality kind (guid x) (guid y) p q = tt
kind_equality kind (member x) (member y) p q = tt
kind_equality kind (fields x) w p q = absurd p
kind_equality kind (items x) w p q = absurd p
kind_equality kind v (fields y) p q = absurd q
kind_equality kind v (items y) p q = absurd q
kind_equality kind _ _ p q = absurd (cc)

order_beside_null : (kind : ValueKind) (v : Val) → IsOrderedKind kind → IsOfKind kind v → HaveOrder null v × HaveOrder v null
order_beside_null kind (guid x) o p = absurd (subst IsOrderedKind p o)
order_beside_null kind (member x) o p = absurd (subst IsOrderedKind p o)
order_beside_null kind (fields x) o p = absurd p
order_beside_null kind (items x) o p = absurd p
order_beside_null kind _ o p = (tt, tt)

kind_order : (kind : ValueKind) (v w : Val) → IsOrderedKind kind → IsOfKind kind v → IsOfKind kind w → HaveOrder v w
kind_order kind null w o p q = (order_beside_null kind w o q).0
kind_order kind v null o p q = (order_beside_null kind v o p).1
kind_order kind (boolean x) (boolean y) o p q = tt
kind_order kind (whole x) (whole y) o p q = tt
kind_order kind (text x) (text y) o p q = tt
kind_order kind (date x) (date y) o p q = tt
kind_order kind (moment x) (moment y) o p q = tt
kind_order kind (guid x) w o p q = absurd (subst IsOrderedKind p o)
kind_order kind (member x) w o p q = absurd (subst IsOrderedKind p o)
kind_order kind (fields x) w o p q = absurd p
kind_order kind (items x) w o p q = absurd p
kind_order kind v (fields y) o p q = absurd q
kind_order kind v (items y) o p q = absurd q
kind_order kind _ _ o p q = absurd (cc)

have_equality : (slots : Slots) (left right : ExprType) (l r : Val) → AreComparable left right → HasType slots left l → HasType slots right r → HaveEquality l r
have_equality slots null_type null_type l r alike of_l of_r = rw (null_value slots l of_l, null_value slots r of_r) tt
have_equality slots null_type (single t) l r alike of_l of_r = rw (null_value slots l of_l) (null_left r (single_no_list slots t r of_r))
have_equality slots (single s) null_type l r alike of_l of_r = rw (null_value slots r of_r) (null_right l (single_no_list slots s l of_l))
have_equality slots (single s) (single t) l r alike of_l of_r =
    let common = common_kind slots s t alike in
    kind_equality common.kind l r (common.of_left l of_l) (common.of_right r of_r)
have_equality slots _ _ l r alike of_l of_r = absurd alike

-- values of an ordered type beside null
single_beside_null : (slots : Slots) (t : SingleType) (v : Val) → IsOrderedSingle t → HasType slots (single t) v → HaveOrder null v × HaveOrder v null
single_beside_null slots (primitive p) v is has = order_beside_null (kind_of_primitive p) v (ordered_primitive p is) (primitive_kind slots p v has)
single_beside_null slots _ v is has = absurd is

have_order : (slots : Slots) (left right : ExprType) (l r : Val) → AreOrdered left right → HasType slots left l → HasType slots right r → HaveOrder l r
have_order slots null_type null_type l r alike of_l of_r = rw (null_value slots l of_l, null_value slots r of_r) tt
have_order slots null_type (single t) l r alike of_l of_r = rw (null_value slots l of_l) (single_beside_null slots t r alike of_r).0
have_order slots (single s) null_type l r alike of_l of_r = rw (null_value slots r of_r) (single_beside_null slots s l alike of_l).1
have_order slots (single s) (single t) l r alike of_l of_r =
    let common = common_kind slots s t alike.0 in
    kind_order common.kind l r (common.ordered alike.1) (common.of_left l of_l) (common.of_right r of_r)
have_order slots _ _ l r alike of_l of_r = absurd alike

-- values of types that the operator takes are values that it compares
pub comparable_values : (slots : Slots) (operator : ComparisonOperator) (left right : ExprType) (l r : Val)
    → AreComparedBy operator left right → HasType slots left l → HasType slots right r → AreComparableBy operator l r
comparable_values slots ComparisonOperator.Eq left right l r alike of_l of_r = have_equality slots left right l r alike of_l of_r
comparable_values slots ComparisonOperator.Ne left right l r alike of_l of_r = have_equality slots left right l r alike of_l of_r
comparable_values slots _ left right l r alike of_l of_r = have_order slots left right l r alike of_l of_r

-- a truth value or null
abbrev pub IsTruth : Val → Type 0
IsTruth v = (truth : Option Bool) × (v ≡ truth_val truth)

kind_truth : (v : Val) → IsOfKind truths v → IsTruth v
kind_truth null is = (None, refl)
kind_truth (boolean b) is = (Some b, refl)
kind_truth (fields held) is = absurd is
kind_truth (items vs) is = absurd is
kind_truth _ is = absurd (cc)

pub truth_of : (slots : Slots) (type : ExprType) (v : Val) → IsBooleanOrNull type → HasType slots type v → IsTruth v
truth_of slots type v (inl is_boolean) has =
    kind_truth v (primitive_kind slots PrimitiveType.Bool v (subst (λ (t : ExprType). HasType slots t v) is_boolean has))
truth_of slots type v (inr is_null) has = (None, null_value slots v (subst (λ (t : ExprType). HasType slots t v) is_null has))
