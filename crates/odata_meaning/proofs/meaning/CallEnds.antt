-- A call whose arguments have types that its function takes has an outcome.
use Rattle.std.proofs.Common.{◌≡◌, ◌≤◌, arith, length, List, [], ◌∷◌, Bool, true, false, refl, sym, subst, inl, inr}
use Rattle.edm_values.specs.MomentParts.{IsMoment, MomentParts}
use Rattle.edm_values.specs.Val.{Val, null, whole, text, date, moment, fields, items}
use Rattle.edm_values.specs.declared.primitive.PrimitiveType.{PrimitiveType}
use Rattle.csdl_schema.specs.ExprType.{ExprType, null_type, single, primitive}
use Rattle.csdl_schema.specs.SchemaModel.{Slots}
use Rattle.edm_entities.specs.HasType.{HasType}
use Rattle.odata_signatures.specs.ArgumentTypes.{AreArgumentTypes, IsArgumentPrimitive, IsArgumentType}
use Rattle.odata_signatures.specs.CallTyped.{FunctionTyped}
use Rattle.odata_signatures.specs.Functions.{row_of}
use Rattle.odata_signatures.specs.declared.argument_kind.ArgumentKind.{ArgumentKind}
use Rattle.odata_signatures.specs.declared.function.Function.{Function}
use Rattle.odata_filter_operations.specs.CallGives.{CallGives, UnlessNull, has_null}
use Rattle.odata_filter_operations.specs.FunctionGives.{FunctionGives}
use Rattle.odata_filter_operations.specs.Outcome.{Outcome, gives}
use Rattle.odata_filter_operations.specs.FunctionCalls.{Applies, AreArguments, IsArgument}
use Rattle.odata_meaning.proofs.meaning.Ends.{Ends}
use Rattle.odata_meaning.proofs.meaning.FunctionEnds.{function_ends}
use Rattle.odata_meaning.proofs.meaning.Kinds.{number_kind}
use Rattle.odata_meaning.specs.private.LawsBelow.{SomeEach}
use Rattle.odata_meaning.proofs.meaning.TypeValues.{IsOfKind, ValueKind, date_within, dates, moment_within, moments, null_has, null_value, primitive_kind, text_within, texts, wholes}

-- each value is of the type at its index
abbrev pub HaveTypes : Slots → List ExprType → List Val → Type 0
HaveTypes slots [] [] = Unit {0}
HaveTypes slots (type ∷ types) (v ∷ values) = HasType slots type v × HaveTypes slots types values
HaveTypes slots _ _ = ⊥

-- a value of a type is an argument of the kind that takes it
module _ (slots : Slots) where
  text_argument : (v : Val) → IsOfKind texts v → HasType slots (single (primitive PrimitiveType.String)) v → IsArgument ArgumentKind.Text v
  text_argument null is has = tt
  text_argument (text t) is has = text_within slots t has
  text_argument (fields held) is has = absurd is
  text_argument (items vs) is has = absurd is
  text_argument _ is has = absurd (cc)

  date_argument : (v : Val) → IsOfKind dates v → HasType slots (single (primitive PrimitiveType.Date)) v → IsArgument ArgumentKind.DateOrMoment v
  date_argument null is has = tt
  date_argument (date d) is has = date_within slots d has
  date_argument (fields held) is has = absurd is
  date_argument (items vs) is has = absurd is
  date_argument _ is has = absurd (cc)

  moment_argument : (v : Val) → IsOfKind moments v → HasType slots (single (primitive PrimitiveType.DateTimeOffset)) v
      → IsArgument ArgumentKind.Moment v × IsArgument ArgumentKind.DateOrMoment v
  moment_argument null is has = (tt, tt)
  moment_argument (moment m) is has = (moment_within slots m has, moment_within slots m has)
  moment_argument (fields held) is has = absurd is
  moment_argument (items vs) is has = absurd is
  moment_argument _ is has = absurd (cc)

number_argument : (v : Val) → IsOfKind wholes v → IsArgument ArgumentKind.Number v
number_argument null is = tt
number_argument (whole n) is = tt
number_argument (fields held) is = absurd is
number_argument (items vs) is = absurd is
number_argument _ is = absurd (cc)

null_argument : (slots : Slots) (kind : ArgumentKind) (v : Val) → HasType slots null_type v → IsArgument kind v
null_argument slots kind v has = rw (null_value slots v has) tt

of_primitive : (slots : Slots) (p q : PrimitiveType) (v : Val) → p ≡ q → HasType slots (single (primitive p)) v → HasType slots (single (primitive q)) v
of_primitive slots p q v same has = subst (λ (t : PrimitiveType). HasType slots (single (primitive t)) v) same has

text_at : (slots : Slots) (v : Val) → HasType slots (single (primitive PrimitiveType.String)) v → IsArgument ArgumentKind.Text v
text_at slots v has = text_argument slots v (primitive_kind slots PrimitiveType.String v has) has

date_at : (slots : Slots) (v : Val) → HasType slots (single (primitive PrimitiveType.Date)) v → IsArgument ArgumentKind.DateOrMoment v
date_at slots v has = date_argument slots v (primitive_kind slots PrimitiveType.Date v has) has

moment_at : (slots : Slots) (v : Val) → HasType slots (single (primitive PrimitiveType.DateTimeOffset)) v
    → IsArgument ArgumentKind.Moment v × IsArgument ArgumentKind.DateOrMoment v
moment_at slots v has = moment_argument slots v (primitive_kind slots PrimitiveType.DateTimeOffset v has) has

primitive_argument : (slots : Slots) (kind : ArgumentKind) (p : PrimitiveType) (v : Val) → IsArgumentPrimitive kind p → HasType slots (single (primitive p)) v → IsArgument kind v
primitive_argument slots ArgumentKind.Text p v is has = text_at slots v (of_primitive slots p PrimitiveType.String v is has)
primitive_argument slots ArgumentKind.Number p v is has =
    number_argument v (subst (λ (kind : ValueKind). IsOfKind kind v) (number_kind p is) (primitive_kind slots p v has))
primitive_argument slots ArgumentKind.DateOrMoment p v (inl is) has = date_at slots v (of_primitive slots p PrimitiveType.Date v is has)
primitive_argument slots ArgumentKind.DateOrMoment p v (inr is) has = (moment_at slots v (of_primitive slots p PrimitiveType.DateTimeOffset v is has)).1
primitive_argument slots ArgumentKind.Moment p v is has = (moment_at slots v (of_primitive slots p PrimitiveType.DateTimeOffset v is has)).0

argument_of : (slots : Slots) (kind : ArgumentKind) (type : ExprType) (v : Val) → IsArgumentType kind type → HasType slots type v → IsArgument kind v
argument_of slots kind null_type v is has = null_argument slots kind v has
argument_of slots kind (single (primitive p)) v is has = primitive_argument slots kind p v is has
argument_of slots kind _ v is has = absurd is

-- values of types that the kinds allow are of these kinds
pub arguments_of : (slots : Slots) (kinds : List ArgumentKind) (types : List ExprType) (values : List Val)
    → AreArgumentTypes kinds types → HaveTypes slots types values → AreArguments kinds values
arguments_of slots kinds [] [] are have = tt
arguments_of slots (kind ∷ kinds) (type ∷ types) (v ∷ values) are have =
    (argument_of slots kind type v are.0 have.0, arguments_of slots kinds types values are.1 have.1)
arguments_of slots [] (type ∷ types) _ are have = absurd are
arguments_of slots _ _ _ are have = absurd have

as_many : (slots : Slots) (types : List ExprType) (values : List Val) → HaveTypes slots types values → length types ≡ length values
as_many slots [] [] have = refl
as_many slots (type ∷ types) (v ∷ values) have = let rest : length types ≡ length values = as_many slots types values have.1 in omega arith
as_many slots _ _ have = absurd have

-- so the function may be applied to them
pub applies_of : (slots : Slots) (function : Function) (types : List ExprType) (type : ExprType) (values : List Val)
    → FunctionTyped function types type → HaveTypes slots types values → Applies function values
applies_of slots function types type values typed have =
    let same : length types ≡ length values = as_many slots types values have in
    let least : (row_of function).least ≤ length types = typed.count.least in
    record { enough = omega arith; are = arguments_of slots (row_of function).arguments types values typed.arguments have }

unless_ends : (slots : Slots) (type : ExprType) (is_null : Bool) (Gives : Outcome → Type 0) → HasType slots type null
    → (is_null ≡ false → Ends slots type Gives) → Ends slots type (UnlessNull is_null Gives)
unless_ends slots type true Gives null_has ends = (gives null, (refl, null_has))
unless_ends slots type false Gives null_has ends = ends refl

pub call_ends : SomeEach → (slots : Slots) (now : MomentParts) → IsMoment now.civil now.offset_minutes → (function : Function) (types : List ExprType) (type : ExprType) (values : List Val)
    → FunctionTyped function types type → HaveTypes slots types values → Ends slots type (CallGives now function values)
call_ends some slots now is_moment function types type values typed have =
    subst (λ (t : ExprType). Ends slots t (CallGives now function values)) (sym typed.gives)
    (unless_ends slots (single (primitive (row_of function).gives)) (has_null values) (FunctionGives now function values) (null_has slots (single (primitive (row_of function).gives)))
    (λ full. function_ends some slots now is_moment function values full (applies_of slots function types type values typed have)))
