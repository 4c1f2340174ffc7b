-- Values that are kept: a truth value, a number or null is known by what it stands for.
use Rattle.std.proofs.Common.{◌≡◌, ◌∙◌, ℕ, List, Some, ap, refl, sym, subst}
use Rattle.std.specs.Prelude.{string_bytes}
use Rattle.edm_values.specs.PlainVal.{plain_val}
use Rattle.edm_values.specs.Val.{Val, null, boolean, whole, text, date, moment, guid, member, fields, items, FieldVal, absent, Vals, no_items}
use Rattle.edm_values.specs.declared.value.Value.{Value, Null, Bool as BoolValue, Int, Text, Date, Moment, Guid, Enum, Record', Sparse', List', fold_out-Value}
use Rattle.edm_values.specs.declared.value.Value as views
use Rattle.csdl_schema.specs.ExprType.{ExprType, null_type, single, collection, primitive, enumeration, structured}
use Rattle.csdl_schema.specs.SchemaModel.{Slots, slots_of}
use Rattle.edm_entities.specs.Row.{ValAtType, val_of, val_step}
use Rattle.odata_functions.specs.KeptVal.{Contents, kept_val}
use Rattle.odata_filter_operations.specs.Outcome.{gives}
use Rattle.filter_context.specs.private.Place.{TypedStands}
use Rattle.filter_context.specs.private.EvalContext.{EndsOnceHere}
use Rattle.filter_context.specs.private.ContextModel.{ContextModel}
use Rattle.odata_eval.specs.private.WalkAnswer.{AnswersKept}
use Rattle.filter_context.specs.private.AnswersAtPlace.{AnswersAtPlace}
use Rattle.odata_eval.proofs.walking.Leaves.{plain_is}
use Rattle.odata_eval.proofs.walking.Readings.{IsPlain, PlainValues}
use Rattle.odata_eval.proofs.walking.WalkValues.{same_values, typed_value}

-- a record and a list, with what they hold
record_kept : (slots : Slots) (type : ExprType) (shape : _) (all : _) → (names : List ℕ → FieldVal) × (val_of (Record' shape all) slots.properties type ≡ fields names)
unfolding views.out-Value denote.Hole.Carrier.out
record_kept slots null_type shape all = (_, ap (λ (f : ValAtType). f slots.properties null_type) (fold_out-Value ValAtType val_step (Record' shape all)))
record_kept slots (single (primitive p)) shape all = (_, ap (λ (f : ValAtType). f slots.properties (single (primitive p))) (fold_out-Value ValAtType val_step (Record' shape all)))
record_kept slots (single (enumeration name)) shape all = (_, ap (λ (f : ValAtType). f slots.properties (single (enumeration name))) (fold_out-Value ValAtType val_step (Record' shape all)))
record_kept slots (single (structured name)) shape all = (_, ap (λ (f : ValAtType). f slots.properties (single (structured name))) (fold_out-Value ValAtType val_step (Record' shape all)))
record_kept slots (collection t) shape all = (_, ap (λ (f : ValAtType). f slots.properties (collection t)) (fold_out-Value ValAtType val_step (Record' shape all)))

sparse_kept : (slots : Slots) (type : ExprType) (shape : _) (all : _) → (names : List ℕ → FieldVal) × (val_of (Sparse' shape all) slots.properties type ≡ fields names)
unfolding views.out-Value denote.Hole.Carrier.out
sparse_kept slots null_type shape all = (_, ap (λ (f : ValAtType). f slots.properties null_type) (fold_out-Value ValAtType val_step (Sparse' shape all)))
sparse_kept slots (single (primitive p)) shape all = (_, ap (λ (f : ValAtType). f slots.properties (single (primitive p))) (fold_out-Value ValAtType val_step (Sparse' shape all)))
sparse_kept slots (single (enumeration name)) shape all = (_, ap (λ (f : ValAtType). f slots.properties (single (enumeration name))) (fold_out-Value ValAtType val_step (Sparse' shape all)))
sparse_kept slots (single (structured name)) shape all = (_, ap (λ (f : ValAtType). f slots.properties (single (structured name))) (fold_out-Value ValAtType val_step (Sparse' shape all)))
sparse_kept slots (collection t) shape all = (_, ap (λ (f : ValAtType). f slots.properties (collection t)) (fold_out-Value ValAtType val_step (Sparse' shape all)))

list_kept : (slots : Slots) (type : ExprType) (shape : _) (all : _) → (held : Vals) × (val_of (List' shape all) slots.properties type ≡ items held)
unfolding views.out-Value denote.Hole.Carrier.out
list_kept slots null_type shape all = (_, ap (λ (f : ValAtType). f slots.properties null_type) (fold_out-Value ValAtType val_step (List' shape all)))
list_kept slots (single t) shape all = (_, ap (λ (f : ValAtType). f slots.properties (single t)) (fold_out-Value ValAtType val_step (List' shape all)))
list_kept slots (collection t) shape all = (_, ap (λ (f : ValAtType). f slots.properties (collection t)) (fold_out-Value ValAtType val_step (List' shape all)))

-- what a stored value stands for, with its contents
without : Contents
without = record { fields_are = λ name. absent; items_are = no_items }

pub kept_contents : (slots : Slots) (type : ExprType) (value : Value) → (contents : Contents) × (val_of value slots.properties type ≡ kept_val contents value)
kept_contents slots type Null = (without, plain_is slots type Null null refl)
kept_contents slots type (BoolValue b) = (without, plain_is slots type (BoolValue b) (boolean b) refl)
kept_contents slots type (Int n) = (without, plain_is slots type (Int n) (whole n) refl)
kept_contents slots type (Text s) = (without, plain_is slots type (Text s) (text (string_bytes s)) refl)
kept_contents slots type (Date d) = (without, plain_is slots type (Date d) (date d) refl)
kept_contents slots type (Moment m) = (without, plain_is slots type (Moment m) (moment m) refl)
kept_contents slots type (Guid g) = (without, plain_is slots type (Guid g) (guid g) refl)
kept_contents slots type (Enum n) = (without, plain_is slots type (Enum n) (member n) refl)
kept_contents slots type (Record' shape all) =
    let names = record_kept slots type shape all in
    (record { fields_are = names.0; items_are = no_items }, names.1)
kept_contents slots type (Sparse' shape all) =
    let names = sparse_kept slots type shape all in
    (record { fields_are = names.0; items_are = no_items }, names.1)
kept_contents slots type (List' shape all) =
    let held = list_kept slots type shape all in
    (record { fields_are = λ name. absent; items_are = held.0 }, held.1)

-- a fact of two stored values whatever they hold is one at their types, and one at their types is one of some contents
pub at_types : (P : Val → Val → Type 0) (slots : Slots) (s t : ExprType) (left right : Value) → ((q m : Contents) → P (kept_val q left) (kept_val m right))
    → P (val_of left slots.properties s) (val_of right slots.properties t)
at_types P slots s t left right all =
    let l = kept_contents slots s left in
    let r = kept_contents slots t right in
    subst (λ (v : Val). P v (val_of right slots.properties t)) (sym l.1) (subst (λ (w : Val). P (kept_val l.0 left) w) (sym r.1) (all l.0 r.0))

pub at_contents : (P : Val → Val → Type 0) (slots : Slots) (s t : ExprType) (left right : Value) → P (val_of left slots.properties s) (val_of right slots.properties t)
    → (l : Contents) × (r : Contents) × P (kept_val l left) (kept_val r right)
at_contents P slots s t left right is =
    let l = kept_contents slots s left in
    let r = kept_contents slots t right in
    (l.0, r.0, subst (λ (w : Val). P (kept_val l.0 left) w) r.1 (subst (λ (v : Val). P v (val_of right slots.properties t)) l.1 is))

-- so a value that stands for one without parts is that one
plain_contents : (contents : Contents) (value : Value) (v : Val) → IsPlain v → kept_val contents value ≡ v → plain_val value ≡ Some v
plain_contents contents (Record' shape all) v plain is = absurd (subst IsPlain (sym is) plain)
plain_contents contents (Sparse' shape all) v plain is = absurd (subst IsPlain (sym is) plain)
plain_contents contents (List' shape all) v plain is = absurd (subst IsPlain (sym is) plain)
plain_contents contents _ v plain is = ap Some is

module _ (context : ContextModel) (place : ℕ) (value : Value) (kept : AnswersKept context place value) where
  -- as what a truth value or a number is kept, where the node's type allows these
  pub value_kept : {Held : Type 0} (values : PlainValues Held) → EndsOnceHere context → TypedStands context place values.Allowed
      → (held : Held) × (plain_val value ≡ Some (values.val held))
  value_kept values ends stands =
      let slots = slots_of context.row.schema in
      let contents = kept_contents slots stands.type_of value in
      let held = typed_value context place (val_of value slots.properties) kept values ends stands in
      (held.0, plain_contents contents.0 value (values.val held.0) (values.plain held.0) (sym contents.1 ∙ held.1))

  -- a value without parts is the outcome itself
  pub kept_value : (v : Val) → plain_val value ≡ Some v → AnswersAtPlace context place (λ type. Some (gives v))
  kept_value v is = same_values context place (val_of value (slots_of context.row.schema).properties) (λ type. v) (λ type. plain_is (slots_of context.row.schema) type value v is) kept
