-- What a step to a property evaluates to.
use Rattle.std.proofs.Common.{◌≡◌, ℕ, ◌<◌, ◌+◌, Bor, List, Some, Ok, arith, length, map, refl, sym, subst}
use Rattle.std.specs.Prelude.{slice_get}
use Rattle.edm_values.specs.Val.{Val, fields}
use Rattle.edm_values.specs.declared.datum.Datum.{Datum}
use Rattle.edm_values.specs.declared.datum.Datum.TheVariants as datum
use Rattle.edm_values.specs.Sparse.{beside, by_slot}
use Rattle.edm_values.specs.declared.value.Value.{Value, Null}
use Rattle.odata_syntax.specs.Tree.{member}
use Rattle.csdl_schema.specs.ExprType.{ExprType, single, structured}
use Rattle.csdl_schema.specs.SchemaModel.{Slots, slot_named, slots_of, type_name_at}
use Rattle.edm_entities.specs.HasType.{HasType}
use Rattle.edm_entities.specs.Row.{field_by_name, val_of}
use Rattle.odata_functions.specs.DatumVal.{datum_val}
use Rattle.odata_checked_filter.specs.declared.checked_node.NodeKind.{NodeKind}
use Rattle.odata_signatures.specs.Laws.{OneType}
use Rattle.odata_signatures.specs.TypeView.{expr_type}
use Rattle.odata_signatures.specs.Typed.{PropertyTyped, StepTyped}
use Rattle.odata_meaning.specs.NameGives.{StepGives}
use Rattle.odata_meaning.specs.Environment.{scope_of}
use Rattle.odata_filter_operations.specs.Outcome.{gives}
use Rattle.odata_filter_operations.specs.DatumView.{HasSlot, IsDatumOf, IsStepOf, reading_at}
use Rattle.filter_context.specs.private.Place.{HasKind, PartStands}
use Rattle.filter_context.specs.private.EvalContext.{EndsOnceHere, MeansHere, TypedHere}
use Rattle.filter_context.specs.private.ContextModel.{ContextModel, environment_of}
use Rattle.odata_eval.specs.private.WalkAnswer.{AnswersDatum, AnswersKept}
use Rattle.odata_meaning.proofs.meaning.Progress.{field_gives}
use Rattle.odata_meaning.proofs.meaning.TypeValues.{held_present}
use Rattle.filter_context.proofs.Children.{only_child}
use Rattle.filter_context.proofs.Operands.{no_number}
use Rattle.filter_context.proofs.Parts.{by_kind, kind_there, some_there}
use Rattle.odata_eval.proofs.walking.SlotValue.{field_at, found_slot, named_within, slot_beside, slot_within}
use Rattle.odata_eval.proofs.walking.WalkValues.{value_has}

slot_in : (slots : Slots) (name asked : List ℕ) (slot : ℕ) (type : ExprType) (made : Datum)
    → slot_named (slots.properties name) asked ≡ Some slot → PropertyTyped (slots.properties name) asked type
    → HasType slots (single (structured name)) (datum_val (reading_at slots (single (structured name))) made) → HasSlot made slot
slot_in slots name asked slot type datum.Null named typed has = tt
slot_in slots name asked slot type (datum.Record held) named typed has =
    let there = held_present slots asked type (slots.properties name) (field_by_name slots.properties (slots.properties name) (map val_of held.now)) has typed in
    subst (λ (k : ℕ). k < length held.now) (found_slot _ _ slot named)
    (slot_within slots asked type (slots.properties name) held.now typed there.0 there.1.0)
slot_in slots name asked slot type (datum.Sparse held) named typed has = tt
slot_in slots name asked slot type _ named typed has = absurd has

step_gives : (slots : Slots) (name asked : List ℕ) (slot : ℕ) (type : ExprType) (made stepped : Datum)
    → slot_named (slots.properties name) asked ≡ Some slot → PropertyTyped (slots.properties name) asked type → IsStepOf made slot stepped
    → StepGives (datum_val (reading_at slots (single (structured name))) made) asked (gives (datum_val (reading_at slots type) stepped))
step_gives slots name asked slot type datum.Null stepped named typed is = rw is refl
step_gives slots name asked slot type (datum.Record held) stepped named typed is =
    let there = some_there (λ value. IsDatumOf value stepped) (slice_get held.now slot) is in
    let here = field_at slots (slots.properties name) asked slot type held.now there.0 named typed there.1.0 in
    subst (λ (v : Val). StepGives (fields (field_by_name slots.properties (slots.properties name) (map val_of held.now))) asked (gives v)) (sym (there.1.1 slots type))
    (field_gives (field_by_name slots.properties (slots.properties name) (map val_of held.now)) asked (val_of there.0 slots.properties type) here)
step_gives slots name asked slot type (datum.Sparse held) stepped named typed is =
    let properties = slots.properties name in
    let values = by_slot Null held.now 0 (length properties) in
    let here = field_at slots properties asked slot type values (beside Null held.now slot) named typed (slot_beside held.now 0 (length properties) slot slot (omega arith) (named_within asked properties slot named)) in
    subst (λ (v : Val). StepGives (fields (field_by_name slots.properties properties (map val_of values))) asked (gives v)) (sym (is slots type))
    (field_gives (field_by_name slots.properties properties (map val_of values)) asked (val_of (beside Null held.now slot) slots.properties type) here)
step_gives slots name asked slot type _ stepped named typed is = absurd is

-- what a kept record holds in the slot
step_held : (slots : Slots) (name asked : List ℕ) (slot : ℕ) (type : ExprType) (held : Bor (List Value)) (v : Value)
    → slot_named (slots.properties name) asked ≡ Some slot → PropertyTyped (slots.properties name) asked type → slice_get held.now slot ≡ Some v
    → StepGives (datum_val (reading_at slots (single (structured name))) (datum.Record held)) asked (gives (val_of v slots.properties type))
step_held slots name asked slot type held v named typed at =
    field_gives (field_by_name slots.properties (slots.properties name) (map val_of held.now)) asked (val_of v slots.properties type)
    (field_at slots (slots.properties name) asked slot type held.now v named typed at)

pub kept_step : OneType → (context : ContextModel) (place slot : ℕ) → HasKind context.list place (NodeKind.Member slot) → (held : Bor (List Value)) (v : Value)
    → AnswersDatum context (place + 1) (Ok (datum.Record held)) → slice_get held.now slot ≡ Some v → AnswersKept context place v
kept_step types context place slot here held v first at = record {
  of_tree = λ stop tree type stands typed.
      by_kind context place (NodeKind.Member slot) here (λ stop tree. (t : ExprType) → TypedHere context tree t → MeansHere context tree (gives (val_of v (slots_of context.row.schema).properties t)))
      (λ base asked stop from to stands t typed.
      let slots = slots_of context.row.schema in
      let root = type_name_at context.row.schema context.row.type_id in
      let there = kind_there context place (NodeKind.Member slot) here stop from to (member base asked) stands in
      let same : typed.operand ≡ single (structured there.0) = types slots root (scope_of (environment_of context)) base typed.operand (single (structured there.0)) typed.operand_typed there.1 in (
        gives (datum_val (reading_at slots (single (structured there.0))) (datum.Record held)),
        (
          first.of_tree stop base (single (structured there.0)) (only_child context (place + 1) stop base stands.children) there.1,
          step_held slots there.0 asked slot t held v there.2 (subst (λ (s : ExprType). StepTyped slots asked s t) same typed.makes) at,
        ),
      ))
      stop tree stands type typed;
  of_number = λ number stop tree type there. absurd (no_number context place (NodeKind.Member slot) tt here number stop tree there);
}

module _ (types : OneType) (context : ContextModel) (ends : EndsOnceHere context) (place slot : ℕ) (here : HasKind context.list place (NodeKind.Member slot)) where
  pub step_slot : (made : Datum) → PartStands context place → AnswersDatum context (place + 1) (Ok made) → HasSlot made slot
  step_slot made part first =
      by_kind context place (NodeKind.Member slot) here (λ stop tree. HasSlot made slot)
      (λ base asked stop from to stands.
      let slots = slots_of context.row.schema in
      let root = type_name_at context.row.schema context.row.type_id in
      let there = kind_there context place (NodeKind.Member slot) here stop from to (member base asked) stands in
      let typed = stands.top.typed in
      let same : typed.operand ≡ single (structured there.0) = types slots root (scope_of (environment_of context)) base typed.operand (single (structured there.0)) typed.operand_typed there.1 in
      slot_in slots there.0 asked slot (expr_type context.row.schema stands.top.found.edm_type) made there.2
      (subst (λ (t : ExprType). StepTyped slots asked t (expr_type context.row.schema stands.top.found.edm_type)) same typed.makes)
      (value_has context ends base (single (structured there.0)) (datum_val (reading_at slots (single (structured there.0))) made) there.1 (first.of_tree stop base (single (structured there.0)) (only_child context (place + 1) stop base stands.children) there.1)))
      part.stop part.tree part.stands

  pub step_answers : (made stepped : Datum) → AnswersDatum context (place + 1) (Ok made) → IsStepOf made slot stepped → AnswersDatum context place (Ok stepped)
  step_answers made stepped first is = record {
    of_tree = λ stop tree type stands typed.
        by_kind context place (NodeKind.Member slot) here (λ stop tree. (t : ExprType) → TypedHere context tree t → MeansHere context tree (gives (datum_val (reading_at (slots_of context.row.schema) t) stepped)))
        (λ base asked stop from to stands t typed.
        let slots = slots_of context.row.schema in
        let root = type_name_at context.row.schema context.row.type_id in
        let there = kind_there context place (NodeKind.Member slot) here stop from to (member base asked) stands in
        let same : typed.operand ≡ single (structured there.0) = types slots root (scope_of (environment_of context)) base typed.operand (single (structured there.0)) typed.operand_typed there.1 in (
          gives (datum_val (reading_at slots (single (structured there.0))) made),
          (
            first.of_tree stop base (single (structured there.0)) (only_child context (place + 1) stop base stands.children) there.1,
            step_gives slots there.0 asked slot t made stepped there.2 (subst (λ (s : ExprType). StepTyped slots asked s t) same typed.makes) is,
          ),
        ))
        stop tree stands type typed;
    of_number = λ number stop tree type there. absurd (no_number context place (NodeKind.Member slot) tt here number stop tree there);
  }
