-- What the walk answers at a node, from what it found of the operands.
use Rattle.std.proofs.Common.{◌≡◌, ◌∙◌, ℕ, Some, Ok, ap, sym, subst}
use Rattle.edm_values.specs.Val.{Val}
use Rattle.edm_values.specs.declared.datum.Datum.{Datum}
use Rattle.edm_values.specs.declared.value.Value.{Value}
use Rattle.odata_syntax.specs.Tree.{Tree}
use Rattle.csdl_schema.specs.ExprType.{ExprType}
use Rattle.csdl_schema.specs.SchemaModel.{slots_of}
use Rattle.edm_entities.specs.HasType.{HasType}
use Rattle.edm_entities.specs.Row.{val_of}
use Rattle.odata_functions.specs.DatumVal.{Reading, datum_val}
use Rattle.odata_meaning.specs.EndsOnce.{IsOutcomeOf}
use Rattle.odata_filter_operations.specs.Outcome.{Outcome, gives}
use Rattle.odata_filter_operations.specs.DatumView.{IsDatumOf, reading_at}
use Rattle.filter_context.specs.private.Place.{TypedStands}
use Rattle.filter_context.specs.private.EvalContext.{EndsOnceHere, MeansHere, TypedHere}
use Rattle.filter_context.specs.private.ContextModel.{ContextModel}
use Rattle.odata_eval.specs.private.WalkAnswer.{AnswersDatum, AnswersKept}
use Rattle.filter_context.specs.private.AnswersAtPlace.{AnswersAtPlace}
use Rattle.odata_eval.proofs.walking.Readings.{PlainValues, value_read}

-- what a tree evaluates to is of its type
pub value_has : (context : ContextModel) → EndsOnceHere context
    → (tree : Tree) (type : ExprType) (v : Val) → TypedHere context tree type → MeansHere context tree (gives v) → HasType (slots_of context.row.schema) type v
value_has context ends tree type v typed related =
    let e = ends tree type typed in
    subst (λ (o : Outcome). IsOutcomeOf (slots_of context.row.schema) type o) (sym (e.only (gives v) related)) e.of_type

module _ (context : ContextModel) (place : ℕ) where
  -- an answer is one by any other name
  pub same_values : (v w : ExprType → Val) → ((type : ExprType) → v type ≡ w type)
      → AnswersAtPlace context place (λ type. Some (gives (v type))) → AnswersAtPlace context place (λ type. Some (gives (w type)))
  same_values v w same answers = record {
    of_tree = λ stop tree type stands typed. subst (λ (u : Val). MeansHere context tree (gives u)) (same type) (answers.of_tree stop tree type stands typed);
    of_number = λ number stop tree type there. ap (λ (u : Val). Some (gives u)) (sym (same type)) ∙ answers.of_number number stop tree type there;
  }

  -- a stored value, as it is passed on
  pub kept_datum : (value : Value) (made : Datum) → AnswersKept context place value → IsDatumOf value made → AnswersDatum context place (Ok made)
  kept_datum value made kept same =
      let slots = slots_of context.row.schema in
      same_values (val_of value slots.properties) (λ type. datum_val (reading_at slots type) made) (λ type. sym (same slots type)) kept

  -- what is made stands for one value under each reading, and back
  pub read_value : (made : Datum) (v : Val) → AnswersDatum context place (Ok made) → ((reading : Reading) → datum_val reading made ≡ v)
      → AnswersAtPlace context place (λ type. Some (gives v))
  read_value made v answers same =
      let slots = slots_of context.row.schema in
      same_values (λ type. datum_val (reading_at slots type) made) (λ type. v) (λ type. same (reading_at slots type)) answers

  pub made_value : (made : Datum) (v : Val) → AnswersAtPlace context place (λ type. Some (gives v)) → ((reading : Reading) → datum_val reading made ≡ v)
      → AnswersDatum context place (Ok made)
  made_value made v answers same =
      let slots = slots_of context.row.schema in
      same_values (λ type. v) (λ type. datum_val (reading_at slots type) made) (λ type. sym (same (reading_at slots type))) answers

  -- a value that the type of its node allows, and so what is made, under each reading
  pub typed_value : (v : ExprType → Val) → AnswersAtPlace context place (λ type. Some (gives (v type)))
      → {Held : Type 0} (values : PlainValues Held) → EndsOnceHere context → (stands : TypedStands context place values.Allowed)
      → (held : Held) × (v stands.type_of ≡ values.val held)
  typed_value v answers values ends stands =
      values.has (slots_of context.row.schema) stands.type_of (v stands.type_of) stands.allowed
      (value_has context ends stands.tree stands.type_of (v stands.type_of) stands.typed
      (answers.of_tree stands.stop stands.tree stands.type_of stands.stands stands.typed))

  pub value_there : {Held : Type 0} (values : PlainValues Held) → EndsOnceHere context → (made : Datum) → TypedStands context place values.Allowed
      → AnswersDatum context place (Ok made) → (reading : Reading) → (held : Held) × (datum_val reading made ≡ values.val held)
  value_there values ends made stands answers reading =
      let slots = slots_of context.row.schema in
      let held = typed_value (λ type. datum_val (reading_at slots type) made) answers values ends stands in
      (held.0, value_read (reading_at slots stands.type_of) reading made (values.val held.0) (values.plain held.0) held.1)
