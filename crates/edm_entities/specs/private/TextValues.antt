-- For private clauses: the values that are read from a text.
use Rattle.std.specs.Prelude.{ℕ, List, IsSome, Some}
use Rattle.serde_json.specs.Data.{Data}
use Rattle.serde_json.specs.Find.{as_object}
use Rattle.csdl_schema.specs.JsonText.{IsJsonOf}
use Rattle.csdl_schema.specs.SchemaModel.{HasDistinctNames, properties_at}
use Rattle.edm_row_plans.specs.declared.expansion_node.WalkContext.{WalkContext}
use Rattle.edm_values.specs.declared.value.Value.{Value}
use Rattle.edm_entities.specs.private.Walk.{FitSlots, slots_in}

-- the text is that of a JSON object, which the values of the type's properties fit
pub record AreValuesOf (context : WalkContext) (type : ℕ) (text : List ℕ) (values : List Value) : Type 0 where
  pub json : Data
  pub is_json : IsJsonOf text json
  pub is_object : IsSome (as_object json)
  pub distinct : HasDistinctNames (properties_at context.schema.now type)
  pub fit : FitSlots (slots_in context (Some 0)) json (properties_at context.schema.now type) values
