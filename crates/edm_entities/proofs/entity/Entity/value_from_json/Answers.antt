use Rattle.std.proofs.Common.{List, IsSome, Some, refl}
use Rattle.serde_json.specs.Data.{Data, Members, null, boolean, number, string, array, object}
use Rattle.serde_json.specs.Find.{as_object}
use Rattle.serde_json.specs.View.{view}
use Rattle.csdl_schema.specs.SchemaModel.{PropertyModel, Slots, properties_at}
use Rattle.edm_values.specs.declared.value.Value.{Value}
use Rattle.edm_row_plans.specs.Expanded.{slots_at}
use Rattle.edm_entities.specs.private.Walk.{FitSlots}
use Rattle.edm_entities.proofs.entity.Entity.value_from_json.Goals as goal

members_fit : (slots : Slots) (json : Data) (properties : List PropertyModel) (values : List Value) → IsSome (as_object json)
    → FitSlots slots json properties values → (kept : Members) × FitSlots slots (object kept) properties values
members_fit slots null properties values some fits = absurd (cc)
members_fit slots (boolean b) properties values some fits = absurd (cc)
members_fit slots (number n) properties values some fits = absurd (cc)
members_fit slots (string s) properties values some fits = absurd (cc)
members_fit slots (array ds) properties values some fits = absurd (cc)
members_fit slots (object kept) properties values some fits = (kept, fits)

pub returns : goal.returns
returns c = (
  c.in-Ok.values,
  refl,
  members_fit (slots_at c.args.schema.now c.args.expansion.now (Some 0)) (view c.args.row.now) (properties_at c.args.schema.now c.args.type_id) c.in-Ok.values.items
      c.in-Ok.ensures.object c.in-Ok.ensures.fits,
)
