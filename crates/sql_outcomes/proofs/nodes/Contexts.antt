-- The contexts in which ranges and paths are read: what the worlds of a statement are.
use Rattle.sql_outcomes.proofs.Common.{◌≡◌, ℕ, List, map, sym, ap, subst, ◌∙◌, IsMoment, MomentParts, FieldVal, Val, fields, Value, ExprType, single, structured, PropertyModel, SchemaModel, Slots, expanded, properties_at, slots_of, type_name_at, HasType, IsEntity, Row, field_by_name, val_of, value_of, IsFitting, Outcome, AreKeptVariables, IsKept, AreEntitiesKept, HoldsRange, IsContextOf, CheckContext, IsWithin, Range, ComesKept, tree_kept, IsAskedOf, OfPlace, Question, World, means_of}
use Rattle.serde_json.specs.Data.{Data}
use Rattle.odata_expansion.specs.ExpansionView.{paths_in}
use Rattle.odata_expansion.specs.PathSet.{PathSet}
use Rattle.edm_entities.specs.Fits.{Fits}
use Rattle.edm_entities.proofs.SlotLemmas.ReadEntities.{val_of-Record}
use Rattle.sql_outcomes.proofs.nodes.MemberWorlds.{PathsAreKept}

-- an entity is a record of its type
abbrev pub AreEntitiesRecords : Type 0
AreEntitiesRecords =
    (row : Row) → IsEntity row → ((held : List ℕ → FieldVal) × (value_of row ≡ fields held))
    × HasType (slots_of row.schema) (single (structured (type_name_at row.schema row.type_id))) (value_of row)

pub entities_are_records : ((row : Row) → IsEntity row → HasType (slots_of row.schema) (single (structured (type_name_at row.schema row.type_id))) (value_of row)) → AreEntitiesRecords
entities_are_records typed row entity =
    let slots : Slots = slots_of row.schema in
    let properties : List PropertyModel = properties_at row.schema row.type_id in
    let type : ExprType = single (structured (type_name_at row.schema row.type_id)) in (
      (
        field_by_name slots.properties properties (map val_of entity.holds_slots.slots.items),
        ap (λ (v : Value). val_of v slots.properties type) entity.holds_slots.value_is ∙ val_of-Record slots type entity.holds_slots.slots,
      ),
      typed row entity,
    )

-- as what fits has its type
abbrev pub WhatFits : Type 0
WhatFits =
    (slots : Slots) (expansion : PathSet) (type_name : List ℕ) (json : Data) (v : Val) → Fits (expanded slots expansion) type_name json v
    → HasType slots (single (structured type_name)) v

pub entities_typed : WhatFits → AreEntitiesRecords
entities_typed fits =
    entities_are_records (λ row entity.
    fits (slots_of row.schema) (paths_in row.expansion) (type_name_at row.schema row.type_id) entity.conforms.0 (value_of row) entity.conforms.1)

abbrev pub context_of : World → CheckContext
context_of world = record { now = world.now; entity = value_of world.row; environment = world.environment }

module _ (question : Question) (is_moment : IsMoment question.now.civil question.now.offset_minutes) (records : AreEntitiesRecords) (entities : AreEntitiesKept) (world : World) (seen : IsAskedOf question world) where
  -- what is said of the row's own schema and type is said of the filter's
  to_filter : (P : SchemaModel → ℕ → Type 0) → P world.row.schema world.row.type_id → P question.filter.schema question.filter.filtered
  to_filter P held = subst (λ (n : ℕ). P question.filter.schema n) seen.row_is.type_is (subst (λ (s : SchemaModel). P s world.row.type_id) seen.row_is.schema_is held)

  pub is_context : IsContextOf question.filter (context_of world)
  is_context =
      let r = records world.row seen.row_is.entity in
      record {
        moment = subst (λ (m : MomentParts). IsMoment m.civil m.offset_minutes) (sym seen.moment_is) is_moment;
        held = r.0.0;
        is_record = r.0.1;
        typed = to_filter (λ s n. HasType (slots_of s) (single (structured (type_name_at s n))) (value_of world.row)) r.1;
        kept =
            to_filter (λ s n. IsKept (slots_of s) (single (structured (type_name_at s n))) (value_of world.row)) (entities world.row seen.row_is.entity seen.row_is.storable);
        fitting = to_filter (λ s n. IsFitting (slots_of s) world.environment) seen.fitting;
        variables = to_filter (λ s n. AreKeptVariables (slots_of s) world.environment) seen.kept;
      }

  -- so a range holds what its node evaluates to
  pub range_holds : (place : ℕ) (range : Range) → HoldsRange question.filter place range → (o : Outcome) → OfPlace question.filter place world o → IsWithin range o
  range_holds place range holds o has = holds (context_of world) has.0 has.1.stop o is_context has.1.stands (means_of question world seen has.0 o has.2)

-- and paths evaluate to values as rows keep them
pub paths_are_kept : (question : Question) → IsMoment question.now.civil question.now.offset_minutes → AreEntitiesRecords → AreEntitiesKept → PathsAreKept question
paths_are_kept question is_moment records entities world seen tree type o path typed means =
    subst (λ (s : SchemaModel). ComesKept (slots_of s) type o) (sym seen.row_is.schema_is)
    (tree_kept question.filter (context_of world) (is_context question is_moment records entities world seen) tree type o path typed means)

pub paths_by_laws : (question : Question) → IsMoment question.now.civil question.now.offset_minutes → WhatFits → AreEntitiesKept → PathsAreKept question
paths_by_laws question is_moment fits entities = paths_are_kept question is_moment (entities_typed fits) entities
