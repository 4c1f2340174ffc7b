-- For private clauses: the row that is held from line to line.
use Rattle.std.specs.Prelude.{◌≡◌, ◌≢◌, ◌⊎◌, ◌+◌, ◌≤◌, ℕ, length, List, [], ◌∷◌, true, false, Some, IfSome, map, slice_get, Bool, Vec}
use Rattle.std.specs.declared.alloc.Global.{Global}
use Rattle.serde_json.specs.Data.{Members, object}
use Rattle.json_room.specs.LexemesAt.{PassesSpaces}
use Rattle.csdl_schema.specs.ExpansionView.{StepModel}
use Rattle.csdl_schema.specs.SchemaModel.{SchemaModel, properties_at}
use Rattle.edm_row_plans.specs.Expanded.{slots_at}
use Rattle.edm_row_plans.specs.Plans.{IsPlanOf}
use Rattle.edm_row_plans.specs.declared.row_plan.RowPlan.{RowPlan}
use Rattle.edm_row_plans.specs.declared.type_plan.TypePlan.{TypePlan}
use Rattle.edm_rows.specs.private.Passed.{IsRowValue}
use Rattle.edm_rows.specs.HeldSchema.{schema_in}
use Rattle.json_room.specs.ValueStands.{ValueStands}
use Rattle.edm_rows.specs.RowItems.{IsJsonBut, IsJsonLeftOut}
use Rattle.edm_rows.specs.RowsOfType.{RowsOfType, TypeMarks, names_unkept, row_held}
use Rattle.edm_values.specs.declared.sieve.Sieve.{Sieve}
use Rattle.edm_values.specs.declared.value.Value.{Value, Record}
use Rattle.edm_rows.specs.declared.kept_leaf.Taken.{Taken}
use Rattle.edm_rows.specs.declared.kept_leaf.Taken.TheVariants.{Broken, Nothing, Put, Rejected}
use Rattle.edm_rows.specs.declared.passed_value.ReadContext.{ReadContext}
use Rattle.edm_rows.specs.private.KeptRows.{TakesFound, TakesRow}
use Rattle.edm_rows.specs.declared.row_types.RowSlot.{RowSlot}
use Rattle.edm_rows.specs.declared.row_types.RowType.{RowType}
use Rattle.edm_rows.specs.declared.type_rows.TypeRows.TheInside.{Inside}
use Rattle.edm_rows.specs.private.LookedUp.{AreKnown}
use Rattle.edm_rows.specs.private.RowSlots.{AreRowTypes, IsRowType}

-- the slots of the row's own type, which is the first
abbrev pub first_slots : List RowType → List RowSlot
first_slots [] = []
first_slots (type ∷ types) = type.slots.items

-- by slot of a type, whether its values are kept, and its sieve
abbrev pub keeps_of : RowType → List Bool
keeps_of type = map (λ s. s.is_kept) type.slots.items

abbrev pub sieves_of : RowType → List Sieve
sieves_of type = map (λ s. s.sieve) type.slots.items

-- the marks of a type, and of each of these
abbrev pub marks_at : RowType → TypeMarks
marks_at type = record { type_id = type.type_id; kept = keeps_of type }

abbrev pub marks_of : List RowType → List TypeMarks
marks_of types = map marks_at types

-- each of these types keeps all its slots
abbrev pub AreKept : List RowType → Type 0
AreKept types =
    (place : ℕ) → IfSome (slice_get types place) (λ t. (slot : ℕ) → slice_get (keeps_of t) slot ≢ Some false)

-- of a type's slots at most what is kept and the sieves are others: it stays the type of its plan
pub record IsSameType (old new : RowType) : Type 0 where
  pub type_id : new.type_id ≡ old.type_id
  pub node : new.node ≡ old.node
  pub stays : (schema : SchemaModel) (steps : List StepModel) (plans : List TypePlan) (plan : TypePlan)
      → IsRowType schema steps plans plan old → IsRowType schema steps plans plan new

-- the same of each of these types
abbrev pub AreSameTypes : List RowType → List RowType → Type 0
AreSameTypes [] [] = Unit {0}
AreSameTypes (old ∷ olds) (new ∷ news) = IsSameType old new × AreSameTypes olds news
AreSameTypes _ _ = ⊥

abbrev pub rows_seen : Inside → RowsOfType
rows_seen rows = record {
  schema = schema_in rows.schema;
  type_id = rows.plan.type_id;
  expansion = rows.plan.expansion;
  is_whole = rows.plan.is_whole;
  kept = marks_of rows.types.items;
  sieves = map (λ s. s.sieve) (first_slots rows.types.items);
  is_ready = rows.is_ready;
  value = rows.row;
}

-- the first of these types is that of rows by a plan
pub record HasFirstType (plan : RowPlan) (types : List RowType) : Type 0 where
  pub type : RowType
  pub at : slice_get types 0 ≡ Some type
  pub type_id : type.type_id ≡ plan.type_id
  pub node : type.node ≡ Some 0

-- the types are those of a plan, which is whole, and the first is that of its rows
pub record AreTypesOf (schema : SchemaModel) (plan : RowPlan) (types : List RowType) : Type 0 where
  pub is_whole : plan.is_whole ≡ true
  pub each : AreRowTypes schema plan.expansion plan.plans.items types
  pub first : HasFirstType plan types

-- the types, if there are some, are those of the plan; once the reader is ready there are some, and the row is one
pub record IsRowsOfType (rows : Inside) : Type 0 where
  pub is_plan : IsPlanOf (schema_in rows.schema) rows.plan
  pub types : (rows.types.items ≡ []) ⊎ AreTypesOf (schema_in rows.schema) rows.plan rows.types.items
  pub known : AreKnown (schema_in rows.schema) rows.known
  pub ready : rows.is_ready ≡ true
      → AreTypesOf (schema_in rows.schema) rows.plan rows.types.items
      × IsRowValue (slots_at (schema_in rows.schema) rows.plan.expansion (Some 0))
      (properties_at (schema_in rows.schema) rows.plan.type_id) rows.row

-- what was taken of a line ends within it
abbrev pub IsTakenWithin : List ℕ → Taken → Type 0
IsTakenWithin line (Put to) = to ≤ length line
IsTakenWithin line (Rejected to) = to ≤ length line
IsTakenWithin line _ = Unit {0}

-- and nothing but white space stands after it
abbrev pub IsTakenWhole : List ℕ → Taken → Type 0
IsTakenWhole line (Put to) = PassesSpaces line to (length line)
IsTakenWhole line (Rejected to) = PassesSpaces line to (length line)
IsTakenWhole line _ = Unit {0}

-- what became of the members of a row of the first type
abbrev pub TakesMembers : ReadContext → List Value → ℕ → Taken → Type 0
TakesMembers context values from taken =
    (type : RowType) × (slice_get context.types.now 0 ≡ Some type) × TakesRow context type values from taken

-- from one offset to the other stands an object, of which a value is rejected, or which the row's values fit but for
-- those that are not kept
abbrev pub ReadsObject : ReadContext → Bool → Value → ℕ → ℕ → Type 0
ReadsObject context is_left_out row from to =
    (values : Vec Value Global) × (row ≡ Record values)
    × ((type : RowType) × (slice_get context.types.now 0 ≡ Some type)
    × ValueStands (context.depth + 1) context.line from to (λ json. (found : Members) × (json ≡ object found)
    × TakesFound context type is_left_out values.items found))

-- what became of the row that begins at an offset
abbrev pub TakesObject : ReadContext → Value → ℕ → Taken → Type 0
TakesObject context row from Nothing = Unit {0}
TakesObject context row from Broken = Unit {0}
TakesObject context row from (Put to) = ReadsObject context false row from to
TakesObject context row from (Rejected to) = ReadsObject context true row from to

-- what was read of a row that begins at an offset of a text, in which its members may nest so deep
abbrev pub ReadsRowAt : ℕ → List ℕ → ℕ → RowsOfType → Taken → Type 0
ReadsRowAt depth text place rows Nothing = Unit {0}
ReadsRowAt depth text place rows Broken = Unit {0}
ReadsRowAt depth text place rows (Put to) =
    ValueStands (depth + 1) text place to (λ json. IsJsonBut json (names_unkept rows) (row_held rows))
ReadsRowAt depth text place rows (Rejected to) =
    ValueStands (depth + 1) text place to (λ json. IsJsonLeftOut json rows)
