-- What an operand evaluates to in a world.
use Rattle.std.specs.Prelude.{◌≡◌, ◌≢◌, ◌⊎◌, List, false}
use Rattle.edm_values.specs.Instant.{instant}
use Rattle.edm_values.specs.Val.{Val, moment, null, whole}
use Rattle.edm_values.specs.declared.value.Value.{Value}
use Rattle.odata_checked_filter.specs.Filter.{Filter}
use Rattle.odata_filter_operations.specs.Outcome.{Outcome, gives}
use Rattle.odata_ranges.specs.declared.range.Range.{Range}
use Rattle.sql_meaning.specs.OperatorsGive.{GivesIsNull}
use Rattle.sql_tree.specs.declared.sql_node.SqlType.{SqlType}
use Rattle.sql_draft.specs.Rows.{IsFault}
use Rattle.sql_draft.specs.declared.sql_operand.Operand.{Operand}
use Rattle.sql_draft.specs.declared.sql_operand.Source.{Source}
use Rattle.sql_draft.specs.declared.sql_context.Kind.{Kind}
use Rattle.sql_draft.specs.Kinds.{IsOfKind}
use Rattle.sql_draft.specs.World.{Has, World}
use Rattle.sql_draft.specs.OperandHas.{Fits, HasNumber, IsNodeOperand, OperandHas}

-- what the source names is there, and SQL has a value for it
abbrev pub IsSourceOf : Filter → List Range → Operand → Source → Type 0
IsSourceOf filter ranges operand (Source.Node place) = IsNodeOperand filter ranges operand place
IsSourceOf filter ranges operand (Source.Number place) = HasNumber filter place
IsSourceOf filter ranges operand (Source.Place path) = ⊥
IsSourceOf filter ranges operand source = Unit {0}

-- so it is put as a value, which no entity and no complex value is; a truth value evaluates to no fault
pub record IsPut (filter : Filter) (ranges : List Range) (operand : Operand) : Type 0 where
  pub source : IsSourceOf filter ranges operand operand.source
  pub valued : operand.kind ≢ Kind.Structured
  pub plain : operand.kind ≡ Kind.Value SqlType.Truth → operand.range.may_fault ≡ false

abbrev pub IsNode : Source → Type 0
IsNode (Source.Node place) = Unit {0}
IsNode source = ⊥

-- a position in JSON is no value of SQL, a value is put as one, and any other operand is a node
abbrev pub IsTestable : Filter → List Range → Operand → Source → Kind → Type 0
IsTestable filter ranges operand (Source.Place path) kind = kind ≡ Kind.Structured
IsTestable filter ranges operand source Kind.Structured = IsSourceOf filter ranges operand source × IsNode source
IsTestable filter ranges operand source kind = IsPut filter ranges operand

-- whether it is null may be asked
abbrev pub IsTested : Filter → List Range → Operand → Type 0
IsTested filter ranges operand = IsTestable filter ranges operand operand.source operand.kind

-- the operand evaluates to that value
pub record HasValue (filter : Filter) (operand : Operand) (world : World) (v : Val) : Type 0 where
  pub has : OperandHas filter operand world (gives v)
  pub fits : Fits operand v

-- the operand evaluates to a value of its kind: null instead of a fault too, whatever the range says of null
pub record HasLoosely (filter : Filter) (operand : Operand) (world : World) (v : Val) : Type 0 where
  pub has : OperandHas filter operand world (gives v)
  pub kind : IsOfKind operand.kind v

-- a moment by its instant, as it is compared
abbrev pub as_compared : Val → Val
as_compared (moment m) = whole (instant m)
as_compared v = v

abbrev pub ComparedHas : Filter → Operand → Has
ComparedHas filter operand world o = (v : Val) × HasLoosely filter operand world v × (o ≡ gives (as_compared v))

-- whether it is null; where null stands instead of a fault, that comes of it as any truth value does
abbrev pub NullHas : Filter → Operand → Has
NullHas filter operand world o =
    ((v : Val) × HasValue filter operand world v × GivesIsNull v o)
    ⊎ (IsFault o × (v : Val) × HasLoosely filter operand world v)

-- what comes of the values of two operands
abbrev pub SidesHave : Filter → Operand → Operand → (Val → Val → Outcome → Type 0) → Has
SidesHave filter left right Goes world o =
    (l : Val) × (r : Val) × HasValue filter left world l × HasValue filter right world r × Goes l r o

-- two operands, one of which has null
abbrev pub SomeNull : Filter → Operand → Operand → World → Type 0
SomeNull filter left right world =
    (l : Val) × (r : Val) × HasLoosely filter left world l × HasLoosely filter right world r
    × ((l ≡ null) ⊎ (r ≡ null))
