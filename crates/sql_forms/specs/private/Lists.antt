-- For private clauses: `in` before a list and before a path.
use Rattle.sql_meaning.specs.SqlTypeHolds.{type_of_field}
use Rattle.std.specs.Prelude.{◌≡◌, ◌≢◌, ◌<◌, ◌⊎◌, ◌∷◌, [], ℕ, List, Bool, true, false, pos, None, IsSomeAnd, length, slice_get}
use Rattle.std.specs.List.{AllByRecursion}
use Rattle.edm_values.specs.Val.{Val, boolean, null, whole}
use Rattle.odata_syntax.specs.declared.binary_operator.ComparisonOperator.{ComparisonOperator}
use Rattle.odata_checked_filter.specs.Filter.{Filter}
use Rattle.odata_filter_operations.specs.Outcome.{Outcome, gives}
use Rattle.odata_signatures.specs.declared.edm_type.EdmType.{EdmType}
use Rattle.odata_signatures.specs.declared.edm_type.ValueType.{ValueType}
use Rattle.sql_meaning.specs.Codes.{IsCoded, code_of}
use Rattle.sql_tree.specs.declared.sql_node.SqlType.{SqlType}
use Rattle.sql_draft.specs.Rows.{IsFault}
use Rattle.sql_forms.specs.declared.terms.Form.{Form}
use Rattle.sql_draft.specs.declared.sql_operand.Operand.{Operand}
use Rattle.sql_draft.specs.declared.sql_operand.Source.{Source}
use Rattle.sql_draft.specs.declared.sql_context.Kind.{Kind}
use Rattle.sql_outcomes.specs.ComparedSides.{FaultyHave, HasOrCode, NoTruth}
use Rattle.sql_draft.specs.Kinds.{kind_of_single}
use Rattle.sql_outcomes.specs.OperandFaults.{carrier_in}
use Rattle.sql_draft.specs.OperandHas.{Fits}
use Rattle.sql_outcomes.specs.private.OperandValues.{ComparedHas, HasLoosely, HasValue}
use Rattle.sql_draft.specs.World.{Has, World}
use Rattle.sql_outcomes.specs.Items.{some_of, any_of, EachCompared, MembersAt, EachMemberEquals}
use Rattle.sql_outcomes.specs.private.ItemValues.{EqualsHas, IsNeverNull}

-- null where the left side is null
abbrev pub AmongHas : Filter → Operand → List Operand → Has
AmongHas filter left items world o =
    (found : Outcome) × (e : EqualsHas filter left items world found)
    × (((e.l ≡ null) × (o ≡ gives null)) ⊎ ((e.l ≢ null) × (o ≡ found)))

-- one outcome for each operand, as SQL compares it
abbrev pub AllCompare : Filter → List Operand → World → List Outcome → Type 0
AllCompare filter [] world os = os ≡ []
AllCompare filter (operand ∷ operands) world [] = ⊥
AllCompare filter (operand ∷ operands) world (o ∷ os) =
    ComparedHas filter operand world o × AllCompare filter operands world os

-- items that the filter itself has, none of them null, beside a value that is no truth value
pub record AreConstants (filter : Filter) (left : Operand) (items : List Operand) : Type 0 where
  pub type_of : SqlType
  pub left_is : left.kind ≡ Kind.Value type_of
  pub no_truth : type_of ≢ SqlType.Truth
  pub some : 0 < length items
  pub given : AllByRecursion (IsNeverNull filter) items
  pub kinds : AllByRecursion (λ item. item.kind ≢ Kind.Null) items

-- of one item at least
pub record EqualCodesHave (filter : Filter) (left : Operand) (items : List Operand) (world : World)
    (o : Outcome) : Type 0 where
  pub left_outcome : Outcome
  pub outcomes : List Outcome
  pub each : EachCompared filter left left_outcome items world outcomes
  pub is : o ≡ any_of outcomes

-- a value that is no truth value
abbrev pub IsPlainValue : Kind → Type 0
IsPlainValue (Kind.Value SqlType.Truth) = ⊥
IsPlainValue (Kind.Value type) = Unit {0}
IsPlainValue kind = ⊥

-- null stands on the left instead of a fault, beside the right side: what comes of that does not matter
pub record NullBeside (filter : Filter) (left right : Operand) (world : World) (o : Outcome) : Type 0 where
  pub unsaid : ¬ IsCoded o
  pub value : IsPlainValue left.kind
  pub left_null : HasLoosely filter left world null
  pub right_outcome : Outcome
  pub right_has : HasOrCode filter right.kind right.source world right_outcome
  pub right_fits : (v : Val) → right_outcome ≡ gives v → Fits right v
  pub right_plain : NoTruth right → carrier_in right ≡ None → (v : Val) × (right_outcome ≡ gives v)

abbrev pub FaultyOrNull : Filter → ComparisonOperator → Operand → Operand → Has
FaultyOrNull filter operator left right world o =
    FaultyHave filter operator left right world o ⊎ NullBeside filter left right world o

abbrev pub EqualCodesOrNull : Filter → Operand → List Operand → Has
EqualCodesOrNull filter left items world o =
    EqualCodesHave filter left items world o
    ⊎ ((¬ IsCoded o) × AllByRecursion (λ item. NullBeside filter left item world o) items)

-- whether the left side is equal to one of the members
abbrev pub MemberHas : Filter → Operand → ℕ → Has
MemberHas filter left collection world o =
    (m : MembersAt filter collection world) × (l : Val) × HasValue filter left world l
    × (bs : List Bool) × EachMemberEquals l m.members bs × (o ≡ gives (boolean (some_of bs)))

-- where null stands instead of a fault, what comes of it is marked as that fault
abbrev pub HasMemberHas : Filter → Operand → ℕ → Has
HasMemberHas filter left collection world o =
    MemberHas filter left collection world o
    ⊎ (IsFault o × MembersAt filter collection world × HasLoosely filter left world null)

-- a value at the path, or a structured one
abbrev pub IsAtPath : ℕ → Kind → Source → Type 0
IsAtPath path (Kind.Value type) (Source.Field number value_type) = (number ≡ path) × (type ≡ type_of_field value_type)
IsAtPath path Kind.Structured (Source.Place number) = number ≡ path
IsAtPath path kind source = ⊥

-- the operand is a member of the collection, which stands at the path
pub record IsMemberOperand (filter : Filter) (collection path : ℕ) (operand : Operand) : Type 0 where
  pub at : IsAtPath path operand.kind operand.source
  pub kind :
      IsSomeAnd (slice_get filter.list.nodes collection) (λ node. (type : ValueType)
      × (node.edm_type ≡ EdmType.Collection type) × (operand.kind ≡ kind_of_single type))
  pub nullable : operand.range.may_be_null ≡ true
  pub plain : operand.range.may_fault ≡ false

-- ---- forms

-- the value, or a condition that is true exactly where it is
abbrev pub kept_form : Bool → Form
kept_form true = Form.Keeps
kept_form false = Form.Truth

-- the code of a truth value, null or a fault; of anything else, which marks that it does not matter, some code
abbrev pub AsCode : Outcome → Outcome → Type 0
AsCode o x = (IsCoded o → x ≡ gives (whole (pos (code_of o)))) × (c : ℕ) × (c < 5) × (x ≡ gives (whole (pos c)))
