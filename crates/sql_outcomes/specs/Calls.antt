-- Trees one after another, calls of functions, and `has` (OData URL Conventions 4.01, section 5.1.1.4).
use Rattle.std.specs.Prelude.{◌≡◌, ◌⊎◌, ◌<◌, ◌≤ℤ◌, ◌+◌, ℕ, ℤ, pos, negsuc, List, [], ◌∷◌, Some, IsSomeAnd, length, slice_get}
use Rattle.std.specs.Str.{chars}
use Rattle.edm_values.specs.MomentParts.{MomentParts}
use Rattle.edm_values.specs.Val.{Val, null, text, whole}
use Rattle.odata_checked_filter.specs.Filter.{Filter}
use Rattle.odata_checked_filter.specs.declared.checked_node.CheckedNode.{CheckedNode}
use Rattle.odata_filter_operations.specs.CallGives.{CallGives}
use Rattle.odata_filter_operations.specs.FunctionGives.{GivesCount}
use Rattle.odata_filter_operations.specs.HasGives.{HasGives}
use Rattle.odata_filter_operations.specs.Outcome.{Outcome, gives}
use Rattle.odata_ranges.specs.declared.range.Range.{Range}
use Rattle.odata_signatures.specs.declared.function.Function.{Function}
use Rattle.sql_meaning.specs.SqlFunctionGives.{SqlFunctionGives}
use Rattle.sql_tree.specs.declared.sql_node.SqlFunction.{SqlFunction}
use Rattle.sql_draft.specs.declared.sql_operand.Operand.{Operand}
use Rattle.sql_draft.specs.Kinds.{IsOfKind}
use Rattle.sql_draft.specs.OperandHas.{IsNodeAt, OperandHas}
use Rattle.sql_draft.specs.World.{Has}

-- ---- trees in line

-- from one index up to another stand trees one after another, and these are their operands
abbrev pub AreAlong : Filter → (ℕ → Operand → Type 0) → ℕ → ℕ → List Operand → Type 0
AreAlong filter At at stop [] = at ≡ stop
AreAlong filter At at stop (operand ∷ operands) =
    (node : CheckedNode) × (slice_get filter.list.nodes at ≡ Some node) × (at < node.stop) × At at operand
    × AreAlong filter At node.stop stop operands

-- the arguments of the call at the index
abbrev pub AreArgumentsOf : Filter → List Range → ℕ → List Operand → Type 0
AreArgumentsOf filter ranges place operands =
    IsSomeAnd (slice_get filter.list.nodes place)
    (λ node. AreAlong filter (IsNodeAt filter ranges) (place + 1) node.stop operands)

-- ---- calls

-- each value is of its operand's kind
abbrev pub AreOfKinds : List Operand → List Val → Type 0
AreOfKinds [] [] = Unit {0}
AreOfKinds (operand ∷ operands) (v ∷ values) = IsOfKind operand.kind v × AreOfKinds operands values
AreOfKinds operands values = ⊥

-- -1 at least, and no more than the first text has characters
abbrev pub IsCountOf : List Val → ℤ → Type 0
IsCountOf (text s ∷ values) n = (negsuc 0 ≤ℤ n) × (n ≤ℤ pos (length (chars s)))
IsCountOf values n = ⊥

-- what the second is once it is bound to Int32: null, or a count
abbrev pub IsUnbound : List Val → Outcome → Outcome → Type 0
IsUnbound values x o =
    ((x ≡ gives null) × (o ≡ gives null)) ⊎ ((n : ℤ) × (x ≡ gives (whole n)) × IsCountOf values n × GivesCount n o)

abbrev pub IsUncounted : Function → List Val → Outcome → Outcome → Type 0
IsUncounted Function.Length values x o = IsUnbound values x o
IsUncounted Function.IndexOf values x o = IsUnbound values x o
IsUncounted function values x o = x ≡ o

-- of values of the operands' kinds the function of SQL makes what the filter's does, its counts unbounded
abbrev pub IsSqlFunctionOf : Function → List Operand → SqlFunction → Type 0
IsSqlFunctionOf function operands sql =
    (now : MomentParts) (values : List Val) (o : Outcome) → AreOfKinds operands values → CallGives now function values o
    → (x : Outcome) × SqlFunctionGives now sql values x × IsUncounted function values x o

-- ---- flags

-- what `has` makes of the values of two operands
abbrev pub FlagsHave : Filter → Operand → Operand → Has
FlagsHave filter left right world o =
    (l : Val) × (r : Val) × OperandHas filter left world (gives l) × OperandHas filter right world (gives r)
    × HasGives l r o
