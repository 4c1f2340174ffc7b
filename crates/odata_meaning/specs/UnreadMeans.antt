-- Where no operand is an enumeration literal without its type, operands evaluate to what they are by themselves (OData
-- URL Conventions 4.01, section 5.1.1.1).
use Rattle.std.specs.Prelude.{◌↔◌, ℕ, List}
use Rattle.edm_values.specs.MomentParts.{MomentParts}
use Rattle.edm_values.specs.Val.{Val}
use Rattle.csdl_schema.specs.SchemaModel.{Slots}
use Rattle.odata_syntax.specs.Tree.{Tree, binary, has, node}
use Rattle.odata_syntax.specs.declared.binary_operator.BinaryOperator.{BinaryOperator}
use Rattle.odata_signatures.specs.Reads.{OfEquality, ReadsNone}
use Rattle.odata_signatures.specs.Typed.{Typed}
use Rattle.odata_meaning.specs.Environment.{Environment, scope_of}
use Rattle.odata_filter_operations.specs.HasGives.{HasGives}
use Rattle.odata_filter_operations.specs.LeftFirst.{After}
use Rattle.odata_meaning.specs.Means.{Means}
use Rattle.odata_meaning.specs.OneByOne.{ItemAlone}
use Rattle.odata_meaning.specs.OperatorGives.{SidesGive}
use Rattle.odata_filter_operations.specs.Outcome.{Outcome}

-- the operands of an operator
abbrev pub OperandsAlone : Type 0
OperandsAlone =
    (slots : Slots) (root : List ℕ) (now : MomentParts) (entity : Val) (environment : Environment) (start stop : ℕ)
    (operator : BinaryOperator) (left right : Tree) (o : Outcome)
    → ReadsNone slots (OfEquality operator (Typed slots root (scope_of environment) left)) right
    → ReadsNone slots (OfEquality operator (Typed slots root (scope_of environment) right)) left
    → Means slots root now entity environment (node start stop (binary operator left right)) o
    ↔ SidesGive operator (Typed slots root (scope_of environment) (node start stop (binary operator left right)))
    (Means slots root now entity environment left) (Means slots root now entity environment right) o

-- those of `has`
abbrev pub FlagsAlone : Type 0
FlagsAlone =
    (slots : Slots) (root : List ℕ) (now : MomentParts) (entity : Val) (environment : Environment) (start stop : ℕ)
    (left right : Tree) (o : Outcome)
    → ReadsNone slots (Typed slots root (scope_of environment) left) right
    → Means slots root now entity environment (node start stop (has left right)) o
    ↔ After (Means slots root now entity environment left)
    (λ l. After (Means slots root now entity environment right) (HasGives l)) o

-- an item of a list after an operand
abbrev pub ItemsAlone : Type 0
ItemsAlone =
    (slots : Slots) (root : List ℕ) (now : MomentParts) (entity : Val) (environment : Environment)
    (left item : Tree) (o : Outcome)
    → ReadsNone slots (Typed slots root (scope_of environment) left) item
    → ItemAlone slots root now entity environment (Typed slots root (scope_of environment) left) item o
    ↔ Means slots root now entity environment item o
