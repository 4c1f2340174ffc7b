-- Which String literals of a tree are enumeration literals without their type (OData URL Conventions 4.01, section
-- 5.1.1.1).
use Rattle.std.specs.Prelude.{◌⊎◌, ℤ}
use Rattle.odata_syntax.specs.Tree.{Tree, Trees, more_trees, no_trees}
use Rattle.odata_syntax.specs.declared.binary_operator.BinaryOperator.{BinaryOperator}
use Rattle.csdl_schema.specs.ExprType.{ExprType}
use Rattle.csdl_schema.specs.SchemaModel.{Slots}
use Rattle.odata_signatures.specs.OperatorTyped.{IsEquality}
use Rattle.odata_signatures.specs.QuotedNumber.{LacksNumber, ResolvedNumber}
use Rattle.odata_signatures.specs.Sides.{quoted_text}

-- where the other operand is of one of these types, the tree is a String literal that stands for the number
pub record ReadsNumber
    (slots : Slots) (OtherSide : ExprType → Type 0) (tree : Tree) (n : ℤ) : Type 0 where
  pub type_of : ExprType
  pub beside : OtherSide type_of
  pub number : ResolvedNumber slots type_of (quoted_text tree) n

-- it is none that stands for a number there
abbrev pub ReadsNone : Slots → (ExprType → Type 0) → Tree → Type 0
ReadsNone slots OtherSide tree = (n : ℤ) → ¬ ReadsNumber slots OtherSide tree n

-- an operand of `eq` or `ne`, of a type; no other operator has its literals read
abbrev pub OfEquality : BinaryOperator → (ExprType → Type 0) → ExprType → Type 0
OfEquality operator Operand type = IsEquality operator × Operand type

-- one of the trees is resolved by the type, and stands for no number
abbrev pub OneLacksNumber : Slots → ExprType → Trees → Type 0
OneLacksNumber slots type no_trees = ⊥
OneLacksNumber slots type (more_trees tree trees) =
    LacksNumber slots type (quoted_text tree) ⊎ OneLacksNumber slots type trees
