-- The tokens of two filters, and the tree of the first.
use Rattle.std.specs.Prelude.{ℕ, List, [], ◌∷◌, codes}
use Rattle.odata_syntax.specs.declared.binary_operator.BinaryOperator.{BinaryOperator}
use Rattle.odata_syntax.specs.declared.binary_operator.LogicalOperator.{LogicalOperator}
use Rattle.odata_syntax.specs.declared.binary_operator.ComparisonOperator.{ComparisonOperator}
use Rattle.odata_syntax.specs.declared.node.LiteralKind.{LiteralKind}
use Rattle.odata_text.specs.declared.token.TokenKind.{TokenKind}
use Rattle.odata_text.specs.TokenModel.{TokenModel}
use Rattle.odata_syntax.specs.Tree.{Tree, node, literal, name, binary}

abbrev pub piece : TokenKind → ℕ → ℕ → List ℕ → TokenModel
piece kind start stop text = record { kind = kind; start = start; stop = stop; text = text }

-- `Active and ID eq 1 and Name eq 'a'`
abbrev pub first_run_tokens : List TokenModel
first_run_tokens =
    piece TokenKind.Word 0 6 (codes "Active")
    ∷ piece TokenKind.Word 7 10 (codes "and")
    ∷ piece TokenKind.Word 11 13 (codes "ID")
    ∷ piece TokenKind.Word 14 16 (codes "eq")
    ∷ piece TokenKind.Int 17 18 (codes "1")
    ∷ piece TokenKind.Word 19 22 (codes "and")
    ∷ piece TokenKind.Word 23 27 (codes "Name")
    ∷ piece TokenKind.Word 28 30 (codes "eq")
    ∷ piece TokenKind.Str 31 34 (codes "'a'")
    ∷ []

abbrev pub id_is_one : Tree
id_is_one =
    node 11 18 (binary (BinaryOperator.Comparison ComparisonOperator.Eq)
    (node 11 13 (name (codes "ID")))
    (node 17 18 (literal LiteralKind.Int (codes "1"))))

abbrev pub name_is_a : Tree
name_is_a =
    node 23 34 (binary (BinaryOperator.Comparison ComparisonOperator.Eq)
    (node 23 27 (name (codes "Name")))
    (node 31 34 (literal LiteralKind.Str (codes "'a'"))))

abbrev pub active_and_id : Tree
active_and_id = node 0 18 (binary (BinaryOperator.Logical LogicalOperator.And) (node 0 6 (name (codes "Active"))) id_is_one)

-- `and` takes its operands from the left
abbrev pub first_run_tree : Tree
first_run_tree = node 0 34 (binary (BinaryOperator.Logical LogicalOperator.And) active_and_id name_is_a)

-- `Name eq`
abbrev pub name_eq : List TokenModel
name_eq = piece TokenKind.Word 0 4 (codes "Name") ∷ piece TokenKind.Word 5 7 (codes "eq") ∷ []
