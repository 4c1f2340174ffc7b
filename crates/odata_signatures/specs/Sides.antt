-- What an operator learns of its operands (OData URL Conventions 4.01, section 5.1.1.1).
use Rattle.std.specs.Prelude.{ℕ, List, [], ◌∷◌, Option, Some, None}
use Rattle.odata_syntax.specs.Tree.{Tree, Trees, node, literal, more_trees}
use Rattle.odata_syntax.specs.declared.node.LiteralKind.{LiteralKind}
use Rattle.csdl_schema.specs.ExprType.{ExprType}
use Rattle.odata_signatures.specs.Side.{Side, quoting}

-- how a String literal is spelled; no other tree quotes a text
abbrev pub quoted_text : Tree → Option (List ℕ)
quoted_text (node start stop (literal LiteralKind.Str spelling)) = Some spelling
quoted_text _ = None

-- a tree of that type, on a side
abbrev pub side_of : Tree → ExprType → Side
side_of tree type = quoting (quoted_text tree) type

-- likewise trees one after another, of these types
abbrev pub sides_of : Trees → List ExprType → List Side
sides_of (more_trees tree trees) (type ∷ types) = side_of tree type ∷ sides_of trees types
sides_of _ _ = []

-- what is made of two trees on the sides of an operator, by their types
abbrev pub Between :
    (Side → Side → ExprType → Type 0) → Tree → Tree → ExprType → ExprType → ExprType → Type 0
Between Makes left right l r type = Makes (side_of left l) (side_of right r) type

-- likewise of a tree on the left and of trees in a list
abbrev pub BeforeList :
    (Side → List Side → ExprType → Type 0) → Tree → Trees → ExprType → List ExprType → ExprType → Type 0
BeforeList Makes left items l types type = Makes (side_of left l) (sides_of items types) type
