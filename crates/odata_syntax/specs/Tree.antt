-- The tree of an expression (OData URL Conventions 4.01, section 5.1.1).
use Rattle.std.specs.Prelude.{ℕ, List, [], ◌∷◌}
use Rattle.odata_syntax.specs.declared.binary_operator.BinaryOperator.{BinaryOperator}
use Rattle.odata_syntax.specs.declared.node.LiteralKind.{LiteralKind}
use Rattle.odata_syntax.specs.declared.node.Quantifier.{Quantifier}

mutual
  -- where a node starts and stops in the text, and what it is
  pub data Tree : Type 0 where
    node : ℕ → ℕ → Shape → Tree

  -- a literal by its spelling
  -- `$it`, a name, a member of what stands before it, `/$count`
  -- `-` and `not`
  -- an operator between two operands, `has`, `in` before a list and before a path
  -- a call of a function by its name, `/any()`, and `/any(v:..)` or `/all(v:..)` with the variable before the body
  pub data Shape : Type 0 where
    literal : LiteralKind → List ℕ → Shape
    it : Shape
    name : List ℕ → Shape
    member : Tree → List ℕ → Shape
    count : Tree → Shape
    negation : Tree → Shape
    logical_not : Tree → Shape
    binary : BinaryOperator → Tree → Tree → Shape
    has : Tree → Tree → Shape
    in_list : Tree → Trees → Shape
    in_path : Tree → Tree → Shape
    call : List ℕ → Trees → Shape
    any_item : Tree → Shape
    lambda : Quantifier → Tree → List ℕ → Tree → Shape

  -- the items of a list or the arguments of a call, in their order
  pub data Trees : Type 0 where
    no_trees : Trees
    more_trees : Tree → Trees → Trees

-- where a tree starts and stops in the text
abbrev pub start_of : Tree → ℕ
start_of (node start stop shape) = start

-- the byte at which a tree stops
abbrev pub stop_of : Tree → ℕ
stop_of (node start stop shape) = stop

-- what it is
abbrev pub shape_of : Tree → Shape
shape_of (node start stop shape) = shape

-- trees one after another
abbrev pub trees_of_list : List Tree → Trees
trees_of_list [] = no_trees
trees_of_list (tree ∷ more) = more_trees tree (trees_of_list more)
