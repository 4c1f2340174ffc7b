-- Facts of trees one after another.
use Rattle.std.proofs.Common.{List, [], ◌∷◌}
use Rattle.odata_syntax.specs.Tree.{Tree, Trees, more_trees, no_trees}
use Rattle.csdl_schema.specs.ExprType.{ExprType}

-- the fact is true of each
abbrev pub AllTrees : (Tree → Type 0) → Trees → Type 0
AllTrees P no_trees = Unit {0}
AllTrees P (more_trees tree more) = P tree × AllTrees P more

-- of each with the type at its index
abbrev pub AllTyped : (Tree → ExprType → Type 0) → Trees → List ExprType → Type 0
AllTyped P no_trees [] = Unit {0}
AllTyped P (more_trees tree more) (type ∷ types) = P tree type × AllTyped P more types
AllTyped P _ _ = ⊥

-- of each with the tree at its index
abbrev pub AllPaired : (Tree → Tree → Type 0) → Trees → Trees → Type 0
AllPaired P no_trees no_trees = Unit {0}
AllPaired P (more_trees tree more) (more_trees other others) = P tree other × AllPaired P more others
AllPaired P _ _ = ⊥
