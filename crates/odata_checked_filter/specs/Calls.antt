-- What a filter needs besides an entity (OData URL Conventions 4.01, section 5.1.1).
use Rattle.std.specs.Prelude.{◌≡◌, ℕ, List, [], ◌∷◌, Contains, codes}
use Rattle.odata_syntax.specs.Spans.{IsWithin}
use Rattle.odata_syntax.specs.Tree.{Tree, Trees, call, shape_of}

-- some node of the tree calls one of these functions
pub record CallsOne (functions : List (List ℕ)) (tree : Tree) : Type 0 where
  pub part : Tree
  pub within : IsWithin part tree
  pub called : List ℕ
  pub arguments : Trees
  pub is_call : shape_of part ≡ call called arguments
  pub one : Contains functions called

-- the tree calls a function that makes a text
abbrev pub TakesMemory : Tree → Type 0
TakesMemory = CallsOne (codes "concat" ∷ codes "tolower" ∷ codes "toupper" ∷ [])

-- the tree calls now
abbrev pub UsesNow : Tree → Type 0
UsesNow = CallsOne (codes "now" ∷ [])
