-- Property paths and sets of them (OData URL Conventions 4.01, sections 5.1.1.15 and 5.1.3).
use Rattle.std.specs.Prelude.{◌≡◌, ◌∷◌, ◌||◌, [], ℕ, List, Bool, true, false, nat_eq}
use Rattle.std.specs.Cmp.Lexicographic.{pointwise}

-- the names of properties, each of the value to which those before it lead
abbrev pub PropertyPath : Type 0
PropertyPath = List (List ℕ)

-- a set of paths, by what it says of each
abbrev pub PathSet : Type 0
PathSet = PropertyPath → Bool

abbrev pub no_paths : PathSet
no_paths path = false

-- the paths of a set that begin with a step, without it
abbrev pub below : PathSet → List ℕ → PathSet
below paths step = λ path. paths (step ∷ path)

abbrev pub is_path : PropertyPath → PropertyPath → Bool
is_path = pointwise (pointwise nat_eq)

-- the set with a path more; no set has the empty path
abbrev pub with_path : PathSet → PropertyPath → PathSet
with_path paths [] path = paths path
with_path paths (step ∷ steps) path = paths path || is_path (step ∷ steps) path

-- each path of the other set is in this one
abbrev pub Covers : PathSet → PathSet → Type 0
Covers paths other = (path : PropertyPath) → other path ≡ true → paths path ≡ true
