-- Which range variable a name stands for, by number (OData URL Conventions 4.01, section 5.1.1.13).
use Rattle.std.specs.Prelude.{ℕ, List, [], ◌∷◌, Option, Some, None, length, nat_eq, if◌then◌else◌}
use Rattle.std.specs.Cmp.Lexicographic.{pointwise}

-- of variables in scope, the innermost first, how many there were where the innermost one of that name was bound
abbrev pub level_named : List (List ℕ) → List ℕ → Option ℕ
level_named [] asked = None
level_named (bound ∷ outer) asked =
    if pointwise nat_eq asked bound then Some (length outer) else level_named outer asked
