-- What a record of few values holds by slot: each value stands beside its slot, and null is in every other.
use Rattle.std.specs.Prelude.{◌≡◌, ◌==◌, ℕ, zero, suc, List, [], ◌∷◌, length, if◌then◌else◌}
use Rattle.edm_values.specs.declared.value.Value.{Value, Null}

-- what stands beside a slot first; that where nothing does
abbrev pub beside : {X : Type 0} → X → List (ℕ × X) → ℕ → X
beside none [] slot = none
beside none (held ∷ more) slot = if held.0 == slot then held.1 else beside none more slot

-- the same of so many slots in order, from one on
abbrev pub by_slot : {X : Type 0} → X → List (ℕ × X) → ℕ → ℕ → List X
by_slot none held from zero = []
by_slot none held from (suc count) = beside none held from ∷ by_slot none held (suc from) count

-- the values of all slots, of which these stand beside theirs
abbrev pub AreBeside : List (ℕ × Value) → List Value → Type 0
AreBeside held values = by_slot Null held 0 (length values) ≡ values
