-- The members of a type, inherited ones counted (CSDL JSON 4.01, sections 6.1 and 9.1).
use Rattle.std.specs.Prelude.{◌≡◌, ◌⊎◌, ℕ, [], ◌∷◌, List, Some, None, true, map, reverse}
use Rattle.std.specs.List.{flat_map, list_any}
use Rattle.csdl_declarations.specs.DeclaredType.{DeclaredType}
use Rattle.csdl_schema.specs.SchemaModel.{PropertyModel}
use Rattle.csdl_schema.specs.Resolution.{base_of, property_of}
use Rattle.csdl_schema.specs.BaseFaults.{own_properties, owns}

-- the types above a type: its base, the base of that, and so on up to one without a base
abbrev pub IsBaseChain : List DeclaredType → DeclaredType → List DeclaredType → Type 0
IsBaseChain types t [] = base_of types t ≡ None
IsBaseChain types t (u ∷ us) = (base_of types t ≡ Some u) × IsBaseChain types u us

-- the properties that a type has itself
abbrev pub own_members : List DeclaredType → DeclaredType → List PropertyModel
own_members types t = map (property_of types) (own_properties t.body)

-- those of each type of a chain, the uppermost base's first
abbrev pub chain_members : List DeclaredType → DeclaredType → List DeclaredType → List PropertyModel
chain_members types t bases = flat_map (own_members types) (reverse (t ∷ bases))

-- two types of a chain have a property of that name themselves: the first and one above it, or two of those above
abbrev pub IsOwnedTwice : List ℕ → List DeclaredType → Type 0
IsOwnedTwice name [] = ⊥
IsOwnedTwice name (t ∷ above) =
    ((owns name t ≡ true) × (list_any (owns name) above ≡ true)) ⊎ IsOwnedTwice name above
