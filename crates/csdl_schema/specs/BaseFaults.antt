-- What may be wrong with the bases of declared types, and with the properties along their chains (CSDL JSON 4.01,
-- sections 6.1, 7 and 9.1).
use Rattle.std.specs.Prelude.{ℕ, zero, suc, [], ◌∷◌, ◌++◌, ◌||◌, List, Bool, not, Option, Some, None, is_some, length, map, filter, nat_eq, nat_lt, sum_by}
use Rattle.std.specs.Ordering.{nat_cmp, match_ordering}
use Rattle.std.specs.List.{list_any, flat_map}
use Rattle.std.specs.Cmp.Lexicographic.{pointwise, slice_cmp}
use Rattle.csdl_declarations.specs.Fault.{Fault, unknown_base, base_cycle, property_twice, too_large, unless}
use Rattle.csdl_declarations.specs.DeclaredType.{PropertyDeclaration, TypeBody, DeclaredType, structured, enumeration, definition}
use Rattle.csdl_schema.specs.Resolution.{base_of}

abbrev pub base_text : TypeBody → Option (List ℕ)
base_text (structured is_entity base properties) = base
base_text (enumeration e) = None
base_text (definition underlying) = None

-- a base that is named is there
abbrev pub is_base_known : List DeclaredType → DeclaredType → Bool
is_base_known types t = not (is_some (base_text t.body)) || is_some (base_of types t)

abbrev pub onto : (DeclaredType → List DeclaredType) → Option DeclaredType → List DeclaredType
onto further None = []
onto further (Some t) = t ∷ further t

-- the first so many types above a type: its base, the base of that, and so on as far as that goes
abbrev pub bases_within : ℕ → List DeclaredType → DeclaredType → List DeclaredType
bases_within zero types t = []
bases_within (suc n) types t = onto (bases_within n types) (base_of types t)

-- as many as there are types, if the chain does not end
abbrev pub bases_of : List DeclaredType → DeclaredType → List DeclaredType
bases_of types t = bases_within (length types) types t

-- the most bases above a type, and the most properties of a type
abbrev pub base_limit : ℕ
base_limit = 64

abbrev pub property_limit : ℕ
property_limit = 1024

abbrev pub own_properties : TypeBody → List PropertyDeclaration
own_properties (structured is_entity base properties) = properties
own_properties (enumeration e) = []
own_properties (definition underlying) = []

abbrev pub own_names : DeclaredType → List (List ℕ)
own_names t = map (λ p. p.name) (own_properties t.body)

-- whether a type has a property of that name itself
abbrev pub owns : List ℕ → DeclaredType → Bool
owns name t = list_any (pointwise nat_eq name) (own_names t)

-- a type's own names that one of its bases has too
abbrev pub names_again : List DeclaredType → DeclaredType → List (List ℕ)
names_again types t = filter (λ name. list_any (owns name) (bases_of types t)) (own_names t)

-- the names that two types of a type's chain have
abbrev pub names_twice : List DeclaredType → DeclaredType → List (List ℕ)
names_twice types t = flat_map (names_again types) (t ∷ bases_of types t)

abbrev pub lesser_name : List ℕ → Option (List ℕ) → Option (List ℕ)
lesser_name name None = Some name
lesser_name name (Some other) = match_ordering (slice_cmp nat_cmp name other) (Some name) (Some name) (Some other)

-- the first of some names in byte order
abbrev pub first_name : List (List ℕ) → Option (List ℕ)
first_name [] = None
first_name (name ∷ names) = lesser_name name (first_name names)

abbrev pub twice_faults : List ℕ → Option (List ℕ) → List Fault
twice_faults owner None = []
twice_faults owner (Some name) = property_twice owner name ∷ []

-- how many properties a type has, inherited ones counted
abbrev pub property_count : List DeclaredType → DeclaredType → ℕ
property_count types t = sum_by (λ u. length (own_properties u.body)) (t ∷ bases_of types t)

-- the base is there; the chain ends; it has no more bases than it may
abbrev pub chain_faults : List DeclaredType → DeclaredType → List Fault
chain_faults types t =
    unless (is_base_known types t) (unknown_base t.name)
    ++ (unless (nat_lt (length (bases_of types t)) (length types)) (base_cycle t.name)
    ++ unless (not (nat_lt base_limit (length (bases_of types t)))) too_large)

-- no name stands twice in the chain; the type has no more properties than it may
abbrev pub inherited_faults : List DeclaredType → DeclaredType → List Fault
inherited_faults types t =
    twice_faults t.name (first_name (names_twice types t))
    ++ unless (not (nat_lt property_limit (property_count types t))) too_large

abbrev pub base_faults : List DeclaredType → DeclaredType → List Fault
base_faults types t = chain_faults types t ++ inherited_faults types t

-- those of all types in the order of their names
abbrev pub all_base_faults : List DeclaredType → List Fault
all_base_faults types = flat_map (base_faults types) types
