-- The columns of a type's properties, by lines that name them.
use Rattle.std.specs.Prelude.{◌≡◌, ◌⊎◌, ◌++◌, ℕ, IsSomeAnd, List, [], ◌∷◌, codes, slice_get}
use Rattle.csdl_schema.specs.SchemaModel.{PropertyModel}

-- a line `Property=column` is about that property, and names that column
abbrev pub IsAbout : List ℕ → List ℕ → List ℕ → Type 0
IsAbout property line column = line ≡ property ++ (codes "=" ++ column)

-- the first line about a property names its column; where there is none, that has the property's own name
abbrev pub IsColumnOf : List ℕ → List (List ℕ) → List ℕ → Type 0
IsColumnOf property [] column = column ≡ property
IsColumnOf property (line ∷ lines) column =
    IsAbout property line column
    ⊎ (((other : List ℕ) → ¬ IsAbout property line other) × IsColumnOf property lines column)

-- a column for each property, by slot
abbrev pub AreColumns : List PropertyModel → List (List ℕ) → List (List ℕ) → Type 0
AreColumns [] lines columns = columns ≡ []
AreColumns (p ∷ properties) lines [] = ⊥
AreColumns (p ∷ properties) lines (column ∷ columns) =
    IsColumnOf p.name lines column × AreColumns properties lines columns

-- a line is empty or about a property
abbrev pub IsKnown : List PropertyModel → List ℕ → Type 0
IsKnown properties [] = Unit {0}
IsKnown properties line =
    (slot : ℕ) × IsSomeAnd (slice_get properties slot) (λ p. (column : List ℕ) × IsAbout p.name line column)

abbrev pub AreKnown : List PropertyModel → List (List ℕ) → Type 0
AreKnown properties [] = Unit {0}
AreKnown properties (line ∷ lines) = IsKnown properties line × AreKnown properties lines
