-- What stands in a column, and at a position in JSON (RFC 8259): the values of the entity that the row keeps.
use Rattle.std.specs.Prelude.{◌≡◌, ℕ, ◌∷◌, [], List, IsSomeAnd, slice_get, true, false}
use Rattle.edm_values.specs.Val.{Val, null, boolean, items, fields}
use Rattle.csdl_schema.specs.SchemaModel.{SchemaModel, properties_at}
use Rattle.odata_filter_operations.specs.CollectionGives.{members_of}
use Rattle.odata_meaning.specs.NameGives.{StepGives}
use Rattle.odata_filter_operations.specs.Outcome.{Outcome, gives}
use Rattle.sql_tree.specs.declared.json_path.Base.{Base}
use Rattle.sql_tree.specs.declared.json_path.Path.{Path}
use Rattle.sql_tree.specs.declared.json_path.Step.{Step}
use Rattle.sql_meaning.specs.Table.{Asked, Bound}

-- the value of the property at a slot of a type, of a value of that type; of null it is null
abbrev pub SlotGives : SchemaModel → ℕ → ℕ → Val → Val → Type 0
SlotGives schema owner slot v held =
    IsSomeAnd (slice_get (properties_at schema owner) slot) (λ p. StepGives v p.name (gives held))

-- the entity, a property of it, or the member of a collection
abbrev pub BaseGives : Asked → Bound → Base → Val → Type 0
BaseGives asked bound Base.Document v = v ≡ asked.entity
BaseGives asked bound (Base.Column slot) v = SlotGives asked.schema asked.row_type slot asked.entity v
BaseGives asked bound (Base.Member level) v = IsSomeAnd (slice_get bound level) (λ b. b.value ≡ gives v)

-- one step after another
abbrev pub StepsGive : SchemaModel → List Step → Val → Val → Type 0
StepsGive schema [] v held = held ≡ v
StepsGive schema (step ∷ steps) v held =
    (next : Val) × SlotGives schema step.owner step.slot v next × StepsGive schema steps next held

-- the value at a path
abbrev pub PathGives : Asked → Bound → Path → Val → Type 0
PathGives asked bound path held =
    (v : Val) × BaseGives asked bound path.base v × StepsGive asked.schema path.steps.items v held

-- the value at the path of a number
abbrev pub PlaceGives : Asked → Bound → ℕ → Val → Type 0
PlaceGives asked bound place held = IsSomeAnd (slice_get asked.paths place) (λ path. PathGives asked bound path held)

-- a value that is no record and no list
abbrev pub IsScalar : Val → Type 0
IsScalar (fields held) = ⊥
IsScalar (items values) = ⊥
IsScalar _ = Unit {0}

-- whether a value is null
abbrev pub GivesMissing : Val → Outcome → Type 0
GivesMissing null o = o ≡ gives (boolean true)
GivesMissing _ o = o ≡ gives (boolean false)

-- the members of a collection; null has none
abbrev pub AreMembers : Val → List Val → Type 0
AreMembers null members = members ≡ []
AreMembers (items values) members = members ≡ members_of values
AreMembers _ members = ⊥
