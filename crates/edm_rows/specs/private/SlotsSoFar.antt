-- For private clauses: the slots of a type while the members of an object are read.
use Rattle.std.specs.Prelude.{◌≡◌, ℕ, List, [], ◌∷◌, Bool, true, false, Option, None}
use Rattle.serde_json.specs.Data.{Data, Members}
use Rattle.serde_json.specs.Find.{get_member}
use Rattle.edm_values.specs.declared.value.Value.{Value}
use Rattle.csdl_schema.specs.SchemaModel.{Slots, PropertyModel}
use Rattle.edm_entities.specs.private.Walk.{FitsSlot}

-- what stands in a slot that was filled fits what was found; for another nothing was found, and what stands there says
-- nothing: it is of an earlier row
abbrev pub HoldsSoFar : Slots → (List ℕ → Option Data) → PropertyModel → Bool → Value → Type 0
HoldsSoFar slots found p true v = FitsSlot slots found p v
HoldsSoFar slots found p false v = found p.name ≡ None

-- of each slot, by whether it was filled; there may be more marks than slots
abbrev pub HoldEachSoFar :
    (PropertyModel → Bool → Value → Type 0) → List PropertyModel → List Bool → List Value → Type 0
HoldEachSoFar Q [] filled [] = Unit {0}
HoldEachSoFar Q (p ∷ ps) (filled ∷ more) (value ∷ values) = Q p filled value × HoldEachSoFar Q ps more values
HoldEachSoFar Q _ _ _ = ⊥

-- each slot of these properties, with what was found among an object's members
abbrev pub SlotsSoFar : Slots → List PropertyModel → Members → List Bool → List Value → Type 0
SlotsSoFar slots properties found filled values =
    HoldEachSoFar (HoldsSoFar slots (λ name. get_member name found)) properties filled values
