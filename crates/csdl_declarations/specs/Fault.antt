-- What may be wrong with a CSDL JSON document.
use Rattle.std.specs.Prelude.{ℕ, [], ◌∷◌, List, Bool, true, false}

-- a fault with the names that it reports; `owner` is a type's whole name
pub data Fault : Type 0 where
  not_json : Fault
  not_object : Fault
  version : Fault
  bad_type : List ℕ → Fault
  bad_property : List ℕ → List ℕ → Fault
  unknown_base : List ℕ → Fault
  base_cycle : List ℕ → Fault
  property_twice : List ℕ → List ℕ → Fault
  bad_enum_member : List ℕ → List ℕ → Fault
  too_large : Fault

-- one fault where a test fails
abbrev pub unless : Bool → Fault → List Fault
unless true fault = []
unless false fault = fault ∷ []
