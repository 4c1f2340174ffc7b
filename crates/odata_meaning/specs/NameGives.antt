-- What a name stands for: a range variable, else a property (OData URL Conventions 4.01, 5.1.1.13 and 5.1.1.15).
use Rattle.std.specs.Prelude.{◌≡◌, ℕ, List, Option, Some, None}
use Rattle.edm_values.specs.Val.{Val, null, fields, FieldVal, absent, present}
use Rattle.odata_filter_operations.specs.Outcome.{Outcome, gives}
use Rattle.odata_meaning.specs.Environment.{Environment, variable_value}

-- what a record has under a name is the outcome, if it has something
abbrev pub FieldGives : FieldVal → Outcome → Type 0
FieldGives (present v) o = o ≡ gives v
FieldGives absent o = ⊥

-- a step to a property: from null it is null, from a record its value of that name
abbrev pub StepGives : Val → List ℕ → Outcome → Type 0
StepGives null name o = o ≡ gives null
StepGives (fields held) name o = FieldGives (held name) o
StepGives _ name o = ⊥

-- the variable's value where there is a variable, else a step from the entity
abbrev pub FoundGives : Option Val → Val → List ℕ → Outcome → Type 0
FoundGives (Some v) entity name o = o ≡ gives v
FoundGives None entity name o = StepGives entity name o

abbrev pub NameGives : Environment → Val → List ℕ → Outcome → Type 0
NameGives environment entity name = FoundGives (variable_value environment name) entity name
