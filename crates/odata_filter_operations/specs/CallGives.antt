-- What a call of a function evaluates to (OData URL Conventions 4.01, sections 5.1.1.4 to 5.1.1.8).
use Rattle.std.specs.Prelude.{◌≡◌, ℕ, List, [], ◌∷◌, Bool, true, false}
use Rattle.edm_values.specs.MomentParts.{MomentParts}
use Rattle.edm_values.specs.Val.{Val, null}
use Rattle.odata_signatures.specs.Functions.{IsNamed}
use Rattle.odata_signatures.specs.declared.function.Function.{Function}
use Rattle.odata_filter_operations.specs.FunctionGives.{FunctionGives}
use Rattle.odata_filter_operations.specs.Outcome.{Outcome, gives}

-- whether one of the values is null
abbrev pub has_null : List Val → Bool
has_null [] = false
has_null (null ∷ more) = true
has_null (v ∷ more) = has_null more

-- null where one is null, else what is given of them
abbrev pub UnlessNull : Bool → (Outcome → Type 0) → Outcome → Type 0
UnlessNull true Gives o = o ≡ gives null
UnlessNull false Gives o = Gives o

-- the function, of the values of all its arguments
abbrev pub CallGives : MomentParts → Function → List Val → Outcome → Type 0
CallGives now function values = UnlessNull (has_null values) (FunctionGives now function values)

-- the function of that name, after its arguments
pub record CallMeans
    (now : MomentParts) (asked : List ℕ) (Arguments : (List Val → Outcome → Type 0) → Outcome → Type 0) (o : Outcome)
    : Type 0 where
  pub function : Function
  pub named : IsNamed function asked
  pub given : Arguments (CallGives now function) o
