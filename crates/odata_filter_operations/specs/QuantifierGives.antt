-- When `any` and `all` are decided (OData URL Conventions 4.01, sections 5.1.1.13.1 and 5.1.1.13.2).
use Rattle.std.specs.Prelude.{◌≡◌, ◌⊎◌, ◌<◌, ℕ, true, false}
use Rattle.edm_values.specs.Val.{Val, null, boolean}
use Rattle.odata_syntax.specs.declared.node.Quantifier.{Quantifier}
use Rattle.odata_syntax.specs.declared.node.Quantifier.TheVariants.{Any, All}
use Rattle.odata_filter_operations.specs.LeftFirst.{After}
use Rattle.odata_filter_operations.specs.Outcome.{Outcome, gives}

-- a value of the body that decides: true makes `any` true, false or null makes `all` false
abbrev pub DecisionGives : Quantifier → Val → Outcome → Type 0
DecisionGives Any (boolean true) o = o ≡ gives (boolean true)
DecisionGives All (boolean false) o = o ≡ gives (boolean false)
DecisionGives All null o = o ≡ gives (boolean false)
DecisionGives quantifier _ o = ⊥

-- a value that does not decide
abbrev pub IsUndecided : Quantifier → Val → Type 0
IsUndecided Any (boolean false) = Unit {0}
IsUndecided Any null = Unit {0}
IsUndecided All (boolean true) = Unit {0}
IsUndecided quantifier _ = ⊥

-- where none decides, `any` is false and `all` is true
abbrev pub undecided_val : Quantifier → Val
undecided_val Any = boolean false
undecided_val All = boolean true

-- the body evaluates to a value that does not decide
abbrev pub Passes : Quantifier → (Outcome → Type 0) → Type 0
Passes quantifier Body = (v : Val) × Body (gives v) × IsUndecided quantifier v

-- at some index the body decides or has a fault, and at no earlier one it does
pub record DecidesAtPlace (quantifier : Quantifier) (At : ℕ → Outcome → Type 0) (o : Outcome) : Type 0 where
  pub place : ℕ
  pub here : After (At place) (DecisionGives quantifier) o
  pub earlier : (k : ℕ) → k < place → Passes quantifier (At k)

-- at none of so many indexes it does
pub record PassesAll (quantifier : Quantifier) (count : ℕ) (At : ℕ → Outcome → Type 0) (o : Outcome) : Type 0 where
  pub each : (k : ℕ) → k < count → Passes quantifier (At k)
  pub is : o ≡ gives (undecided_val quantifier)

-- of the outcomes of the body at so many indexes, counted from 0
abbrev pub QuantifierGives : Quantifier → ℕ → (ℕ → Outcome → Type 0) → Outcome → Type 0
QuantifierGives quantifier count At o = DecidesAtPlace quantifier At o ⊎ PassesAll quantifier count At o
