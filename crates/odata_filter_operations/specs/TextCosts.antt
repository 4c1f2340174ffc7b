-- What it costs to take and to make texts: whole KiB of each, so nothing for a text of fewer than 1,024 bytes (OData URL
-- Conventions 4.01, sections 5.1.1.1, 5.1.1.5 and 5.1.1.7).
use Rattle.std.specs.Prelude.{◌≡◌, ◌+◌, ◌*◌, ◌/◌, ℕ, List, [], ◌∷◌, length}
use Rattle.edm_values.specs.Val.{Val, Vals, item, items, no_items, text}
use Rattle.odata_signatures.specs.Functions.{IsNamed}
use Rattle.odata_signatures.specs.declared.function.Function.{Function}
use Rattle.odata_signatures.specs.declared.function.Function.TheVariants.{Concat, ToLower, ToUpper}
use Rattle.odata_syntax.specs.declared.binary_operator.BinaryOperator.{BinaryOperator}
use Rattle.odata_syntax.specs.declared.binary_operator.BinaryOperator.TheVariants.{Comparison}

-- the whole KiB of a text; another value has none
abbrev pub text_cost : Val → ℕ
text_cost (text bytes) = length bytes / 1024
text_cost _ = 0

-- of each of some values
abbrev pub texts_cost : List Val → ℕ
texts_cost [] = 0
texts_cost (v ∷ more) = text_cost v + texts_cost more

-- a comparison of two texts takes both; another one takes none
abbrev pub comparison_cost : Val → Val → ℕ
comparison_cost (text s) (text t) = text_cost (text s) + text_cost (text t)
comparison_cost l r = 0

-- of operators comparisons alone take texts
abbrev pub operator_cost : BinaryOperator → Val → Val → ℕ
operator_cost (Comparison comparison) l r = comparison_cost l r
operator_cost operator l r = 0

-- how long a text a function makes of values: of two texts both together, in lower or upper case as long a one. A part of
-- a text, as `substring` and `trim` give one, is none that is made
abbrev pub made_length : Function → List Val → ℕ
made_length Concat (text s ∷ text t ∷ []) = length s + length t
made_length ToLower (text s ∷ []) = length s
made_length ToUpper (text s ∷ []) = length s
made_length function values = 0

-- a function walks the texts among its values, where a comparison takes both at once, so each KiB of them counts eight;
-- what it makes takes memory too, and each KiB of that counts sixteen
abbrev pub call_cost : Function → List Val → ℕ
call_cost function values = 8 * texts_cost values + 16 * (made_length function values / 1024)

-- what the function of that name costs on values
pub record CallCosts (asked : List ℕ) (values : List Val) (n : ℕ) : Type 0 where
  pub function : Function
  pub named : IsNamed function asked
  pub is : n ≡ call_cost function values

-- a value that is no text of 1,024 bytes or more, and no collection with one
abbrev pub AreShort : Vals → Type 0
AreShort no_items = Unit {0}
AreShort (item v more) = (text_cost v ≡ 0) × AreShort more

abbrev pub IsShort : Val → Type 0
IsShort (items values) = AreShort values
IsShort v = text_cost v ≡ 0
