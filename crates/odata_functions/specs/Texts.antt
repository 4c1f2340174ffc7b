-- Texts as lists of characters, which are Unicode scalar values (OData URL Conventions 4.01, sections 5.1.1.5 and
-- 5.1.1.7).
use Rattle.std.specs.Prelude.{◌≡◌, ◌<◌, ℕ, ℤ, pos, negsuc, List, [], ◌∷◌, ◌++◌, IsTrue, length, take, drop, Some, Result}
use Rattle.std.specs.Char.{is_whitespace}
use Rattle.std.specs.List.{AllByRecursion}
use Rattle.std.specs.Result.{result_map_both}
use Rattle.edm_values.specs.declared.primitive.PrimitiveType.TheVariants.{Int32}
use Rattle.odata_functions.specs.Arithmetic.{ComesWithin}
use Rattle.odata_functions.specs.declared.arithmetic.ArithFault.{ArithFault}

-- the part stands in the text after so many characters
pub record StandsBehind (text part : List ℕ) (count : ℕ) : Type 0 where
  pub before : List ℕ
  pub behind : List ℕ
  pub split : text ≡ before ++ (part ++ behind)
  pub counted : length before ≡ count

-- it stands somewhere in the text
abbrev pub HasPart : List ℕ → List ℕ → Type 0
HasPart text part = (count : ℕ) × StandsBehind text part count

-- the text begins with the part
abbrev pub HasStart : List ℕ → List ℕ → Type 0
HasStart text part = (behind : List ℕ) × (text ≡ part ++ behind)

-- the text ends with it
abbrev pub HasEnd : List ℕ → List ℕ → Type 0
HasEnd text part = (before : List ℕ) × (text ≡ before ++ part)

-- the number of characters before the part where it first stands, or -1 where it stands nowhere
abbrev pub IsPlaceOf : List ℕ → List ℕ → ℤ → Type 0
IsPlaceOf text part (pos n) = StandsBehind text part n × ((k : ℕ) → k < n → ¬ StandsBehind text part k)
IsPlaceOf text part (negsuc n) = (n ≡ 0) × ¬ HasPart text part

-- a number of characters; one below zero counts as zero
abbrev pub from_zero : ℤ → ℕ
from_zero (pos n) = n
from_zero (negsuc n) = 0

-- the text from a character on
abbrev pub rest_from : ℤ → List ℕ → List ℕ
rest_from start text = drop (from_zero start) text

-- at most so many characters of it
abbrev pub front_of : ℤ → List ℕ → List ℕ
front_of most text = take (from_zero most) text

-- the same from an index on
abbrev pub part_from : ℤ → ℤ → List ℕ → List ℕ
part_from start most text = front_of most (rest_from start text)

-- white space alone
abbrev pub IsBlank : List ℕ → Type 0
IsBlank = AllByRecursion (λ c. IsTrue (is_whitespace c))

-- the text without the white space at both ends
pub record IsTrimmed (text part : List ℕ) : Type 0 where
  pub before : List ℕ
  pub behind : List ℕ
  pub split : text ≡ before ++ (part ++ behind)
  pub blank_before : IsBlank before
  pub blank_behind : IsBlank behind
  pub first : (c : ℕ) (more : List ℕ) → part ≡ c ∷ more → ¬ IsTrue (is_whitespace c)
  pub last : (c : ℕ) (more : List ℕ) → part ≡ more ++ c ∷ [] → ¬ IsTrue (is_whitespace c)

-- a number of characters as an Edm.Int32: itself where it lies within that, else Overflow
abbrev pub CountComes : ℤ → Result ℤ ArithFault → Type 0
CountComes n answer = ComesWithin Int32 n (result_map_both Some (λ fault. fault) answer)
