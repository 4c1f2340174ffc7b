-- Outcomes as numbers, and tables of them.
use Rattle.std.specs.Prelude.{◌≡◌, ◌<◌, ℕ, ◌+◌, ◌*◌, Some, pos, slice_get, true, false}
use Rattle.edm_values.specs.Val.{null, boolean, whole}
use Rattle.odata_filter_operations.specs.Outcome.{Outcome, gives, overflow, divides_by_zero}
use Rattle.sql_tree.specs.TableDigits.{digits_of}
use Rattle.sql_tree.specs.declared.look_up.LookUp.{LookUp}

-- the code of what a filter evaluates to: 0 for false, 1 for true, 2 for null, 3 for Overflow and 4 for DivideByZero; 5
-- for what is none of these
abbrev pub code_of : Outcome → ℕ
code_of (gives (boolean false)) = 0
code_of (gives (boolean true)) = 1
code_of (gives null) = 2
code_of overflow = 3
code_of divides_by_zero = 4
code_of _ = 5

-- a truth value, null or a fault
abbrev pub IsCoded : Outcome → Type 0
IsCoded (gives (boolean b)) = Unit {0}
IsCoded (gives null) = Unit {0}
IsCoded overflow = Unit {0}
IsCoded divides_by_zero = Unit {0}
IsCoded _ = ⊥

-- what a table has at an index
abbrev pub DigitGives : LookUp → ℕ → Outcome → Type 0
DigitGives table place o =
    (digit : ℕ) × (slice_get (digits_of table) place ≡ Some digit) × (o ≡ gives (whole (pos digit)))

-- at one code, and at two codes
abbrev pub OneLooked : LookUp → Outcome → Outcome → Type 0
OneLooked table (gives (whole (pos a))) o = (a < 5) × DigitGives table a o
OneLooked table _ o = ⊥

abbrev pub TwoLooked : LookUp → Outcome → Outcome → Outcome → Type 0
TwoLooked table (gives (whole (pos a))) (gives (whole (pos b))) o = (a < 5) × (b < 5) × DigitGives table (5 * a + b) o
TwoLooked table _ _ o = ⊥
