-- For private clauses: forms that ask for one code.
use Rattle.std.specs.Prelude.{ℤ}
use Rattle.sql_tree.specs.Digits.{number_of}
use Rattle.sql_tree.specs.declared.sql_node.Digit.{Digit}
use Rattle.sql_forms.specs.declared.terms.Form.{Form}

-- a form that asks whether the code is 1, or 0
abbrev pub IsAskedCode : Form → Type 0
IsAskedCode Form.Keeps = Unit {0}
IsAskedCode Form.Denies = Unit {0}
IsAskedCode form = ⊥

-- that code
abbrev pub asked_digit : Form → Digit
asked_digit Form.Denies = Digit.Zero
asked_digit form = Digit.One

abbrev pub asked_number : Form → ℤ
asked_number form = number_of (asked_digit form)
