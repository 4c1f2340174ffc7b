-- Tables of the codes of truth values, null and faults: 0 for false, 1 for true, 2 for null, 3 for Overflow and 4 for
-- DivideByZero.
use Rattle.std.specs.Prelude.{ℕ, ◌+◌, List, [], ◌∷◌, map}
use Rattle.sql_tree.specs.declared.look_up.LookUp.{LookUp}

-- a table's digits, by rows of five: the row is that of the first code
abbrev pub digits_of : LookUp → List ℕ
digits_of LookUp.Not = 1 ∷ 0 ∷ 2 ∷ 3 ∷ 4 ∷ []
digits_of LookUp.And =
    0 ∷ 0 ∷ 0 ∷ 0 ∷ 0 ∷ 0 ∷ 1 ∷ 2 ∷ 3 ∷ 4 ∷ 0 ∷ 2 ∷ 2 ∷ 3 ∷ 4 ∷ 3 ∷ 3 ∷ 3 ∷ 3 ∷ 3 ∷ 4 ∷ 4 ∷ 4 ∷ 4 ∷ 4 ∷ []
digits_of LookUp.Or =
    0 ∷ 1 ∷ 2 ∷ 3 ∷ 4 ∷ 1 ∷ 1 ∷ 1 ∷ 1 ∷ 1 ∷ 2 ∷ 1 ∷ 2 ∷ 3 ∷ 4 ∷ 3 ∷ 3 ∷ 3 ∷ 3 ∷ 3 ∷ 4 ∷ 4 ∷ 4 ∷ 4 ∷ 4 ∷ []
digits_of LookUp.Equal =
    1 ∷ 0 ∷ 0 ∷ 3 ∷ 4 ∷ 0 ∷ 1 ∷ 0 ∷ 3 ∷ 4 ∷ 0 ∷ 0 ∷ 1 ∷ 3 ∷ 4 ∷ 3 ∷ 3 ∷ 3 ∷ 3 ∷ 3 ∷ 4 ∷ 4 ∷ 4 ∷ 4 ∷ 4 ∷ []
digits_of LookUp.NotEqual =
    0 ∷ 1 ∷ 1 ∷ 3 ∷ 4 ∷ 1 ∷ 0 ∷ 1 ∷ 3 ∷ 4 ∷ 1 ∷ 1 ∷ 0 ∷ 3 ∷ 4 ∷ 3 ∷ 3 ∷ 3 ∷ 3 ∷ 3 ∷ 4 ∷ 4 ∷ 4 ∷ 4 ∷ 4 ∷ []
digits_of LookUp.Greater =
    0 ∷ 0 ∷ 0 ∷ 3 ∷ 4 ∷ 1 ∷ 0 ∷ 0 ∷ 3 ∷ 4 ∷ 0 ∷ 0 ∷ 0 ∷ 3 ∷ 4 ∷ 3 ∷ 3 ∷ 3 ∷ 3 ∷ 3 ∷ 4 ∷ 4 ∷ 4 ∷ 4 ∷ 4 ∷ []
digits_of LookUp.AtLeast =
    1 ∷ 0 ∷ 0 ∷ 3 ∷ 4 ∷ 1 ∷ 1 ∷ 0 ∷ 3 ∷ 4 ∷ 0 ∷ 0 ∷ 1 ∷ 3 ∷ 4 ∷ 3 ∷ 3 ∷ 3 ∷ 3 ∷ 3 ∷ 4 ∷ 4 ∷ 4 ∷ 4 ∷ 4 ∷ []
digits_of LookUp.Less =
    0 ∷ 1 ∷ 0 ∷ 3 ∷ 4 ∷ 0 ∷ 0 ∷ 0 ∷ 3 ∷ 4 ∷ 0 ∷ 0 ∷ 0 ∷ 3 ∷ 4 ∷ 3 ∷ 3 ∷ 3 ∷ 3 ∷ 3 ∷ 4 ∷ 4 ∷ 4 ∷ 4 ∷ 4 ∷ []
digits_of LookUp.AtMost =
    1 ∷ 1 ∷ 0 ∷ 3 ∷ 4 ∷ 0 ∷ 1 ∷ 0 ∷ 3 ∷ 4 ∷ 0 ∷ 0 ∷ 1 ∷ 3 ∷ 4 ∷ 3 ∷ 3 ∷ 3 ∷ 3 ∷ 3 ∷ 4 ∷ 4 ∷ 4 ∷ 4 ∷ 4 ∷ []
digits_of LookUp.IsNull = 0 ∷ 0 ∷ 1 ∷ 3 ∷ 4 ∷ []
digits_of LookUp.IsNotNull = 1 ∷ 1 ∷ 0 ∷ 3 ∷ 4 ∷ []
digits_of LookUp.Never = 0 ∷ 0 ∷ 0 ∷ 3 ∷ 4 ∷ []

-- how many codes a table takes
abbrev pub arity_of_table : LookUp → ℕ
arity_of_table LookUp.Not = 1
arity_of_table LookUp.IsNull = 1
arity_of_table LookUp.IsNotNull = 1
arity_of_table LookUp.Never = 1
arity_of_table _ = 2

-- its digits as a text
abbrev pub table_text : LookUp → List ℕ
table_text table = map (λ digit. 48 + digit) (digits_of table)
