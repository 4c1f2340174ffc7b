-- For private clauses: what is written of one member of an enumeration.
use Rattle.std.specs.Prelude.{ℕ, zero, suc, List, [], ◌++◌, Option, Some, None, codes}
use Rattle.std.specs.Fmt.{signed_decimal}
use Rattle.edm_enumerations.specs.EnumerationModel.{MemberModel}

-- a comma before each but the first
abbrev pub name_start : ℕ → List ℕ
name_start zero = codes "'"
name_start (suc place) = codes ", '"

abbrev pub number_start : ℕ → List ℕ
number_start zero = []
number_start (suc place) = codes ", "

-- its name between quotes, its number, and a case of it
abbrev pub name_piece : ℕ → Option MemberModel → List ℕ
name_piece place None = []
name_piece place (Some m) = name_start place ++ (m.name ++ codes "'")

abbrev pub number_piece : ℕ → Option MemberModel → List ℕ
number_piece place None = []
number_piece place (Some m) = number_start place ++ signed_decimal m.number

abbrev pub case_piece : Option MemberModel → List ℕ
case_piece None = []
case_piece (Some m) = codes " WHEN '" ++ (m.name ++ (codes "' THEN " ++ signed_decimal m.number))
