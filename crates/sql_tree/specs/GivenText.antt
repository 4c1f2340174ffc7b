-- The text that a parameter is given to an engine as. SQLite sorts instants by their texts, which are of one length.
use Rattle.std.specs.Prelude.{ℕ, ◌-◌, ◌*◌, suc, ℤ, pos, negsuc, ◌+ℤ◌, List, ◌∷◌, ◌++◌, length, replicate, string_bytes}
use Rattle.std.specs.Fmt.{decimal, signed_decimal}
use Rattle.std.specs.Int.{saturate_signed, w128}
use Rattle.sql_tree.specs.declared.dialect.Dialect.{Dialect}
use Rattle.sql_tree.specs.declared.parameter.Parameter.{Parameter}

-- zeros (48) before digits, so many characters in all
abbrev pub zero_filled : ℕ → List ℕ → List ℕ
zero_filled width digits = replicate (width - length digits) 48 ++ digits

-- a whole number likewise; its minus (45) comes first
abbrev pub in_width : ℕ → ℤ → List ℕ
in_width width (pos n) = zero_filled width (decimal n)
in_width width (negsuc n) = 45 ∷ zero_filled (width - 1) (decimal (suc n))

-- the nanoseconds from 0000-12-30T00:00:00Z, of those from 1970-01-01T00:00:00Z; past 128 bits the most that these hold
abbrev pub since_fixed_day : ℤ → ℤ
since_fixed_day nanoseconds = saturate_signed w128 (nanoseconds +ℤ pos (62_135_769_600 * 1_000_000_000))

-- a whole number as its digits, a text as it is; an instant as the digits of its nanoseconds, in SQLite 21 of them
abbrev pub given_text : Dialect → Parameter → List ℕ
given_text dialect (Parameter.Whole n) = signed_decimal n
given_text dialect (Parameter.Text text) = string_bytes text
given_text Dialect.PostgreSql (Parameter.Instant n) = signed_decimal n
given_text Dialect.Sqlite (Parameter.Instant n) = in_width 21 (since_fixed_day n)
