-- The numbers that a tree of SQL itself has: codes, and bits of a code.
use Rattle.std.specs.Prelude.{ℤ, pos}
use Rattle.sql_tree.specs.declared.sql_node.Digit.{Digit}

abbrev pub number_of : Digit → ℤ
number_of Digit.Zero = pos 0
number_of Digit.One = pos 1
number_of Digit.Two = pos 2
number_of Digit.Three = pos 3
number_of Digit.Seven = pos 7
