-- What a token says after an operand, with how tightly that binds. For private clauses.
use Rattle.std.specs.Prelude.{◌≡◌, Option, None, Some}
use Rattle.odata_syntax.specs.declared.parser.next_operator.Binding.{Binding}
use Rattle.odata_syntax.specs.declared.parser.next_operator.Next.{Next}
use Rattle.odata_syntax.specs.private.Machine.{next_level}

-- it is what was found, if anything was
abbrev pub IsBinding : Option Binding → Option Next → Type 0
IsBinding None next = next ≡ None
IsBinding (Some found) next = (next ≡ Some found.next) × (found.level ≡ next_level found.next)
