-- The text between the quotes of a String literal.
use Rattle.std.specs.Prelude.{◌≡◌, ℕ, List}
use Rattle.edm_values.specs.StringLiteral.{with_doubled_quotes, OnForm}
use Rattle.edm_values.specs.declared.string_literal.LitFault.{LitFault}

-- what a refusal says of it; running out of memory says nothing
abbrev pub IsInnerFault : List ℕ → LitFault → Type 0
IsInnerFault inner fault = OnForm fault ((value : List ℕ) → ¬ (inner ≡ with_doubled_quotes value))
