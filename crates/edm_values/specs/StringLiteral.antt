-- String literals (OData ABNF Construction Rules 4.01, section 7, `string`).
use Rattle.std.specs.Prelude.{◌≡◌, ℕ, List, [], ◌∷◌, ◌++◌, ◌==◌, if◌then◌else◌}
use Rattle.edm_values.specs.declared.string_literal.LitFault.{LitFault}
use Rattle.edm_values.specs.declared.string_literal.LitFault.TheVariants.{Form, Memory}

-- a single quote
abbrev pub quote : ℕ
quote = 39

-- a text with each of its quotes written twice
abbrev pub with_doubled_quotes : List ℕ → List ℕ
with_doubled_quotes [] = []
with_doubled_quotes (c ∷ cs) = if c == quote then quote ∷ quote ∷ with_doubled_quotes cs else c ∷ with_doubled_quotes cs

-- the one spelling of a text: between quotes, with its own quotes doubled
abbrev pub string_spelling : List ℕ → List ℕ
string_spelling value = quote ∷ with_doubled_quotes value ++ quote ∷ []

-- the value of a String spelling: the text of which it is the spelling
abbrev pub StringValue : List ℕ → List ℕ → Type 0
StringValue spelling value = spelling ≡ string_spelling value

-- some text has this spelling
abbrev pub IsStringSpelling : List ℕ → Type 0
IsStringSpelling spelling = (value : List ℕ) × StringValue spelling value

-- P, unless it was running out of memory
abbrev pub OnForm : LitFault → Type 0 → Type 0
OnForm Form P = P
OnForm Memory P = Unit {0}

-- what a refusal says of the text; running out of memory says nothing
abbrev pub IsStringFault : List ℕ → LitFault → Type 0
IsStringFault spelling fault = OnForm fault (¬ (IsStringSpelling spelling))
