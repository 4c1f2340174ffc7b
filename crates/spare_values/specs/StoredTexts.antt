-- Texts that are put into a row's slots.
use Rattle.std.specs.Prelude.{◌≡◌, ℕ, List, String, string_bytes}
use Rattle.std.specs.declared.alloc.Global.{Global}
use Rattle.edm_values.specs.declared.value.Value.{Value, Text}

-- the value is a text of these bytes
abbrev pub HoldsText : Value → List ℕ → Type 0
HoldsText value bytes = (s : String Global) × (value ≡ Text s) × (string_bytes s ≡ bytes)
