-- A JSON value that tokens begin with, by `serde_json`'s definition of reading (RFC 8259).
use Rattle.std.specs.Prelude.{◌≡◌, ℕ, List, Some}
use Rattle.json.specs.Token.{Token}
use Rattle.json.specs.Json.{value}
use Rattle.serde_json.specs.Data.{Data}
use Rattle.serde_json.specs.Read.{of_json, converted}

-- the tokens begin with a value, nested no deeper than that, of which P holds
pub record Reads (depth : ℕ) (tokens rest : List Token) (P : Data → Type 0) : Type 0 where
  pub json : Data
  pub is_read : converted of_json (value depth tokens) ≡ Some (json, rest)
  pub holds : P json
