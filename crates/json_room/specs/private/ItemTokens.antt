-- For private clauses: the items and members that tokens begin with, by `serde_json`'s definition of reading.
use Rattle.std.specs.Prelude.{◌≡◌, ◌≤◌, ℕ, List, ◌∷◌, length, false, Some, is_some}
use Rattle.json.specs.Token.{Token}
use Rattle.json.specs.Json.{value, items, members, parse_map}
use Rattle.serde_json.specs.Data.{Data, Items, no_items, item, Members, no_members}
use Rattle.serde_json.specs.Find.{as_null}
use Rattle.serde_json.specs.Read.{of_json, of_items, of_members, converted}

-- a token is a value that is not null, of which P holds
pub record ReadsToken (token : Token) (P : Data → Type 0) : Type 0 where
  pub json : Data
  pub is_read : (depth : ℕ) (rest : List Token) → converted of_json (value depth (token ∷ rest)) ≡ Some (json, rest)
  pub no_null : is_some (as_null json) ≡ false
  pub holds : P json

-- the tokens begin with an array's items and its closing bracket
pub record ReadsItems (depth : ℕ) (tokens rest : List Token) (P : Items → Type 0) : Type 0 where
  pub jsons : Items
  pub is_read : converted of_items (items (value depth) (length tokens) tokens) ≡ Some (jsons, rest)
  pub holds : P jsons

-- the tokens begin with an object's members and its closing brace
pub record ReadsMembers (depth : ℕ) (tokens rest : List Token) (P : Members → Type 0) : Type 0 where
  pub found : Members
  pub is_read : converted (λ ms. of_members ms no_members) (members (value depth) (length tokens) tokens)
      ≡ Some (found, rest)
  pub holds : P found

-- reading an object's members from the first token on is reading those left, after what was found
pub record MembersLead (depth : ℕ) (first left : List Token) (P : Members → Type 0) : Type 0 where
  pub found : Members
  pub turns : ℕ
  pub enough : length left ≤ turns
  pub leads : converted (λ ms. of_members ms no_members) (members (value depth) (length first) first)
      ≡ converted (λ ms. of_members ms found) (members (value depth) turns left)
  pub holds : P found

abbrev pub append_items : Items → Items → Items
append_items no_items more = more
append_items (item json jsons) more = item json (append_items jsons more)

-- the same of an array's items
pub record ItemsLead (depth : ℕ) (first left : List Token) (P : Items → Type 0) : Type 0 where
  pub found : Items
  pub turns : ℕ
  pub enough : length left ≤ turns
  pub leads : converted of_items (items (value depth) (length first) first)
      ≡ parse_map (append_items found) (converted of_items (items (value depth) turns left))
  pub holds : P found
