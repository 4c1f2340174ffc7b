-- Which JSON value bytes are the text of (RFC 8259), whether they are a schema's document or a row.
use Rattle.std.specs.Prelude.{◌≡◌, ℕ, List, Some, None, IsUtf8}
use Rattle.serde_json.specs.Data.{Data}
use Rattle.serde_json.specs.Read.{read}

-- the bytes are the text of that value
abbrev pub IsJsonOf : List ℕ → Data → Type 0
IsJsonOf bytes json = IsUtf8 bytes × (read bytes ≡ Some json)

-- the bytes are the text of no value
abbrev pub IsNoJson : List ℕ → Type 0
IsNoJson bytes = IsUtf8 bytes → read bytes ≡ None
