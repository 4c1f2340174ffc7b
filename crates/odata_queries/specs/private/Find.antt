-- What the functions that find a query's filter return.
use Rattle.std.specs.Prelude.{◌≡◌, ℕ, ◌<◌, if◌then◌else◌, true, ⊤, List, Option, Some, None}
use Rattle.odata_queries.specs.Find.{FoundModel, found_in}
use Rattle.odata_queries.specs.Query.{IsDecodable, is_filter, name_of, value_of}

-- the name is a text, and the value too where the piece is the filter's
pub record IsReadablePiece (piece : List ℕ) : Type 0 where
  pub name : IsDecodable (name_of piece)
  pub value : is_filter piece ≡ true → IsDecodable (value_of piece)

-- what a piece gives that begins at start
abbrev pub found_of : List ℕ → ℕ → Option FoundModel
found_of piece start = if is_filter piece then Some (found_in piece start) else None

-- whether there is a filter among so many
abbrev pub IsFilterAmong : Option FoundModel → ℕ → Type 0
IsFilterAmong None filters = filters ≡ 0
IsFilterAmong (Some found) filters = 0 < filters

-- two pieces are the filter's
abbrev pub AreTwoFound : Option FoundModel → Option FoundModel → Type 0
AreTwoFound (Some found) (Some other) = ⊤
AreTwoFound _ _ = ⊥

-- the filter after one more piece, unless there are two
abbrev pub KeepsFound : Option FoundModel → Option FoundModel → Option FoundModel → Type 0
KeepsFound None found kept = kept ≡ found
KeepsFound (Some first) None kept = kept ≡ Some first
KeepsFound (Some first) (Some other) kept = ⊥
