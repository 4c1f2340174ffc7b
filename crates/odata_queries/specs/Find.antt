-- The filter of a query among any other options (OData URL Conventions 4.01, section 5; RFC 3986, section 2.1).
use Rattle.std.specs.Prelude.{◌≡◌, ℕ, ◌+◌, ◌-◌, ◌<◌, ◌≤◌, ◌⊎◌, true, false, All, List, [], length, slice_range, take, Option, Some, None, string_bytes}
use Rattle.std.specs.List.{count_by, slice_index_or}
use Rattle.percent_encoding.specs.Percent.{percent_decode}
use Rattle.odata_queries.specs.Disguise.{is_disguised}
use Rattle.odata_queries.specs.Query.{IsDecodable, IsFirstBadEscape, IsNoText, is_filter, name_of, option_start, options_of, value_of}
use Rattle.odata_queries.specs.declared.find_fault.FindFault.{FindFault}
use Rattle.odata_queries.specs.declared.find_fault.FindFault.TheVariants.{BadEscape, NotUtf8, Repeated, Disguised}
use Rattle.odata_queries.specs.declared.found_filter.FoundFilter.{FoundFilter}
use Rattle.odata_text.specs.declared.span.Span.{Span}

-- What is found.

-- a filter's text, decoded, and where its piece and its value stand, in bytes of the query
pub record FoundModel : Type 0 where
  pub text : List ℕ
  pub piece : Span
  pub value : Span

-- what a found filter stands for: its text and its spans
abbrev pub found_model : FoundFilter → FoundModel
found_model found = record { text = string_bytes found.text; piece = found.piece; value = found.value }

-- what the filter's piece gives that begins at start; without a `=` its value is empty and stands at its end
unfoldable pub found_in : List ℕ → ℕ → FoundModel
found_in piece start =
    let stop = start + length piece in
    let value_start = stop - length (value_of piece) in
    record {
      text = percent_decode (value_of piece);
      piece = record { start = start; stop = stop };
      value = record { start = value_start; stop = stop };
    }

-- Queries without a fault.

-- the name is a text, the value too where the piece is the filter's, and nothing is disguised
pub record IsClear (piece : List ℕ) : Type 0 where
  pub name : IsDecodable (name_of piece)
  pub value : is_filter piece ≡ true → IsDecodable (value_of piece)
  pub undisguised : is_disguised piece ≡ false

-- clear pieces, at most one of them the filter's
pub record AreClear (pieces : List (List ℕ)) : Type 0 where
  pub clear : All IsClear pieces
  pub single : count_by is_filter pieces ≤ 1

-- the piece with this number is the filter's, and gives this
pub record IsFoundAt (pieces : List (List ℕ)) (found : FoundModel) (number : ℕ) : Type 0 where
  pub within : number < length pieces
  pub filter : is_filter (slice_index_or pieces number []) ≡ true
  pub gives : found ≡ found_in (slice_index_or pieces number []) (option_start pieces number)

-- one of the pieces is the filter's, and gives this; or none is the filter's
abbrev pub HasFound : List (List ℕ) → Option FoundModel → Type 0
HasFound pieces None = count_by is_filter pieces ≡ 0
HasFound pieces (Some found) = (number : ℕ) × IsFoundAt pieces found number

-- what a query without a fault asks for
pub record IsFoundIn (query : List ℕ) (found : Option FoundModel) : Type 0 where
  pub clear : AreClear (options_of query)
  pub has : HasFound (options_of query) found

-- the spans lie in the query, the value ends its piece, and its bytes, decoded, are the text
pub record IsPlaced (query : List ℕ) (found : FoundModel) : Type 0 where
  pub within : found.piece.stop ≤ length query
  pub ends : found.value.stop ≡ found.piece.stop
  pub after : found.piece.start ≤ found.value.start
  pub order : found.value.start ≤ found.value.stop
  pub filter : is_filter (slice_range query found.piece.start found.piece.stop) ≡ true
  pub text : percent_decode (slice_range query found.value.start found.value.stop) ≡ found.text

-- Faults.

-- what is wrong with a name or a value, as in the query of a filter alone
abbrev pub IsTextFault : List ℕ → ℕ → ℕ → FindFault → Type 0
IsTextFault part number start (BadEscape place) = IsFirstBadEscape part start place
IsTextFault part number start (NotUtf8 option) = (option ≡ number) × IsNoText part
IsTextFault part number start _ = ⊥

-- a second filter goes first, then what is disguised
abbrev pub IsChoiceFault : List ℕ → ℕ → ℕ → FindFault → Type 0
IsChoiceFault piece number filters (Repeated option) =
    (option ≡ number) × (is_filter piece ≡ true) × (0 < filters)
IsChoiceFault piece number filters (Disguised option) =
    (option ≡ number) × (is_disguised piece ≡ true) × (is_filter piece ≡ true → filters ≡ 0)
IsChoiceFault piece number filters _ = ⊥

-- the name's own fault goes first, then that of the filter's value
abbrev pub IsPieceFault : List ℕ → ℕ → ℕ → ℕ → FindFault → Type 0
IsPieceFault piece number start filters fault =
    IsTextFault (name_of piece) number start fault
    ⊎ ((IsDecodable (name_of piece) × (is_filter piece ≡ true)
    × IsTextFault (value_of piece) number (start + length (name_of piece) + 1) fault)
    ⊎ (IsDecodable (name_of piece) × (is_filter piece ≡ true → IsDecodable (value_of piece))
    × IsChoiceFault piece number filters fault))

-- the fault of a piece, with none among those before it
pub record IsFindFault (query : List ℕ) (fault : FindFault) : Type 0 where
  pub number : ℕ
  pub within : number < length (options_of query)
  pub before : AreClear (take number (options_of query))
  pub at : IsPieceFault (slice_index_or (options_of query) number []) number
      (option_start (options_of query) number) (count_by is_filter (take number (options_of query))) fault
