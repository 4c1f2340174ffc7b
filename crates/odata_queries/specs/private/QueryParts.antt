-- What the functions that read a query's options answer.
use Rattle.std.specs.Prelude.{◌≡◌, ℕ, ◌<◌, true, false, ⊤, List, Option, Some, None}
use Rattle.percent_encoding.specs.Percent.{percent_decode}
use Rattle.odata_queries.specs.Query.{is_bad_escape, is_filter, value_of}

-- a bad escape, and none before it
pub record IsFirstBad (part : List ℕ) (place : ℕ) : Type 0 where
  pub bad : is_bad_escape part place ≡ true
  pub first : (earlier : ℕ) → earlier < place → is_bad_escape part earlier ≡ false

-- what a readable option gives: its value, decoded, if it is the filter
abbrev pub GivesFilter : List ℕ → Option (List ℕ) → Type 0
GivesFilter option None = is_filter option ≡ false
GivesFilter option (Some text) = (is_filter option ≡ true) × (text ≡ percent_decode (value_of option))

-- two options are the filter
abbrev pub AreTwoFilters : Option (List ℕ) → Option (List ℕ) → Type 0
AreTwoFilters (Some text) (Some other) = ⊤
AreTwoFilters _ _ = ⊥

-- the filter after one more option, unless there are two
abbrev pub KeepsFilter : Option (List ℕ) → Option (List ℕ) → Option (List ℕ) → Type 0
KeepsFilter None found kept = kept ≡ found
KeepsFilter (Some text) None kept = kept ≡ Some text
KeepsFilter (Some text) (Some other) kept = ⊥
