-- Queries whose filter or first fault is known.
use Rattle.std.specs.Prelude.{ℕ, List, codes}

-- in the filter's value `%2B` is a `+` and `%26` a `&`
abbrev pub escaped_query : List ℕ
escaped_query = codes "$filter=a%2Bb%26c"

abbrev pub escaped_filter : List ℕ
escaped_filter = codes "a+b&c"

-- another system query option before the filter
abbrev pub paged_query : List ℕ
paged_query = codes "$top=5&$filter=Active"
