-- The filter of a query string (OData URL Conventions 4.01, sections 2 and 5; RFC 3986, section 2.1).
use Rattle.std.specs.Prelude.{◌≡◌, ℕ, ◌+◌, ◌<◌, ◌≤◌, ◌⊎◌, Bool, true, false, ◌&&◌, ◌||◌, not, ◌==◌, All, Any, IsUtf8, List, [], ◌∷◌, codes, length, slice_index, take, Option, Some, None}
use Rattle.std.specs.List.{after_first, before_first, count_by, list_any, slice_index_or, slice_split, sum_by}
use Rattle.std.specs.Str.{str_eq_ignore_ascii_case}
use Rattle.percent_encoding.specs.Percent.{is_escape, percent_decode, percent_sign}
use Rattle.odata_queries.specs.declared.query_fault.QueryFault.{QueryFault}
use Rattle.odata_queries.specs.declared.query_fault.QueryFault.TheVariants.{BadEscape, NotUtf8, Repeated, OtherOption}

-- Options.

-- what stands between `&`, numbered from 0; an empty option has an empty name and an empty value
abbrev pub options_of : List ℕ → List (List ℕ)
options_of query = slice_split (λ b. b == 38) query

-- the byte of the query at which the option with this number begins
abbrev pub option_start : List (List ℕ) → ℕ → ℕ
option_start options number = sum_by (λ option. length option + 1) (take number options)

-- what stands before the first `=`, or all
unfoldable pub name_of : List ℕ → List ℕ
name_of option = before_first (λ b. b == 61) option

-- what stands after the first `=`, or nothing
unfoldable pub value_of : List ℕ → List ℕ
value_of option = after_first (λ b. b == 61) option

-- Names and values.

-- a `%` without two hexadecimal digits after it
abbrev pub is_bad_escape : List ℕ → ℕ → Bool
is_bad_escape part place =
    (slice_index part place == percent_sign)
    && not (is_escape percent_sign (slice_index part (place + 1)) (slice_index part (place + 2)))

-- a name or a value that decodes to a text
pub record IsDecodable (part : List ℕ) : Type 0 where
  pub escapes : (place : ℕ) → is_bad_escape part place ≡ false
  pub utf8 : IsUtf8 (percent_decode part)

-- the first bad escape of a part, by its offset in the query; the part begins at start
pub record IsFirstBadEscape (part : List ℕ) (start place : ℕ) : Type 0 where
  pub within : ℕ
  pub bad : is_bad_escape part within ≡ true
  pub first : (earlier : ℕ) → earlier < within → is_bad_escape part earlier ≡ false
  pub global : place ≡ start + within

-- a part whose escapes are whole and decode to no UTF-8
pub record IsNoText (part : List ℕ) : Type 0 where
  pub escapes : (place : ℕ) → is_bad_escape part place ≡ false
  pub not_utf8 : IsUtf8 (percent_decode part) → ⊥

-- what is wrong with the name or the value of the option with this number
abbrev pub IsPartFault : List ℕ → ℕ → ℕ → QueryFault → Type 0
IsPartFault part number start (BadEscape place) = IsFirstBadEscape part start place
IsPartFault part number start (NotUtf8 option) = (option ≡ number) × IsNoText part
IsPartFault part number start _ = ⊥

-- The names of options, decoded.

-- `filter` or `$filter`, in any ASCII case
unfoldable pub is_filter_name : List ℕ → Bool
is_filter_name name =
    str_eq_ignore_ascii_case name (codes "filter") || str_eq_ignore_ascii_case name (codes "$filter")

-- system query options whose `$` may be left out and that change what is asked
abbrev pub refused_words : List (List ℕ)
refused_words =
    codes "apply" ∷ codes "compute" ∷ codes "count" ∷ codes "expand" ∷ codes "format" ∷ codes "orderby"
    ∷ codes "schemaversion" ∷ codes "search" ∷ codes "select" ∷ codes "skip" ∷ codes "top" ∷ []

-- one of these, in any ASCII case
unfoldable pub is_refused_word : List ℕ → Bool
is_refused_word name = list_any (str_eq_ignore_ascii_case name) refused_words

-- a `$` or `@` in front
abbrev pub is_reserved : List ℕ → Bool
is_reserved name = (slice_index name 0 == 36) || (slice_index name 0 == 64)

-- neither the filter's name nor that of a custom option
abbrev pub is_refused_name : List ℕ → Bool
is_refused_name name = not (is_filter_name name) && (is_reserved name || is_refused_word name)

abbrev pub decoded_name : List ℕ → List ℕ
decoded_name option = percent_decode (name_of option)

abbrev pub is_filter : List ℕ → Bool
is_filter option = is_filter_name (decoded_name option)

-- The filter.

-- the filter or a custom option, whose name and value are texts
pub record IsReadable (option : List ℕ) : Type 0 where
  pub name : IsDecodable (name_of option)
  pub value : IsDecodable (value_of option)
  pub known : is_refused_name (decoded_name option) ≡ false

-- readable options, at most one of them the filter
pub record AreFaultless (options : List (List ℕ)) : Type 0 where
  pub readable : All IsReadable options
  pub single : count_by is_filter options ≤ 1

-- one of the options is the filter and has this text, decoded; or none is the filter
abbrev pub HasFilter : List (List ℕ) → Option (List ℕ) → Type 0
HasFilter options None = count_by is_filter options ≡ 0
HasFilter options (Some text) =
    Any (λ option. (is_filter option ≡ true) × (percent_decode (value_of option) ≡ text)) options

-- what a query without a fault asks for
pub record IsFilterOf (query : List ℕ) (filter : Option (List ℕ)) : Type 0 where
  pub faultless : AreFaultless (options_of query)
  pub has : HasFilter (options_of query) filter

-- Faults.

-- a name that may not be there, after so many filters
abbrev pub IsNameFault : List ℕ → ℕ → ℕ → QueryFault → Type 0
IsNameFault name number filters (Repeated option) =
    (option ≡ number) × (is_filter_name name ≡ true) × (0 < filters)
IsNameFault name number filters (OtherOption option) = (option ≡ number) × (is_refused_name name ≡ true)
IsNameFault name number filters _ = ⊥

-- the name's own fault goes first, then the value's
abbrev pub IsOptionFault : List ℕ → ℕ → ℕ → ℕ → QueryFault → Type 0
IsOptionFault option number start filters fault =
    IsPartFault (name_of option) number start fault
    ⊎ ((IsDecodable (name_of option) × IsPartFault (value_of option) number (start + length (name_of option) + 1) fault)
    ⊎ (IsDecodable (name_of option) × IsDecodable (value_of option)
    × IsNameFault (decoded_name option) number filters fault))

-- the fault of an option, with none among those before it
pub record IsQueryFault (query : List ℕ) (fault : QueryFault) : Type 0 where
  pub number : ℕ
  pub within : number < length (options_of query)
  pub before : AreFaultless (take number (options_of query))
  pub at : IsOptionFault (slice_index_or (options_of query) number []) number
      (option_start (options_of query) number) (count_by is_filter (take number (options_of query))) fault
