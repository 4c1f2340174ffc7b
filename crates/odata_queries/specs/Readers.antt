-- Readers of queries: which options others take for a query's filter (URL Standard, section 5.1; RFC 3986, 2.1).
use Rattle.std.specs.Prelude.{◌≡◌, ℕ, ◌<◌, ◌≤◌, ◌⊎◌, ◌==◌, Bool, ◌&&◌, ◌||◌, not, if◌then◌else◌, true, List, [], ◌∷◌, ◌++◌, length}
use Rattle.std.specs.List.{filter, list_all, slice_index_or}
use Rattle.std.specs.Str.{chars, is_utf8}
use Rattle.odata_queries.specs.Disguise.{decoded_once, is_back, is_front, is_mark, is_silent, is_system_option, open_text, parts_at}
use Rattle.odata_queries.specs.Query.{is_filter_name, name_of, options_of}

-- what a reader of queries chooses; each splits at `&`, and a part's name stands before its first `=`
pub record Reader : Type 0 where
  -- it splits options at `;` too: Rack 2, CGI.pm, older CPythons
  pub semicolons : Bool
  -- it begins anew at a `?`, but in a custom option's value: who is handed a whole URL, URLSearchParams, System.Web
  pub urls : Bool
  -- so often it decodes names: once, as nearly all do; never; twice, if a proxy before it decodes too
  pub times : ℕ
  -- it takes `%u00XX` for an escape too: CGI.pm, System.Web
  pub long : Bool
  -- it passes over silent characters: System.Web, which compares names by a culture's rules
  pub passes : Bool
  -- it takes decoded names apart at these: PHP at a NUL, who passes on decoded queries at `;` and `&`
  pub apart : ℕ → Bool

-- a reader of the family: it decodes at most twice, and takes names apart at marks alone
pub record IsReader (reader : Reader) : Type 0 where
  pub times : reader.times ≤ 2
  pub apart : (c : ℕ) → reader.apart c ≡ true → is_mark c ≡ true

-- a name as the reader decodes it
abbrev pub decoded_by : Reader → List ℕ → List ℕ
decoded_by reader name =
    if reader.times == 0 then name else if reader.times == 1 then decoded_once reader.long name
    else decoded_once reader.long (decoded_once reader.long name)

-- the characters of a text, as the reader sees them
abbrev pub characters_for : Reader → List ℕ → List ℕ
characters_for reader text = if reader.passes then filter (λ c. not (is_silent c)) (chars text) else chars text

-- nothing, or what ends in a character at which names are taken apart
abbrev pub BeginsWord : (ℕ → Bool) → List ℕ → Type 0
BeginsWord apart before =
    (before ≡ []) ⊎ ((rest : List ℕ) × (c : ℕ) × (before ≡ rest ++ c ∷ []) × (apart c ≡ true))

-- nothing, or what begins with such a character or with `=`
abbrev pub EndsWord : (ℕ → Bool) → List ℕ → Type 0
EndsWord apart after = (after ≡ []) ⊎ ((c : ℕ) × (rest : List ℕ) × (after ≡ c ∷ rest) × ((apart c || c == 61) ≡ true))

-- a name stands as a word in these characters, but for what is taken off on either side: PHP and Go take off spaces in
-- front, Rack and qs brackets on both sides, ASP.NET white space on both sides, others nothing
pub record StandsIn (apart : ℕ → Bool) (characters name : List ℕ) : Type 0 where
  pub before : List ℕ
  pub front : List ℕ
  pub back : List ℕ
  pub after : List ℕ
  pub whole : characters ≡ before ++ (front ++ (name ++ (back ++ after)))
  pub begins : BeginsWord apart before
  pub in_front : list_all is_front front ≡ true
  pub in_back : list_all is_back back ≡ true
  pub ends : EndsWord apart after

-- the reader takes this part of an option for a filter
pub record TakesForFilter (reader : Reader) (part : List ℕ) : Type 0 where
  pub text : is_utf8 (decoded_by reader (name_of part)) ≡ true
  pub name : List ℕ
  pub filter : is_filter_name name ≡ true
  pub stands : StandsIn reader.apart (characters_for reader (decoded_by reader (name_of part))) name

-- the parts of an option for the reader
abbrev pub parts_for : Reader → List ℕ → List (List ℕ)
parts_for reader option = parts_at reader.semicolons (reader.urls && is_system_option option) (open_text option)

-- the reader finds a filter in the part with this number of the option with this number
pub record FindsFilter (reader : Reader) (query : List ℕ) (option part : ℕ) : Type 0 where
  pub option_within : option < length (options_of query)
  pub part_within : part < length (parts_for reader (slice_index_or (options_of query) option []))
  pub takes : TakesForFilter reader
      (slice_index_or (parts_for reader (slice_index_or (options_of query) option [])) part [])
