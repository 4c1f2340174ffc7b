-- Names that are the filter's only for some readers of a query (RFC 3986, sections 2.1 and 2.2).
use Rattle.std.specs.Prelude.{ℕ, ◌+◌, ◌-◌, ◌==◌, Bool, ◌&&◌, ◌||◌, not, if◌then◌else◌, true, false, nat_lt, List, [], ◌∷◌, codes, drop, length, map, slice_index, take}
use Rattle.std.specs.Char.{is_ascii_whitespace, is_control, is_digit, is_whitespace}
use Rattle.std.specs.List.{after_first, filter, list_any, prefix_len, slice_split, suffix_len}
use Rattle.std.specs.Str.{chars, is_utf8, str_eq_ignore_ascii_case}
use Rattle.percent_encoding.specs.Percent.{percent_decode}
use Rattle.odata_queries.specs.Query.{decoded_name, is_filter, is_filter_name, is_refused_name, name_of}

-- Characters of a name.

-- a NUL or a byte order mark: some readers pass over it, wherever it stands
abbrev pub is_silent : ℕ → Bool
is_silent c = c == 0 || c == 65279

-- some reader takes a decoded name apart here: at `;`, `&` or `?`, or at a silent character
abbrev pub is_mark : ℕ → Bool
is_mark c = is_silent c || c == 59 || c == 38 || c == 63

-- some reader takes it off at the end of a name: white space, a control character, `+` or `]`
abbrev pub is_back : ℕ → Bool
is_back c = not (is_silent c) && (is_whitespace c || is_control c || c == 43 || c == 93)

-- some reader takes it off in front of a name: one of these, or `[`
abbrev pub is_front : ℕ → Bool
is_front c = is_back c || c == 91

-- Names that are searched.

-- a character as a byte: 0 for a silent one, a space for one that is taken off at the end, 128 for one beyond ASCII
abbrev pub seen : ℕ → ℕ
seen c = if is_silent c then 0 else if is_back c then 32 else if nat_lt c 128 then c else 128

-- what stands between marks
unfoldable pub words_of : List ℕ → List (List ℕ)
words_of bytes = slice_split (λ b. b == 0 || b == 59 || b == 38 || b == 63) bytes

-- without the spaces at both ends, and without `[` in front
abbrev pub bare : List ℕ → List ℕ
bare name =
    let rest = drop (prefix_len (λ b. is_ascii_whitespace b || b == 91) name) name in
    take (length rest - suffix_len is_ascii_whitespace rest) rest

-- one of the words of these characters, up to its `=`, is the filter's name
unfoldable pub has_filter_word : List ℕ → Bool
has_filter_word characters =
    list_any (λ word. is_filter_name (bare (name_of word))) (words_of (map seen characters))

-- a text whose characters have such a word, or have one without the silent ones
unfoldable pub shows_filter : List ℕ → Bool
shows_filter text =
    is_utf8 text
    && (has_filter_word (chars text) || has_filter_word (filter (λ c. not (is_silent c)) (chars text)))

-- Escapes.

-- `%u00` and two hexadecimal digits (CGI.pm, Mono's System.Web)
abbrev pub is_long_escape : List ℕ → Bool
is_long_escape text =
    slice_index text 0 == 37 && slice_index text 1 == 117 && slice_index text 2 == 48 && slice_index text 3 == 48
    && is_digit (slice_index text 4) 16 && is_digit (slice_index text 5) 16

-- the text with `%` for the `%u00` of each such escape, so many bytes of it left out
unfoldable pub shortened : ℕ → List ℕ → List ℕ
shortened skipped [] = []
shortened skipped (b ∷ rest) =
    if skipped == 0 then b ∷ shortened (if is_long_escape (b ∷ rest) then 3 else 0) rest
    else shortened (skipped - 1) rest

-- decoded once by a reader that takes long escapes too, or does not
abbrev pub decoded_once : Bool → List ℕ → List ℕ
decoded_once long text = percent_decode (if long then shortened 0 text else text)

-- decoded once or twice by such a reader it shows the filter
unfoldable pub shows_decoded : Bool → List ℕ → Bool
shows_decoded long text =
    shows_filter (decoded_once long text) || shows_filter (decoded_once long (decoded_once long text))

-- a part whose name shows the filter, as it stands or decoded
unfoldable pub hides_filter : List ℕ → Bool
hides_filter part =
    shows_filter (name_of part) || shows_decoded false (name_of part) || shows_decoded true (name_of part)

-- Parentheses, in which `$expand` and `$select` have options of their own, between `;`.

-- how many `(` are not closed after these bytes, if so many were not before
abbrev pub depth_after : ℕ → List ℕ → ℕ
depth_after depth [] = depth
depth_after depth (b ∷ rest) =
    depth_after (if b == 40 then depth + 1 else if b == 41 then depth - 1 else depth) rest

-- the bytes outside parentheses, of which so many are around
abbrev pub outside : ℕ → List ℕ → List ℕ
outside depth [] = []
outside depth (b ∷ rest) =
    if b == 40 then outside (depth + 1) rest else if b == 41 then outside (depth - 1) rest
    else if depth == 0 then b ∷ outside depth rest else outside depth rest

-- a `(` that stands in no other and follows no name, but one of `=`, `,`, `/` and `;`; or a `;` right after its `(`
abbrev pub is_misplaced : ℕ → ℕ → ℕ → Bool
is_misplaced depth before b =
    (depth == 0 && b == 40 && (before == 61 || before == 44 || before == 47 || before == 59))
    || (depth == 1 && before == 40 && b == 59)

-- one of these bytes is misplaced, if so many `(` are around and this byte stands before
abbrev pub has_misplaced : ℕ → ℕ → List ℕ → Bool
has_misplaced depth before [] = false
has_misplaced depth before (b ∷ rest) =
    is_misplaced depth before b
    || has_misplaced (if b == 40 then depth + 1 else if b == 41 then depth - 1 else depth) b rest

-- `expand` and `select`, whose values have options of their own in parentheses, between `;`
unfoldable pub is_nesting_name : List ℕ → Bool
is_nesting_name name =
    list_any (str_eq_ignore_ascii_case name) (codes "expand" ∷ codes "$expand" ∷ codes "select" ∷ codes "$select" ∷ [])

-- such an option, whose parentheses close, follow names and begin with an option
abbrev pub holds_options : List ℕ → Bool
holds_options piece =
    is_nesting_name (decoded_name piece) && depth_after 0 piece == 0 && not (has_misplaced 0 0 piece)

-- what readers take apart of a piece: no options in such parentheses
abbrev pub open_text : List ℕ → List ℕ
open_text piece = if holds_options piece then outside 0 piece else piece

-- Disguises.

-- a system query option other than the filter, in whose value nothing is a URL
abbrev pub is_system_option : List ℕ → Bool
is_system_option piece = is_refused_name (decoded_name piece)

-- the parts of a text between `;`, between `?`, between both, or the whole
abbrev pub parts_at : Bool → Bool → List ℕ → List (List ℕ)
parts_at semicolons urls text = slice_split (λ b. (semicolons && b == 59) || (urls && b == 63)) text

-- one of these parts hides the filter
unfoldable pub part_hides : Bool → Bool → List ℕ → Bool
part_hides semicolons urls text = list_any hides_filter (parts_at semicolons urls text)

-- a part hides the filter: of the filter's own piece after its first `;`; of a system query option at `?` too
abbrev pub is_disguised : List ℕ → Bool
is_disguised piece =
    let text = open_text piece in
    if is_filter piece then part_hides true false (after_first (λ b. b == 59) text)
    else part_hides false false text || part_hides true false text
    || (is_system_option piece && (part_hides false true text || part_hides true true text))
