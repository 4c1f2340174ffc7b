-- What a filter's text shows of what was meant, each a pattern of a line.
use Rattle.std.specs.Prelude.{ℕ, ◌-◌, ◌==◌, Bool, ◌&&◌, ◌||◌, not, if◌then◌else◌, List, codes, length, slice_index, take, Option, Some, None}
use Rattle.std.specs.Char.{is_ascii_alphabetic, is_ascii_digit, is_ascii_hexdigit, to_ascii_lowercase}
use Rattle.std.specs.List.{list_any}
use Rattle.std.specs.Str.{str_eq_ignore_ascii_case}
use Rattle.fault_sentences.specs.declared.fault_class.FaultClass.{FaultClass}
use Rattle.fault_sentences.specs.declared.fault_class.FaultClass.TheVariants.{Text, Syntax, Typing}
use Rattle.fault_sentences.specs.declared.hint.Hint.{Hint}
use Rattle.fault_sentences.specs.declared.hint.Hint.TheVariants.{Plus, Sum, Product, Remainder, Alias, OptionName, Symbol, DoubleQuote, EscapedTwice, Apostrophe, Fraction, Offset, Suffix, TypedLiteral, Substring, Cast}

-- `2020-01-01T`, by its marks
abbrev pub begins_date_time : List ℕ → Bool
begins_date_time at = slice_index at 4 == 45 && slice_index at 7 == 45 &&
    (slice_index at 10 == 84 || slice_index at 10 == 116)

-- one of the symbols `!`, `&`, `<`, `=`, `>` and `|`, which other languages have for operators
abbrev pub is_symbol : ℕ → Bool
is_symbol b = b == 33 || b == 38 || b == 60 || b == 61 || b == 62 || b == 124

-- a number, and no time of day
abbrev pub begins_number : List ℕ → Bool
begins_number at = is_ascii_digit (slice_index at 0) && not (slice_index at 2 == 58)

-- a `'` directly after a letter, as in `guid'`
abbrev pub is_typed_literal : List ℕ → List ℕ → Bool
is_typed_literal before at =
    slice_index at 0 == 39 && is_ascii_alphabetic (slice_index before (length before - 1))

-- two hexadecimal digits after the first byte
abbrev pub is_escape : List ℕ → Bool
is_escape at = is_ascii_hexdigit (slice_index at 1) && is_ascii_hexdigit (slice_index at 2)

-- `+` beside a space is an operator of other languages, else a space of a URL
abbrev pub plus_hint : List ℕ → List ℕ → Hint
plus_hint before at =
    if slice_index before (length before - 1) == 32 || slice_index at 1 == 32 then Sum else Plus

-- `%` before two hexadecimal digits is an escape, else an operator of other languages
abbrev pub percent_hint : List ℕ → Hint
percent_hint at = if is_escape at then EscapedTwice else Remainder

-- the name of the filter's query option (URL Conventions 4.01, section 5.1.1)
abbrev pub is_option_name : List ℕ → Bool
is_option_name name =
    str_eq_ignore_ascii_case name (codes "$filter") || str_eq_ignore_ascii_case name (codes "filter")

-- a character that begins no token (number 1 of TextFault), with what stands before it and from it on
abbrev pub character_hint : List ℕ → List ℕ → Option Hint
character_hint before at =
    let b = slice_index at 0 in
    if b == 43 then Some (plus_hint before at) else if b == 34 then Some DoubleQuote
    else if b == 37 then Some (percent_hint at) else if b == 42 then Some Product
    else if b == 64 then Some Alias else if b == 61 && is_option_name before then Some OptionName
    else if is_symbol b then Some Symbol else None

-- one of the letters that other languages put after a number: `d`, `f`, `l` and `m`
abbrev pub is_suffix_letter : ℕ → Bool
is_suffix_letter b =
    let lower = to_ascii_lowercase b in
    lower == 100 || lower == 102 || lower == 108 || lower == 109

-- a number with such a letter, as `5L`: no date or Guid, since it has no `-`
abbrev pub is_suffixed : List ℕ → Bool
is_suffixed run =
    is_ascii_digit (slice_index run 0) && is_suffix_letter (slice_index run (length run - 1))
    && not (list_any (λ b. b == 45) run)

-- a number, date, moment or Guid that runs on
abbrev pub number_hint : List ℕ → ℕ → Option Hint
number_hint at size =
    if begins_date_time at then Some Offset else if is_suffixed (take size at) then Some Suffix else None

-- a text without tokens, by the number of its fault, what stands before it, what stands from there on, and how many
-- bytes of that are its own
abbrev pub text_hint : ℕ → List ℕ → List ℕ → ℕ → Option Hint
text_hint number before at size =
    if number == 1 then character_hint before at
    else if number == 2 then Some Apostrophe
    else if number == 3 && begins_number at then Some Fraction
    else if number == 4 then number_hint at size
    else None

-- a token that cannot stand there
abbrev pub syntax_hint : ℕ → List ℕ → List ℕ → Option Hint
syntax_hint number before at = if number == 1 && is_typed_literal before at then Some TypedLiteral else None

-- a node without a type, whose text has so many bytes
abbrev pub typing_hint : ℕ → List ℕ → ℕ → Option Hint
typing_hint number at size =
    if number == 1 && list_any (λ b. b == 46) (take size at) then Some Cast
    else if number == 2 && str_eq_ignore_ascii_case (take 12 at) (codes "substringof(") then Some Substring
    else None

-- by the fault, what stands before it, what stands from it on, and how many bytes of that are its own
abbrev pub hint_of : FaultClass → ℕ → List ℕ → List ℕ → ℕ → Option Hint
hint_of Text number before at size = text_hint number before at size
hint_of Syntax number before at size = syntax_hint number before at
hint_of Typing number before at size = typing_hint number at size
hint_of _ number before at size = None
