-- Texts whose tokens or first fault are known.
use Rattle.std.specs.Prelude.{ℕ, List, [], ◌∷◌, codes, slice_range}
use Rattle.odata_text.specs.TokenModel.{TokenModel}
use Rattle.odata_text.specs.declared.token.TokenKind.{TokenKind}
use Rattle.odata_text.specs.declared.token.TokenKind.TheVariants.{Word, Int, Moment, Guid, Str, EnumLit}

-- the token of a text from one offset to another
abbrev pub token_in : List ℕ → TokenKind → ℕ → ℕ → TokenModel
token_in text kind start stop = record { kind = kind; start = start; stop = stop; text = slice_range text start stop }

abbrev pub plain_filter : List ℕ
plain_filter = codes "Active and ID eq 1 and Name eq 'a'"

abbrev pub plain_tokens : List TokenModel
plain_tokens =
    token_in plain_filter Word 0 6
    ∷ token_in plain_filter Word 7 10
    ∷ token_in plain_filter Word 11 13
    ∷ token_in plain_filter Word 14 16
    ∷ token_in plain_filter Int 17 18
    ∷ token_in plain_filter Word 19 22
    ∷ token_in plain_filter Word 23 27
    ∷ token_in plain_filter Word 28 30
    ∷ token_in plain_filter Str 31 34
    ∷ []

-- a moment, which begins with what could be a date
abbrev pub moment_filter : List ℕ
moment_filter = codes "Changed gt 2020-01-01T00:00Z"

abbrev pub moment_tokens : List TokenModel
moment_tokens =
    token_in moment_filter Word 0 7 ∷ token_in moment_filter Word 8 10 ∷ token_in moment_filter Moment 11 28 ∷ []

-- a Guid, which begins with what could be a number
abbrev pub guid_filter : List ℕ
guid_filter = codes "ID eq 1234567e-1234-1234-1234-123456789012"

abbrev pub guid_tokens : List TokenModel
guid_tokens = token_in guid_filter Word 0 2 ∷ token_in guid_filter Word 3 5 ∷ token_in guid_filter Guid 6 42 ∷ []

-- a dotted word and a text in quotes
abbrev pub enumeration_filter : List ℕ
enumeration_filter = codes "a.b'x'"

abbrev pub enumeration_tokens : List TokenModel
enumeration_tokens = token_in enumeration_filter EnumLit 0 6 ∷ []

-- a number with a fraction
abbrev pub fraction_filter : List ℕ
fraction_filter = codes "1.5"

-- a number with letters directly after it
abbrev pub run_on_filter : List ℕ
run_on_filter = codes "1st"
