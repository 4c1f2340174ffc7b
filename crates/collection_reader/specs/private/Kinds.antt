-- Kinds of bytes.
use Rattle.std.specs.Prelude.{ℕ, ◌==◌, ◌||◌, if◌then◌else◌}
use Rattle.collection_reader.specs.declared.kind.Kind.{Kind}

-- what a byte is outside a text of JSON (RFC 8259, section 2)
unfoldable pub kind_of : ℕ → Kind
kind_of byte =
    if byte == 34 then Kind.Quote else if byte == 92 then Kind.Backslash
    else if byte == 123 then Kind.Brace else if byte == 91 then Kind.Bracket
    else if byte == 125 then Kind.BraceEnd else if byte == 93 then Kind.BracketEnd
    else if byte == 44 then Kind.Comma else if byte == 58 then Kind.Colon
    else if byte == 32 || byte == 9 then Kind.Blank
    else if byte == 10 || byte == 13 then Kind.Feed else Kind.Other
