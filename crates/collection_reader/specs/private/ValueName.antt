-- The name of a collection's array, as it is spelled in a document.
use Rattle.std.specs.Prelude.{ℕ, ◌+◌, ◌==◌, ◌&&◌, ◌||◌, List, length, get_or, bit_or, Bool, false, nat_le, nat_lt, if◌then◌else◌}
use Rattle.collection_reader.specs.declared.value_name.Letter.{Letter}

-- an escape by `\u00` and two digits stands there
abbrev pub is_escape : List ℕ → ℕ → Letter → Bool
is_escape bytes offset letter =
    get_or bytes offset 0 == 92 && get_or bytes (offset + 1) 0 == 117
    && get_or bytes (offset + 2) 0 == 48 && get_or bytes (offset + 3) 0 == 48
    && get_or bytes (offset + 4) 0 == letter.high && bit_or (get_or bytes (offset + 5) 0) 32 == letter.low

-- the offset after a letter; 0 where it does not stand there
unfoldable pub after_letter : List ℕ → ℕ → Letter → ℕ
after_letter bytes offset letter =
    if offset == 0 || nat_le (length bytes) offset then 0
    else if get_or bytes offset 0 == letter.letter then offset + 1
    else if is_escape bytes offset letter then offset + 6 else 0

-- the offset after a quote; 0 past the end
abbrev pub after_quote : List ℕ → ℕ → ℕ
after_quote bytes quote = if nat_lt quote (length bytes) then quote + 1 else 0

-- a quote stands at an offset that is not 0
abbrev pub ends_there : List ℕ → ℕ → Bool
ends_there bytes offset = if offset == 0 then false else get_or bytes offset 0 == 34

-- the text that begins at that offset is `value` (RFC 8259, section 7)
unfoldable pub names_value : List ℕ → ℕ → Bool
names_value bytes quote =
    let first = after_quote bytes quote in
    let v = after_letter bytes first (record { letter = 118; high = 55; low = 54 }) in
    let a = after_letter bytes v (record { letter = 97; high = 54; low = 49 }) in
    let l = after_letter bytes a (record { letter = 108; high = 54; low = 99 }) in
    let u = after_letter bytes l (record { letter = 117; high = 55; low = 53 }) in
    let e = after_letter bytes u (record { letter = 101; high = 54; low = 53 }) in
    ends_there bytes e
