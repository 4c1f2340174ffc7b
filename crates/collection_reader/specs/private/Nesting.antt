-- Where bytes end among brackets, braces and texts.
use Rattle.std.specs.Prelude.{ℕ, ◌+◌, ◌-◌, ◌==◌, nat_le, Option, None, Some, if◌then◌else◌}
use Rattle.collection_reader.specs.declared.kind.Kind.{Kind}
use Rattle.collection_reader.specs.declared.nest.Mode.{Mode}
use Rattle.collection_reader.specs.declared.nest.Nest.{Nest}

-- with one more byte of that kind outside texts
abbrev pub outside_texts : (most depth : ℕ) → Kind → Option Nest
outside_texts most depth Kind.Quote = Some (record { depth = depth; mode = Mode.Text })
outside_texts most depth Kind.Brace =
    if nat_le most depth then None else Some (record { depth = depth + 1; mode = Mode.Outside })
outside_texts most depth Kind.Bracket =
    if nat_le most depth then None else Some (record { depth = depth + 1; mode = Mode.Outside })
outside_texts most depth Kind.BraceEnd =
    if depth == 0 then None else Some (record { depth = depth - 1; mode = Mode.Outside })
outside_texts most depth Kind.BracketEnd =
    if depth == 0 then None else Some (record { depth = depth - 1; mode = Mode.Outside })
outside_texts most depth _ = Some (record { depth = depth; mode = Mode.Outside })

-- with one more byte of that kind in a text
abbrev pub in_text : (depth : ℕ) → Kind → Option Nest
in_text depth Kind.Quote = Some (record { depth = depth; mode = Mode.Outside })
in_text depth Kind.Backslash = Some (record { depth = depth; mode = Mode.Escape })
in_text depth Kind.Feed = None
in_text depth _ = Some (record { depth = depth; mode = Mode.Text })

-- with one more byte of that kind after a backslash in a text
abbrev pub after_escape : (depth : ℕ) → Kind → Option Nest
after_escape depth Kind.Feed = None
after_escape depth _ = Some (record { depth = depth; mode = Mode.Text })

abbrev pub in_mode : (most depth : ℕ) → Mode → Kind → Option Nest
in_mode most depth Mode.Outside kind = outside_texts most depth kind
in_mode most depth Mode.Text kind = in_text depth kind
in_mode most depth Mode.Escape kind = after_escape depth kind

-- where bytes end with one more of that kind; none where that is no JSON
abbrev pub after_kind : (most : ℕ) → Nest → Kind → Option Nest
after_kind most nest kind = in_mode most nest.depth nest.mode kind
