-- How far a scan over a document has come, and what one more byte does.
use Rattle.std.specs.Prelude.{ℕ, ◌==◌, List, length, Bool, true, false, Option, None, Some, if◌then◌else◌}
use Rattle.collection_reader.specs.declared.item_scan.Phase.{Phase}
use Rattle.collection_reader.specs.declared.item_scan.Scan.{Scan}
use Rattle.collection_reader.specs.declared.item_scan.Step.{Step}
use Rattle.collection_reader.specs.declared.kind.Kind.{Kind}
use Rattle.collection_reader.specs.declared.nest.Mode.{Mode}
use Rattle.collection_reader.specs.declared.nest.Nest.{Nest}
use Rattle.collection_reader.specs.private.Kinds.{kind_of}
use Rattle.collection_reader.specs.private.Nesting.{after_kind}
use Rattle.collection_reader.specs.private.ValueName.{names_value}

abbrev pub at_phase : Scan → Phase → Scan
at_phase scan phase = record { phase = phase; nest = scan.nest; name = scan.name; is_named = scan.is_named }

-- a byte that no text of UTF-8 has is put for one that makes the document no collection
abbrev pub refused : Scan → Step
refused scan = record { scan = at_phase scan Phase.Over; put = Some 255 }

abbrev pub is_outside : Mode → Bool
is_outside Mode.Outside = true
is_outside _ = false

abbrev pub is_at : ℕ → ℕ → Mode → Bool
is_at wanted depth Mode.Outside = depth == wanted
is_at wanted depth _ = false

-- the bytes of an item end outside its brackets, braces and texts
abbrev pub is_between : Nest → Bool
is_between nest = is_at 0 nest.depth nest.mode

-- the bytes end in the document's own object, outside texts
abbrev pub is_own : Nest → Bool
is_own nest = is_at 1 nest.depth nest.mode

abbrev pub go_on_to : Scan → ℕ → Option Nest → Step
go_on_to scan put None = refused scan
go_on_to scan put (Some nest) = record {
  scan = record { phase = Phase.Item; nest = nest; name = scan.name; is_named = scan.is_named };
  put = Some put;
}

-- an item goes on by a byte of that kind, for which that is put; it nests no deeper than 125
abbrev pub go_on : Scan → Kind → ℕ → Step
go_on scan kind put = go_on_to scan put (after_kind 125 scan.nest kind)

abbrev pub after_blank : Phase → Phase
after_blank Phase.Item = Phase.Ended
after_blank phase = phase

-- after the bracket that opens the array
abbrev pub opened : Scan → Scan
opened scan = record {
  phase = Phase.Opened;
  nest = record { depth = 0; mode = Mode.Outside };
  name = scan.name;
  is_named = false;
}

-- after the bracket that closes the array
abbrev pub closed : Scan → Scan
closed scan = record {
  phase = Phase.Back;
  nest = record { depth = 1; mode = Mode.Outside };
  name = scan.name;
  is_named = false;
}

-- a comma ends an item
abbrev pub at_comma : Phase → Scan → Step
at_comma Phase.Item scan = record { scan = at_phase scan Phase.Comma; put = Some 10 }
at_comma Phase.Ended scan = record { scan = at_phase scan Phase.Comma; put = Some 10 }
at_comma _ scan = refused scan

-- the bracket ends the last item, or an array of none
abbrev pub at_bracket : Phase → Scan → Step
at_bracket Phase.Opened scan = record { scan = closed scan; put = None }
at_bracket Phase.Item scan = record { scan = closed scan; put = Some 10 }
at_bracket Phase.Ended scan = record { scan = closed scan; put = Some 10 }
at_bracket _ scan = refused scan

-- another byte begins an item or goes on with one, if no blank came after that
abbrev pub at_other : Phase → Scan → Kind → ℕ → Step
at_other Phase.Ended scan kind byte = refused scan
at_other _ scan kind byte = go_on scan kind byte

abbrev pub between_step : Scan → ℕ → Kind → Step
between_step scan byte Kind.Blank = record { scan = at_phase scan (after_blank scan.phase); put = None }
between_step scan byte Kind.Feed = record { scan = at_phase scan (after_blank scan.phase); put = None }
between_step scan byte Kind.Comma = at_comma scan.phase scan
between_step scan byte Kind.BracketEnd = at_bracket scan.phase scan
between_step scan byte kind = at_other scan.phase scan kind byte

-- a line feed and a carriage return are spaces in a line
abbrev pub within_step : Scan → ℕ → Kind → Step
within_step scan byte Kind.Feed = go_on scan Kind.Feed 32
within_step scan byte kind = go_on scan kind byte

abbrev pub item_step_of : Scan → ℕ → Kind → Step
item_step_of scan byte kind =
    if is_between scan.nest then between_step scan byte kind else within_step scan byte kind

-- a step between the brackets of the array
abbrev pub item_step : Scan → ℕ → Step
item_step scan byte = item_step_of scan byte (kind_of byte)

abbrev pub go_past : Scan → Option Nest → Step
go_past scan None = refused scan
go_past scan (Some nest) = record {
  scan = record { phase = scan.phase; nest = nest; name = scan.name; is_named = scan.is_named };
  put = None;
}

-- a step after the items
abbrev pub back_step : Scan → ℕ → Step
back_step scan byte = go_past scan (after_kind 127 scan.nest (kind_of byte))

abbrev pub named_after : Scan → List ℕ → Kind → Bool
named_after scan front Kind.Colon = names_value front scan.name
named_after scan front Kind.Blank = scan.is_named
named_after scan front Kind.Feed = scan.is_named
named_after scan front _ = false

abbrev pub name_after : Scan → ℕ → Kind → ℕ
name_after scan offset Kind.Quote = offset
name_after scan offset _ = scan.name

abbrev pub is_bracket : Kind → Bool
is_bracket Kind.Bracket = true
is_bracket _ = false

-- in the document's own object: the bracket after the colon of a member `value` opens the array
abbrev pub own_step : Scan → List ℕ → Kind → Step
own_step scan front kind =
    if (if scan.is_named then is_bracket kind else false) then record { scan = opened scan; put = None }
    else go_past (record {
      phase = scan.phase;
      nest = scan.nest;
      name = name_after scan (length front) kind;
      is_named = named_after scan front kind;
    }) (after_kind 127 scan.nest kind)

abbrev pub front_step_of : Scan → List ℕ → Kind → Step
front_step_of scan front kind =
    if is_own scan.nest then own_step scan front kind else go_past scan (after_kind 127 scan.nest kind)

-- a step before the items, after these bytes
abbrev pub front_step : Scan → List ℕ → ℕ → Step
front_step scan front byte = front_step_of scan front (kind_of byte)
