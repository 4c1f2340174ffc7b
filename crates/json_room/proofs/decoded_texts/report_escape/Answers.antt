use Rattle.std.proofs.Common.{◌+◌, List, ℕ, string_bytes, sym, subst}
use Rattle.json_room.specs.private.Escapes.{EscapesAt, ReportsTo}
use Rattle.json_room.proofs.ReportedLemmas.{escape_reported}
use Rattle.json_room.proofs.decoded_texts.report_escape.Goals as goal

pub returns-in-Ok : goal.returns-in-Ok
returns-in-Ok c =
    let d = c.args.quoted.now in
    let i = c.args.place in
    let reported = string_bytes c.args.reported.now in
    let f = c.in-Some in
    let escapes : EscapesAt d (i + 1) f.character f.next = subst (λ (t : List ℕ). EscapesAt t (i + 1) f.character f.next) c.as_bytes.ensures.value f.ensures in
    subst (λ (more : List ℕ). ReportsTo d reported i more f.next) (sym c.in-Ok.ensures.bytes)
    (escape_reported d reported i f.next f.character c.utf8.quoted c.requires.within c.requires.backslash escapes)
