use Rattle.std.proofs.Common.{length}
use Rattle.std.proofs.lemmas.List.{take_rest}
use Rattle.std.specs.Prelude.{slice_range}
use Rattle.json_room.proofs.EscapeLemmas.{closed_at_once}
use Rattle.json_room.proofs.decoded_texts.first_quote.Goals as goal

pub returns : goal.returns
returns c =
    let d = c.args.bytes.now in
    let found = c.in-Some.ensures in
    closed_at_once d (slice_range d c.args.from (length d)) c.args.from c.in-Some.place c.requires (take_rest d c.args.from) found.0.high found.0.before found.1
    (c.is_behind_backslash.ensures c.if-is_behind_backslash.false)
