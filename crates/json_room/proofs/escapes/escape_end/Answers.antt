use Rattle.std.proofs.Common.{◌≡◌, ◌<◌, length, get_or, refl, sym, ◌∙◌, subst, arith}
use Rattle.std.proofs.lemmas.List.{get_or_default}
use Rattle.json_room.specs.private.PassedTexts.{IsShortEscape}
use Rattle.json_room.proofs.EscapesPassed.{short_passes}
use Rattle.json_room.proofs.RoomLemmas.{within_byte}
use Rattle.json_room.proofs.escapes.escape_end.Goals as goal

pub returns-then-is_short_escape : goal.returns-then-is_short_escape
returns-then-is_short_escape c =
    let d = c.args.line.now in
    let i = c.args.place in
    let short : IsShortEscape (get_or d i 10) = subst IsShortEscape c.byte-byte.ensures.here (c.is_short_escape.ensures c.if-is_short_escape.true) in
    let within : i < length d = within_byte d i (get_or d i 10) refl short.no_line_feed in
    short_passes d i within (subst IsShortEscape (sym (get_or_default d i 0 10 within)) short)

pub unit_end-requires : goal.unit_end-requires
unit_end-requires c =
    let d = c.args.line.now in
    let i = c.args.place in
    let here : get_or d i 10 ≡ 117 = sym c.byte-byte.ensures.here ∙ c.if-byte-eq117.true in
    let within : i < length d = within_byte d i 117 here (λ e. omega (arith, e)) in
    record { within = omega (arith, within); after_u = (i, refl, get_or_default d i 0 10 within ∙ here) }

pub returns-then-byte-eq117 : goal.returns-then-byte-eq117
returns-then-byte-eq117 c = c.unit_end.ensures c.args.place refl
