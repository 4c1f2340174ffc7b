use Rattle.std.proofs.Common.{◌+◌, ◌<◌, ◌≤◌, length, sym, subst, arith}
use Rattle.json_room.specs.private.Escapes.{EscapesAt}
use Rattle.json_room.proofs.ReportedLemmas.{byte_escapes, unit_escapes}
use Rattle.json_room.proofs.decoded_escapes.escape_at.Goals as goal

pub returns-in-Some : goal.returns-in-Some
returns-in-Some c =
    let d = c.args.bytes.now in
    let i = c.args.place in
    let within : i < length d = omega (arith, c.requires, c.if-place-bytes.false) in
    byte_escapes d i c.in-Some.reported within c.if-bytes-place-ne117.true c.in-Some.ensures.value c.in-Some.ensures.ascii.0 c.in-Some.ensures.ascii.1

pub returns-in-Some-from_u32 : goal.returns-in-Some-from_u32
returns-in-Some-from_u32 c =
    let d = c.args.bytes.now in
    let i = c.args.place in
    let found = c.in-Some-unit_at in
    let room : i + 5 ≤ length d = omega (arith, c.requires, c.if-bytes-place-lt5.false) in
    subst (λ unit. EscapesAt d i unit (i + 5)) (sym c.in-Some-from_u32.ensures.value.1)
    (unit_escapes d i found.unit room c.if-bytes-place-ne117.false found.ensures.value c.in-Some-from_u32.ensures.cases found.ensures.ascii)
