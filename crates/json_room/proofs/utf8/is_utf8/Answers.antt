use Rattle.std.proofs.Common.{◌≡◌, ◌≤◌, length, take, subst, arith}
use Rattle.std.proofs.lemmas.Str.{IsUtf8-nil}
use Rattle.std.specs.Str.{IsUtf8}
use Rattle.json_room.proofs.Utf8Pieces.{ascii_more, run_more}
use Rattle.json_room.proofs.utf8.is_utf8.Goals as goal

pub loop-place-init : goal.loop-place-init
loop-place-init c = (omega arith, IsUtf8-nil)

pub loop-place-preserved : goal.loop-place-preserved
loop-place-preserved c =
    let l = c.loop-place in
    let d = c.args.bytes.now in
    let first = c.ascii_end-first in
    let end = c.beyond_end-end in
    let room : first.result ≤ length d = omega (arith, first.ensures.bounds.1, c.requires) in
    let front : IsUtf8 (take first.result d) = ascii_more d l.place first.result first.ensures.bounds.0 room l.invariant.1 first.ensures.ascii in
    (end.ensures.bounds.1, run_more d first.result end.result end.ensures.bounds.0 front (c.is_run_utf8.ensures c.if-not-is_run_utf8.false))

pub returns : goal.returns
returns c _ =
    let l = c.loop-place in
    let whole : l.place ≡ c.args.count = omega (arith, l.invariant.0) in
    subst (λ n. IsUtf8 (take n c.args.bytes.now)) whole l.invariant.1
