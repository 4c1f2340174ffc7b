use Rattle.std.proofs.Common.{◌≡◌, ◌+◌, ◌<◌, length, get_or, inl, inr, sym, ◌∙◌, subst, arith}
use Rattle.std.specs.Str.{IsUtf8}
use Rattle.json_room.proofs.EscapesPassed.{begun, closed, escape_up_to, run_further, run_up_to}
use Rattle.json_room.proofs.RoomLemmas.{other_default, within_byte}
use Rattle.json_room.proofs.escaped_texts.passed_text_end.Goals as goal

pub escapes-init : goal.escapes-init
escapes-init c =
    let d = c.args.line.now in
    let utf8 : IsUtf8 d = subst IsUtf8 c.text-text.ensures c.text-text.utf8 in
    let i = c.args.place in
    let opened : get_or d i 10 ≡ 34 = sym c.byte.ensures.here ∙ c.if-byte-ne34.false in
    let within : i < length d = within_byte d i 34 opened (λ e. omega (arith, e)) in
    let run = c.plain_end-at in
    run_further d i (i + 1) run.result (begun d utf8 i within (other_default d i 34 opened (λ e. omega (arith, e)))) run.ensures.bounds.0 run.ensures.bounds.1 run.ensures.plain

pub escapes-preserved : goal.escapes-preserved
escapes-preserved c =
    let d = c.args.line.now in
    let utf8 : IsUtf8 d = subst IsUtf8 c.text-text.ensures c.text-text.utf8 in
    let i = c.args.place in
    let at = c.escapes.at in
    let escape : get_or d at 10 ≡ 92 = sym c.byte-in-escapes.ensures.here ∙ c.escapes-test.true in
    let inside : at < length d = within_byte d at 92 escape (λ e. omega (arith, e)) in
    let backslash = other_default d at 92 escape (λ e. omega (arith, e)) in
    let run = c.plain_end-at-in-escapes in
    run_further d i c.in-Some.next run.result (escape_up_to d utf8 i at c.in-Some.next (run_up_to d utf8 i at c.escapes.invariant (inr backslash)) backslash c.in-Some.ensures) run.ensures.bounds.0 run.ensures.bounds.1 run.ensures.plain

pub returns-then-byte-eq34-clause-text : goal.returns-then-byte-eq34-clause-text
returns-then-byte-eq34-clause-text c =
    let d = c.args.line.now in
    let utf8 : IsUtf8 d = subst IsUtf8 c.text-text.ensures c.text-text.utf8 in
    let i = c.args.place in
    let at = c.escapes.at in
    let opened : get_or d i 10 ≡ 34 = sym c.byte.ensures.here ∙ c.if-byte-ne34.false in
    let quote : get_or d at 10 ≡ 34 = sym c.byte-2.ensures.here ∙ c.if-byte-eq34.true in
    let within : at < length d = within_byte d at 34 quote (λ e. omega (arith, e)) in
    let ended = other_default d at 34 quote (λ e. omega (arith, e)) in
    let up = run_up_to d utf8 i at c.escapes.invariant (inl ended) in
    (up.passed, closed d utf8 i at (other_default d i 34 opened (λ e. omega (arith, e))) up within ended, up.utf8)

pub returns-then-byte-eq34-clause-further : goal.returns-then-byte-eq34-clause-further
returns-then-byte-eq34-clause-further c = omega (arith, c.escapes.invariant.passed.bounds.0, c.escapes.invariant.bounds.0)
