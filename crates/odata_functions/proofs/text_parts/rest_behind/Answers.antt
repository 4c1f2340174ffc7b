use Rattle.std.proofs.Common.{◌≡◌, ℕ, List, subst, sym, arith}
use Rattle.odata_functions.proofs.texts.Offsets.{IsRead, all_read, next_read, none_read, nothing_left, read_rest}
use Rattle.odata_functions.specs.private.Cuts.{IsRemaining}
use Rattle.odata_functions.proofs.text_parts.rest_behind.Goals as goal

pub loop-init : goal.loop-init
loop-init c = subst (λ (x : List ℕ). IsRead c.args.text.now x 0) (sym c.chars-rest.ensures.rest) (none_read c.args.text.now c.utf8.text)

pub loop-preserved : goal.loop-preserved
loop-preserved c =
    next_read c.args.text.now c.utf8.text c.loop.rest.rest.now c.next.new.self.rest.now c.loop.counter c.next.result _ c.loop.invariant
    c.next.ensures.steps.0 c.if-is_none.ensures

pub returns-then-is_none : goal.returns-then-is_none
returns-then-is_none c =
    all_read c.args.text.now c.utf8.text c.loop.rest.rest.now c.loop.counter c.args.count c.loop.invariant
    (nothing_left c.loop.rest.rest.now c.next.result _ _ c.next.ensures.steps.0 c.if-is_none.ensures) (omega arith)

pub returns : goal.returns
returns c =
    let all : c.loop.counter ≡ c.args.count = omega arith in
    subst (λ (x : List ℕ). IsRemaining c.args.text.now x c.args.count) (sym c.as_str.ensures)
    (subst (IsRemaining c.args.text.now c.loop.rest.rest.now) all (read_rest c.args.text.now c.utf8.text c.loop.rest.rest.now c.loop.counter c.loop.invariant))
