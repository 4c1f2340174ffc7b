use Rattle.std.proofs.Common.{◌≡◌, ap, sym, ◌∙◌, ◌-◌, length, slice_get, Some, arith}
use Rattle.std.specs.Option.{option_copied}
use Rattle.odata_syntax.specs.declared.parser.state.Frame.{Frame}
use Rattle.odata_syntax.proofs.lists.Held.{held_pending}
use Rattle.odata_syntax.proofs.parser.state.State.pop_closed.Goals as goal

pub returns-then-pending_level-level-clause-held : goal.returns-then-pending_level-level-clause-held
returns-then-pending_level-level-clause-held c = λ texts trees.
    let frames = c.args.self.now.frames.items in
    let pending = c.in-Some-Pending.pending in
    let at : slice_get frames (length frames - 1) ≡ Some (Frame.Pending pending) =
    ap (λ k. slice_get k (length k - 1)) (sym c.deref.ensures.value) ∙ sym c.last.ensures.value
    ∙ ap option_copied c.in-Some-Pending.is ∙ ap (λ k. Some k) c.in-Some-Pending.field-0-is in
    let level = c.pending_level.ensures trees in
    let looser = c.if-pending_level-level.true in
    held_pending texts c.args.level frames pending trees at (omega arith)
