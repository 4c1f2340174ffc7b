use Rattle.std.proofs.Common.{◌≡◌, ap, sym, ◌∙◌, ◌-◌, length, slice_get, None, Some}
use Rattle.std.specs.Option.{option_copied}
use Rattle.odata_syntax.proofs.lists.Held.{opens_group}
use Rattle.odata_syntax.proofs.lists.Opens.{opens_first}
use Rattle.odata_syntax.proofs.parser.state.State.pop_in.Goals as goal

pub returns-in-Some-Pending-Binary-clause-other : goal.returns-in-Some-Pending-Binary-clause-other
returns-in-Some-Pending-Binary-clause-other c = λ texts trees start.
    let frames = c.args.self.now.frames.items in
    let at : slice_get frames (length frames - 1) ≡ Some c.in-Some-Pending-Binary.field-0.now =
    ap (λ k. slice_get k (length k - 1)) (sym c.deref.ensures.value) ∙ sym c.last.ensures.value ∙ ap option_copied c.in-Some-Pending-Binary.is in
    opens_group texts frames c.in-Some-Pending-Binary.field-0.now trees start at (rw (c.in-Some-Pending-Binary.field-0-is, c.in-Some-Pending-Binary.field-0-0-is) tt)

pub returns-in-Some-Pending-Has-clause-other : goal.returns-in-Some-Pending-Has-clause-other
returns-in-Some-Pending-Has-clause-other c = λ texts trees start.
    let frames = c.args.self.now.frames.items in
    let at : slice_get frames (length frames - 1) ≡ Some c.in-Some-Pending-Has.field-0.now =
    ap (λ k. slice_get k (length k - 1)) (sym c.deref.ensures.value) ∙ sym c.last.ensures.value ∙ ap option_copied c.in-Some-Pending-Has.is in
    opens_group texts frames c.in-Some-Pending-Has.field-0.now trees start at (rw (c.in-Some-Pending-Has.field-0-is, c.in-Some-Pending-Has.field-0-0-is) tt)

pub returns-in-Some-Pending-Minus-clause-other : goal.returns-in-Some-Pending-Minus-clause-other
returns-in-Some-Pending-Minus-clause-other c = λ texts trees start.
    let frames = c.args.self.now.frames.items in
    let at : slice_get frames (length frames - 1) ≡ Some c.in-Some-Pending-Minus.field-0.now =
    ap (λ k. slice_get k (length k - 1)) (sym c.deref.ensures.value) ∙ sym c.last.ensures.value ∙ ap option_copied c.in-Some-Pending-Minus.is in
    opens_group texts frames c.in-Some-Pending-Minus.field-0.now trees start at (rw (c.in-Some-Pending-Minus.field-0-is, c.in-Some-Pending-Minus.field-0-0-is) tt)

pub returns-in-Some-Pending-Not-clause-other : goal.returns-in-Some-Pending-Not-clause-other
returns-in-Some-Pending-Not-clause-other c = λ texts trees start.
    let frames = c.args.self.now.frames.items in
    let at : slice_get frames (length frames - 1) ≡ Some c.in-Some-Pending-Not.field-0.now =
    ap (λ k. slice_get k (length k - 1)) (sym c.deref.ensures.value) ∙ sym c.last.ensures.value ∙ ap option_copied c.in-Some-Pending-Not.is in
    opens_group texts frames c.in-Some-Pending-Not.field-0.now trees start at (rw (c.in-Some-Pending-Not.field-0-is, c.in-Some-Pending-Not.field-0-0-is) tt)

pub returns-in-Some-Open-clause-other : goal.returns-in-Some-Open-clause-other
returns-in-Some-Open-clause-other c = λ texts trees start.
    let frames = c.args.self.now.frames.items in
    let at : slice_get frames (length frames - 1) ≡ Some c.in-Some-Open.field-0.now =
    ap (λ k. slice_get k (length k - 1)) (sym c.deref.ensures.value) ∙ sym c.last.ensures.value ∙ ap option_copied c.in-Some-Open.is in
    opens_group texts frames c.in-Some-Open.field-0.now trees start at (rw c.in-Some-Open.field-0-is tt)

pub returns-in-None-clause-other : goal.returns-in-None-clause-other
returns-in-None-clause-other c = λ texts trees start.
    let frames = c.args.self.now.frames.items in
    let at : slice_get frames (length frames - 1) ≡ None =
    ap (λ k. slice_get k (length k - 1)) (sym c.deref.ensures.value) ∙ sym c.last.ensures.value ∙ ap option_copied c.in-None.is in
    opens_first texts frames trees start at
