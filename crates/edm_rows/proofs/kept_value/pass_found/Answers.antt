use Rattle.std.proofs.Common.{ℕ, ◌<◌, sym, subst}
use Rattle.edm_rows.specs.private.Contexts.{PassesValue}
use Rattle.edm_rows.proofs.kept_value.pass_found.Goals as goal

pub value_end-requires-clause-slot : goal.value_end-requires-clause-slot
value_end-requires-clause-slot g c = c.requires.slot.is.agrees

pub value_end-requires-clause-task : goal.value_end-requires-clause-task
value_end-requires-clause-task g c = c.requires.slot.is.task

pub returns-in-Some-clause-passed : goal.returns-in-Some-clause-passed
returns-in-Some-clause-passed g c _ =
    subst (λ (d : ℕ). PassesValue c.args.context.now c.args.slot.now c.args.slot.now.task d c.args.place c.read_slot.new.self.place) c.requires.depth
    (subst (PassesValue c.args.context.now c.args.slot.now c.args.slot.now.task c.args.cache.now.depth c.args.place) (sym c.read_slot.ensures.place) c.in-Some.ensures.passed)

pub returns-in-Some-clause-order : goal.returns-in-Some-clause-order
returns-in-Some-clause-order g c _ = subst (λ (k : ℕ). k < 1024) (sym c.read_slot.ensures.order) c.requires.slot.is.order

pub returns-in-Some-clause-further : goal.returns-in-Some-clause-further
returns-in-Some-clause-further g c _ = subst (λ (k : ℕ). c.args.place < k) (sym c.read_slot.ensures.place) c.in-Some.ensures.passed.bounds.0
