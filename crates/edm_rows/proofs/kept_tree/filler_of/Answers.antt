use Rattle.std.proofs.Common.{sym, subst}
use Rattle.edm_rows.specs.private.Held.{IsSingle}
use Rattle.edm_rows.proofs.FilledValues.{takes_empty, takes_no_items, takes_null}
use Rattle.edm_rows.proofs.kept_tree.filler_of.Goals as goal

pub returns-in-Items : goal.returns-in-Items
returns-in-Items c = takes_no_items c.args.slot.now c.if-slot.false c.in-Items.is

pub returns-then-slot-2 : goal.returns-then-slot-2
returns-then-slot-2 c = takes_null c.args.slot.now c.if-slot.false (subst IsSingle (sym c.in-Text.is) (λ e. absurd (cc), λ e. absurd (cc))) c.if-slot-2.true

pub returns-else-slot-2 : goal.returns-else-slot-2
returns-else-slot-2 c = takes_empty c.args.slot.now c.if-slot.false c.in-Text.is

pub returns-then-slot-3 : goal.returns-then-slot-3
returns-then-slot-3 c = takes_null c.args.slot.now c.if-slot.false (c.in_default.not-Items, c.in_default.not-Any) c.if-slot-3.true
