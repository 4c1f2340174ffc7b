use Rattle.std.proofs.Common.{◌<◌, ℕ, IfSome, Option, arith, subst}
use Rattle.odata_sql.proofs.OwnSlots.{below_all, below_first, below_on, one_above}
use Rattle.odata_sql.proofs.columns.are_below.Goals as goal

pub loop-at-init : goal.loop-at-init
loop-at-init c = below_first c.args.nodes.now c.args.count

pub loop-at-preserved : goal.loop-at-preserved
loop-at-preserved c =
    below_on c.args.nodes.now c.args.count c.loop-at.at c.loop-at.invariant
    (subst (λ (o : Option ℕ). IfSome o (λ n. n < c.args.count)) c.own_slot_at.ensures (c.is_below.ensures.0 c.if-not-is_below.false))

pub returns-then-not-is_below : goal.returns-then-not-is_below
returns-then-not-is_below c =
    one_above c.args.nodes.now c.args.count c.loop-at.at c.own_slot_at.result c.own_slot_at.ensures c.is_below.result c.is_below.ensures c.if-not-is_below.true

pub returns : goal.returns
returns c = below_all c.args.nodes.now c.args.count c.loop-at.at (omega arith) c.loop-at.invariant
