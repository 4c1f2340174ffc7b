use Rattle.std.proofs.Common.{◌∙◌, arith}
use Rattle.edm_rows.proofs.RootEnds.{ends_conform}
use Rattle.edm_rows.proofs.UnseenNull.{fills_seen}
use Rattle.edm_rows.proofs.absent_slots.ends_object.Goals as goal

pub returns-then-are_all-clause-fills : goal.returns-then-are_all-clause-fills
returns-then-are_all-clause-fills g c _ =
    fills_seen c.args.plan.now (g.M.SeenSlots.bits c.args.seen) c.args.values.now
    (λ k inside. c.are_all.ensures.0 c.if-are_all.true k (omega (arith, inside, c.requires.marks.room)) ∙ c.requires.marks.all k inside)

pub returns-clause-conforms : goal.returns-clause-conforms
returns-clause-conforms g c context root =
    let e = c.null_absent.ensures in
    ends_conform context c.args.plan.now root (g.M.SeenSlots.bits c.args.seen) c.null_absent.result c.args.values.now c.null_absent.new.values c.requires.as_many e.fills e.stays
