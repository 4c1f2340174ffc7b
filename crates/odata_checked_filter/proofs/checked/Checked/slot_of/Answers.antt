use Rattle.std.proofs.Common.{ap, sym}
use Rattle.odata_checked_filter.proofs.flat.Numbered.{no_slot, no_slot_past, no_slot_there, numbered, past_end, slot_at, slot_of_kind}
use Rattle.odata_checked_filter.proofs.checked.Checked.slot_of.Goals as goal

pub returns-in-Property-clause-found : goal.returns-in-Property-clause-found
returns-in-Property-clause-found c =
    slot_at c.args.self.now c.args.node c.in-Property.slot c.in-Some.found.now
    (numbered c.args.self.now c.args.node c.in-Some.found.now c.node_at.ensures.right (sym c.in-Some.ensures.same))
    (ap slot_of_kind c.in-Property.is)

pub returns-in-Member-clause-found : goal.returns-in-Member-clause-found
returns-in-Member-clause-found c =
    slot_at c.args.self.now c.args.node c.in-Member.slot c.in-Some.found.now
    (numbered c.args.self.now c.args.node c.in-Some.found.now c.node_at.ensures.right (sym c.in-Some.ensures.same))
    (ap slot_of_kind c.in-Member.is)

pub returns-in_default : goal.returns-in_default
returns-in_default c = record {
  found = tt;
  none = λ slot.
      no_slot_there c.trees_have_one_type.ensures c.args.self.now c.args.node slot c.in-Some.found.now
      (numbered c.args.self.now c.args.node c.in-Some.found.now c.node_at.ensures.right (sym c.in-Some.ensures.same))
      (no_slot c.in-Some.found.now.kind c.in_default.not-Property c.in_default.not-Member);
}

pub returns-in-None-clause-none : goal.returns-in-None-clause-none
returns-in-None-clause-none c = λ slot names.
    no_slot_past c.args.self.now c.args.node slot c.node_at.ensures.right (past_end c.args.self.now.list.nodes c.args.node c.in-None.ensures.same) names
